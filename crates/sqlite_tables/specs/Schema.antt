-- The two tables and the index of the store, as `sqlite` sees them, and what the statements on them mean.
use Rattle.std.specs.Prelude.{ℕ, codes, true, false, [], ◌∷◌, Some, None, pos}
use Rattle.sqlite.specs.Collation.TheVariants.{Binary}
use Rattle.sqlite.specs.declared.types.Value.TheVariants.{Null, Int}
use Rattle.sqlite.specs.Table.{Table}
use Rattle.sqlite.specs.Schema.{Schema}
use Rattle.sqlite_schema.specs.declared.schema.Index.{Index}
use Rattle.sqlite.specs.Kind.TheVariants.{Integer, Text}
use Rattle.sqlite.specs.Term.{Term, lit, col, op2}
use Rattle.sqlite_sql.specs.declared.ops.BinaryOp.TheVariants.{Compare, Or}
use Rattle.sqlite_sql.specs.declared.ops.CompareOp.TheVariants.{Eq}
use Rattle.sqlite_value.specs.Keys.{plain}

-- CREATE TABLE member(id INTEGER PRIMARY KEY, name TEXT NOT NULL) STRICT
abbrev pub member_table : Table
member_table = record {
  name = codes "member";
  tree = 0;
  columns = (record { name = codes "id"; kind = Integer; is_strict = true; not_null = false; default = Null; collation = Binary })
      ∷ (record { name = codes "name"; kind = Text; is_strict = true; not_null = true; default = Null; collation = Binary }) ∷ [];
  key = Some 0;
  primary = 0 ∷ [];
  uniques = [];
  orders = [];
  checks = [];
  references = [];
  computed = [];
  stamps = record { places = []; terms = []; formats = [] };
  is_counted = false;
}

-- the state of a link is this number
abbrev is_state : ℕ → Term
is_state n = op2 (Compare Eq Binary) (col 1 3) (lit (Int (pos n)))

-- CREATE TABLE link(a INTEGER NOT NULL, b INTEGER NOT NULL, st INTEGER NOT NULL CHECK(st IN (0, 1, 2)), PRIMARY KEY(a, b)) STRICT
abbrev pub link_table : Table
link_table = record {
  name = codes "link";
  tree = 1;
  columns = (record { name = codes "a"; kind = Integer; is_strict = true; not_null = true; default = Null; collation = Binary })
      ∷ (record { name = codes "b"; kind = Integer; is_strict = true; not_null = true; default = Null; collation = Binary })
      ∷ (record { name = codes "st"; kind = Integer; is_strict = true; not_null = true; default = Null; collation = Binary }) ∷ [];
  key = None;
  primary = 1 ∷ 2 ∷ [];
  uniques = (1 ∷ 2 ∷ []) ∷ [];
  orders = plain ∷ [];
  checks = op2 Or (is_state 0) (op2 Or (is_state 1) (is_state 2)) ∷ [];
  references = [];
  computed = [];
  stamps = record { places = []; terms = []; formats = [] };
  is_counted = false;
}

-- the index that SQLite makes for the key of the links
abbrev pub link_key : Index
link_key = record { name = codes "sqlite_autoindex_link_1"; tree = 2; table = 1; columns = 1 ∷ 2 ∷ []; order = plain; is_unique = true }

-- CREATE INDEX link_by_b ON link(b, a)
abbrev pub link_by_b : Index
link_by_b = record { name = codes "link_by_b"; tree = 3; table = 1; columns = 2 ∷ 1 ∷ []; order = plain; is_unique = false }

-- a database with nothing in it
abbrev pub empty_schema : Schema
empty_schema = record { tables = []; indexes = []; views = [] }

-- the table of members alone
abbrev pub member_schema : Schema
member_schema = record { tables = member_table ∷ []; indexes = []; views = [] }

-- the tables without the index by the second id
abbrev pub unindexed_schema : Schema
unindexed_schema = record { tables = member_table ∷ link_table ∷ []; indexes = link_key ∷ []; views = [] }

-- the tables and the index of the store
abbrev pub store_schema : Schema
store_schema = record { tables = member_table ∷ link_table ∷ []; indexes = link_key ∷ link_by_b ∷ []; views = [] }
