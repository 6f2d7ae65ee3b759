-- What the texts of the statements mean under the store's schema: computed from the texts.
use Rattle.std.proofs.Common.{◌≡◌, List, ℕ, [], ◌∷◌, codes, false, None, pos, negsuc, refl, Ok}
use Rattle.sqlite.specs.declared.types.Value.TheVariants.{Int, Null}
use Rattle.sqlite.specs.Collation.TheVariants.{Binary}
use Rattle.sqlite.specs.Term.{Term, lit, col, op2}
use Rattle.sqlite.specs.Query.{Query, inner, end}
use Rattle.sqlite.specs.Schema.{Schema}
use Rattle.sqlite.specs.Source.TheVariants.{Values}
use Rattle.sqlite.specs.Command.TheVariants.{Insert, Select, Delete, Update, CreateTable, CreateIndex, Nothing}
use Rattle.sqlite.specs.Change.{created}
use Rattle.sqlite.specs.Compile.{table_defined_by, index_defined_by}
use Rattle.sqlite_sql.specs.declared.ops.BinaryOp.TheVariants.{Compare}
use Rattle.sqlite_sql.specs.declared.ops.CompareOp.TheVariants.{Eq}
use Rattle.sqlite_value.specs.declared.keys.Key.{Key}
use Rattle.sqlite_value.specs.Keys.{ascending}
use Rattle.sqlite_tied.specs.Compute.{everything}
use Rattle.sqlite.specs.Listing.{understood, reads_listing}
use Rattle.sqlite.proofs.Callers.{IsPlain, command_of, statement_of}
use Rattle.sqlite_tables.specs.Schema.{store_schema, unindexed_schema, member_schema, empty_schema, member_table, link_table, link_by_b}

abbrev pub name_text : List ℕ
name_text = codes "SELECT name FROM member WHERE id = ?1"

abbrev pub from_text : List ℕ
from_text = codes "SELECT a, b, st FROM link WHERE a = ?1 ORDER BY a, b"

abbrev pub to_text : List ℕ
to_text = codes "SELECT a, b, st FROM link WHERE b = ?1 ORDER BY a, b"

abbrev pub between_text : List ℕ
between_text = codes "SELECT a, b, st FROM link WHERE a = ?1 AND b = ?2 ORDER BY a, b"

abbrev pub insert_text : List ℕ
insert_text = codes "INSERT INTO link(a, b, st) VALUES(?1, ?2, ?3)"

abbrev pub delete_text : List ℕ
delete_text = codes "DELETE FROM link WHERE a = ?1 AND b = ?2"

abbrev pub update_text : List ℕ
update_text = codes "UPDATE member SET name = ?2 WHERE id = ?1"

abbrev pub member_text : List ℕ
member_text = codes "CREATE TABLE member(id INTEGER PRIMARY KEY, name TEXT NOT NULL) STRICT"

abbrev pub link_text : List ℕ
link_text = codes "CREATE TABLE link(a INTEGER NOT NULL, b INTEGER NOT NULL, st INTEGER NOT NULL CHECK(st IN (0, 1, 2)), PRIMARY KEY(a, b)) STRICT"

abbrev pub index_text : List ℕ
index_text = codes "CREATE INDEX link_by_b ON link(b, a)"

abbrev pub put_text : List ℕ
put_text = codes "INSERT INTO member(id, name) VALUES(?1, ?2)"

abbrev pub members_text : List ℕ
members_text = codes "SELECT id, name FROM member ORDER BY id"

abbrev pub pairs_text : List ℕ
pairs_text = codes "SELECT a, b, st FROM link ORDER BY a, b"

abbrev pub rowids_text : List ℕ
rowids_text = codes "SELECT rowid FROM link ORDER BY rowid"

abbrev pub add_text : List ℕ
add_text = codes "CREATE INDEX IF NOT EXISTS link_by_b ON link(b, a)"

-- a column of the row is a parameter
abbrev pub equals : ℕ → ℕ → Term
equals at parameter = op2 (Compare Eq Binary) (col 1 at) (col 0 parameter)

-- the links that pass some tests, by their two ids
abbrev pub links_with : List Term → Query
links_with tests = record {
  from = inner 1 end;
  filter = tests;
  group = None;
  project = col 1 1 ∷ col 1 2 ∷ col 1 3 ∷ [];
  distinct = false;
  collations = [];
  order = (col 1 1, ascending Binary) ∷ (col 1 2, ascending Binary) ∷ [];
  limit = lit (Int (negsuc 0));
  offset = lit (Int (pos 0));
}

-- the links whose column is the parameter, by their two ids
abbrev pub links_where : ℕ → Query
links_where at = links_with (equals at 0 ∷ [])

-- the link whose two ids are the parameters
abbrev pub link_query : Query
link_query = links_with (equals 1 0 ∷ equals 2 1 ∷ [])

-- what is shown of the rows of a tree that pass some tests
abbrev pub rows_where : ℕ → List Term → List Term → Query
rows_where tree tests shown = record {
  from = inner tree end;
  filter = tests;
  group = None;
  project = shown;
  distinct = false;
  collations = [];
  order = [];
  limit = lit (Int (negsuc 0));
  offset = lit (Int (pos 0));
}

abbrev pub name_query : Query
name_query = rows_where 0 (equals 0 0 ∷ []) (col 1 2 ∷ [])

abbrev pub pair_query : Query
pair_query = rows_where 1 (equals 1 0 ∷ equals 2 1 ∷ []) (col 1 0 ∷ [])

abbrev pub member_query : Query
member_query = rows_where 0 (equals 0 0 ∷ []) (col 1 0 ∷ col 1 0 ∷ lit Null ∷ col 0 1 ∷ [])

pub name_is : command_of (understood store_schema name_text) ≡ Select (record { lets = []; body = name_query }) (codes "name" ∷ [])
unfolding understood everything
name_is = refl

pub from_is : command_of (understood store_schema from_text) ≡ Select (record { lets = []; body = links_where 1 }) (codes "a" ∷ codes "b" ∷ codes "st" ∷ [])
unfolding understood everything
from_is = refl

pub to_is : command_of (understood store_schema to_text) ≡ Select (record { lets = []; body = links_where 2 }) (codes "a" ∷ codes "b" ∷ codes "st" ∷ [])
unfolding understood everything
to_is = refl

pub between_is : command_of (understood store_schema between_text) ≡ Select (record { lets = []; body = link_query }) (codes "a" ∷ codes "b" ∷ codes "st" ∷ [])
unfolding understood everything
between_is = refl

pub insert_is : command_of (understood store_schema insert_text) ≡ Insert 1 (Values (lit Null ∷ col 0 0 ∷ col 0 1 ∷ col 0 2 ∷ []) 4)
unfolding understood everything
insert_is = refl

pub delete_is : command_of (understood store_schema delete_text) ≡ Delete 1 (record { lets = []; body = pair_query })
unfolding understood everything
delete_is = refl

pub update_is : command_of (understood store_schema update_text) ≡ Update 0 (record { lets = []; body = member_query })
unfolding understood everything
update_is = refl

-- none of them has RETURNING or reads the time, and the queries read no list of objects
pub name_plain : IsPlain (understood store_schema name_text) × (reads_listing store_schema name_text ≡ false)
unfolding understood everything
name_plain = ((refl, refl), refl)

pub from_plain : IsPlain (understood store_schema from_text) × (reads_listing store_schema from_text ≡ false)
unfolding understood everything
from_plain = ((refl, refl), refl)

pub to_plain : IsPlain (understood store_schema to_text) × (reads_listing store_schema to_text ≡ false)
unfolding understood everything
to_plain = ((refl, refl), refl)

pub between_plain : IsPlain (understood store_schema between_text) × (reads_listing store_schema between_text ≡ false)
unfolding understood everything
between_plain = ((refl, refl), refl)

pub insert_plain : IsPlain (understood store_schema insert_text)
unfolding understood everything
insert_plain = (refl, refl)

pub delete_plain : IsPlain (understood store_schema delete_text)
unfolding understood everything
delete_plain = (refl, refl)

pub update_plain : IsPlain (understood store_schema update_text)
unfolding understood everything
update_plain = (refl, refl)

pub put_is : command_of (understood store_schema put_text) ≡ Insert 0 (Values (col 0 0 ∷ lit Null ∷ col 0 1 ∷ []) 3)
unfolding understood everything
put_is = refl

pub put_plain : IsPlain (understood store_schema put_text)
unfolding understood everything
put_plain = (refl, refl)

-- the texts of the tables and of the index, where they are to be made
pub member_is : (command_of (understood empty_schema member_text) ≡ CreateTable) × (statement_of member_text (understood empty_schema member_text)
    ≡ member_text) × (table_defined_by member_text ≡ Ok member_table)
unfolding understood everything
member_is = (refl, refl, refl)

pub member_plain : IsPlain (understood empty_schema member_text)
unfolding understood everything
member_plain = (refl, refl)

pub link_is : (command_of (understood member_schema link_text) ≡ CreateTable) × (statement_of link_text (understood member_schema link_text) ≡ link_text) ×
    (table_defined_by link_text ≡ Ok (record link_table { tree = 0 }))
unfolding understood everything
link_is = (refl, refl, refl)

pub link_plain : IsPlain (understood member_schema link_text)
unfolding understood everything
link_plain = (refl, refl)

pub index_is : (command_of (understood unindexed_schema index_text) ≡ CreateIndex 1) × (statement_of index_text (understood unindexed_schema index_text)
    ≡ index_text) × (index_defined_by link_table index_text ≡ Ok (record link_by_b { tree = 0 }))
unfolding understood everything
index_is = (refl, refl, refl)

pub index_plain : IsPlain (understood unindexed_schema index_text)
unfolding understood everything
index_plain = (refl, refl)

pub link_created : created member_schema (record link_table { tree = 0 }) ≡ unindexed_schema
unfolding understood everything
link_created = refl

-- all rows of a tree, in an order
abbrev pub all_of : ℕ → List Term → List (Term × Key) → Query
all_of tree shown order = record {
  from = inner tree end;
  filter = [];
  group = None;
  project = shown;
  distinct = false;
  collations = [];
  order = order;
  limit = lit (Int (negsuc 0));
  offset = lit (Int (pos 0));
}

abbrev pub members_query : Query
members_query = all_of 0 (col 1 0 ∷ col 1 2 ∷ []) ((col 1 0, ascending Binary) ∷ [])

abbrev pub pairs_query : Query
pairs_query = all_of 1 (col 1 1 ∷ col 1 2 ∷ col 1 3 ∷ []) ((col 1 1, ascending Binary) ∷ (col 1 2, ascending Binary) ∷ [])

abbrev pub rowids_query : Query
rowids_query = all_of 1 (col 1 0 ∷ []) ((col 1 0, ascending Binary) ∷ [])

-- a text is this query, plain, and reads no list of objects
abbrev pub IsQuery : Schema → List ℕ → Query → List (List ℕ) → Type 0
IsQuery schema sql query names =
    (command_of (understood schema sql) ≡ Select (record { lets = []; body = query }) names) × IsPlain (understood schema sql) × (reads_listing schema sql ≡ false)

pub members_are : IsQuery unindexed_schema members_text members_query (codes "id" ∷ codes "name" ∷ []) × IsQuery store_schema members_text members_query (codes "id" ∷ codes "name" ∷ [])
unfolding understood everything
members_are = ((refl, (refl, refl), refl), (refl, (refl, refl), refl))

pub pairs_are : IsQuery unindexed_schema pairs_text pairs_query (codes "a" ∷ codes "b" ∷ codes "st" ∷ []) × IsQuery store_schema pairs_text pairs_query (codes "a" ∷ codes "b" ∷ codes "st" ∷ [])
unfolding understood everything
pairs_are = ((refl, (refl, refl), refl), (refl, (refl, refl), refl))

pub rowids_are : IsQuery unindexed_schema rowids_text rowids_query (codes "rowid" ∷ []) × IsQuery store_schema rowids_text rowids_query (codes "rowid" ∷ [])
unfolding understood everything
rowids_are = ((refl, (refl, refl), refl), (refl, (refl, refl), refl))

-- the index is made where it is missing
pub add_is : (command_of (understood unindexed_schema add_text) ≡ CreateIndex 1) × (statement_of add_text (understood unindexed_schema add_text) ≡ add_text) ×
    (index_defined_by link_table add_text ≡ Ok (record link_by_b { tree = 0 }))
unfolding understood everything
add_is = (refl, refl, refl)

pub add_plain : IsPlain (understood unindexed_schema add_text)
unfolding understood everything
add_plain = (refl, refl)

pub added_is : (command_of (understood store_schema add_text) ≡ Nothing) × IsPlain (understood store_schema add_text)
unfolding understood everything
added_is = (refl, (refl, refl))
