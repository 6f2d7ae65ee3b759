-- The parts of the store's schema that are tested one by one.
use Rattle.std.specs.Prelude.{ℕ, Bool, true, pos, List}
use Rattle.sqlite.specs.Collation.TheVariants.{Binary}
use Rattle.sqlite.specs.Kind.{Kind}
use Rattle.sqlite.specs.declared.types.Value.TheVariants.{Null, Int}
use Rattle.sqlite_schema.specs.declared.schema.Column.{Column}
use Rattle.sqlite_schema.specs.declared.schema.Index.{Index}
use Rattle.sqlite_sql.specs.Term.{Term, lit, col, op2}
use Rattle.sqlite_sql.specs.declared.ops.BinaryOp.TheVariants.{Compare, Or}
use Rattle.sqlite_sql.specs.declared.ops.CompareOp.TheVariants.{Eq}
use Rattle.sqlite_value.specs.Keys.{plain}

-- the state of a link is this number
abbrev pub state_test : ℕ → Term
state_test number = op2 (Compare Eq Binary) (col 1 3) (lit (Int (pos number)))

-- the state of a link is one of the three
abbrev pub state_rule : Term
state_rule = op2 Or (state_test 0) (op2 Or (state_test 1) (state_test 2))

-- a column of a STRICT table with no default
abbrev pub strict_column : List ℕ → Kind → Bool → Column
strict_column name kind not_null = record { name = name; kind = kind; is_strict = true; not_null = not_null; default = Null; collation = Binary }

-- an index of the links in plain order
abbrev pub link_index : List ℕ → ℕ → List ℕ → Bool → Index
link_index name tree columns is_unique = record { name = name; tree = tree; table = 1; columns = columns; order = plain; is_unique = is_unique }
