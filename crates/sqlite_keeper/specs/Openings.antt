-- What a database holds once its rows were made or read.
use Rattle.std.specs.Prelude.{ℕ, ◌≡◌, ◌==◌, ◌&&◌, if◌then◌else◌, List, [], length}
use Rattle.rows_model.specs.declared.rows.Member.{Member}
use Rattle.rows_model.specs.Rows.{Tables, start_tables}
use Rattle.sqlite.specs.Effect.{Database}
use Rattle.sqlite_tables.specs.Lists.{Lists, AreLists, HoldLists, HasTables, lists_of, tables_of}
use Rattle.sqlite_tables.specs.Schema.{empty_schema}
use Rattle.sqlite_keeper.specs.Bases.{rows_in}

-- these members, and no pairs
abbrev pub members_alone : List Member → Lists
members_alone members = record { members = members; pairs = [] }

-- a database holds lists, whose rows are these
pub record HoldsRows (rows : Tables) (db : Database) : Type 0 where
  pub lists : AreLists db (lists_of db)
  pub rows_are : rows_in db ≡ rows

-- the rows with which a start begins on tables that hold these lists: those that they tell, or where there are none those of so many members
abbrev pub begun : ℕ → Lists → Tables
begun members lists = if (length lists.members == 0) && (length lists.pairs == 0) then start_tables members else tables_of lists

-- the rows with which a start begins on a database: that holds lists, as is said above, or that has nothing, and then those of so many members
pub record BeginsOn (members : ℕ) (db : Database) (rows : Tables) : Type 0 where
  pub lists : HasTables db.schema → (lists : Lists) → HoldLists db.trees lists → rows ≡ begun members lists
  pub nothing : db.schema ≡ empty_schema → rows ≡ start_tables members
