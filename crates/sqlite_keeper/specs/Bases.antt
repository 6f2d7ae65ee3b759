-- What a database tells of the rows of a store, and what is kept of it.
use Rattle.std.specs.Prelude.{◌≡◌, ◌≤◌, List, [], ◌∷◌, IsTrue}
use Rattle.rows_model.specs.Rows.{Tables, Fit}
use Rattle.sqlite.specs.Effect.{Database}
use Rattle.sqlite_trees.specs.View.{doubt}
use Rattle.sqlite_trees.specs.declared.store.Store.{Ghosts}
use Rattle.sqlite.specs.State.{State, HasCleanDisk}
use Rattle.sqlite.specs.Held.{Held, state}
use Rattle.sqlite_tables.specs.Schema.{empty_schema}
use Rattle.sqlite_tables.specs.Lists.{AreLists, lists_of, tables_of}
use Rattle.sqlite_keeper.specs.declared.bonds.Tally.{Tally}
use Rattle.sqlite_keeper.specs.Bonds.{IsTallied}

-- the rows that a database holds
abbrev pub rows_in : Database → Tables
rows_in db = tables_of (lists_of db)

-- what the first connection of a log held
abbrev pub seen_in : {S : Type 0} → Ghosts S → List (Held S × Unit {0}) → Database
seen_in g [] = record { schema = empty_schema; trees = λ _. [] }
seen_in g (seen ∷ more) = (state g seen.0).now

-- a store that tells no lie, whatever becomes of it
abbrev pub NeverLies : {S : Type 0} → Ghosts S → Type 0
NeverLies {S} g = (store : S) → IsTrue (g.view store).is_clean

-- a database holds lists, whose rows are fit and are counted so
pub record IsCounted (tally : Tally) (db : Database) : Type 0 where
  pub lists : AreLists db (lists_of db)
  pub fit : Fit (rows_in db)
  pub tallied : IsTallied tally (rows_in db)

-- the database that was seen holds counted rows, and while the connection is open it is what it holds
pub record IsSince (tally : Tally) (seen : Database) (s : State) : Type 0 where
  pub counted : IsCounted tally seen
  pub same : IsTrue s.is_open → s.now ≡ seen

module _ {S : Type 0} (g : Ghosts S) (old new : Held S) where
  -- a connection that is open was open before, and holds what it held
  pub record IsSame : Type 0 where
    pub was_open : IsTrue (state g new).is_open → IsTrue (state g old).is_open
    pub now : IsTrue (state g new).is_open → (state g new).now ≡ (state g old).now

module _ {S : Type 0} (g : Ghosts S) (tally : Tally) (old new : Held S) where
  -- A disk that has told no lie told none before, a connection that is open was open before, and where the
  -- database held counted rows the last commit is as it was.
  pub record Stays : Type 0 where
    pub clean : doubt (state g old).is_clean ≤ doubt (state g new).is_clean
    pub was_open : HasCleanDisk (state g new) → IsTrue (state g new).is_open → IsTrue (state g old).is_open
    pub committed : HasCleanDisk (state g new) → IsCounted tally (state g old).now → IsTrue (state g new).is_open
        → (state g new).committed ≡ (state g old).committed
