-- A log of which each transaction applied, as it is where the store tells its rows.
use Rattle.std.specs.Prelude.{ℕ, ◌≡◌, false, List, All, Ok}
use Rattle.rows_model.specs.declared.changes.Change.{Change}
use Rattle.rows_model.specs.Rows.{Tables, Fit}
use Rattle.rows_model.specs.Changes.{HasIds, apply_all}
use Rattle.sql_keeper.specs.declared.stores.Commit.{Commit}
use Rattle.sql_keeper.specs.Log.{state}
use Rattle.log_word.specs.declared.seen.Seen.{Seen}
use Rattle.key_freshness.specs.Known.{StandsAt}
use Rattle.bound_hub.specs.Knowns.{commits_of}

-- Changes that name members and names alone apply to rows.
pub record Applies (txn : List Change) (rows : Tables) : Type 0 where
  pub ids : All HasIds txn
  pub after : Tables
  pub is : apply_all txn rows ≡ Ok after

-- The opening rows are fit, and each transaction of the log applied where it was committed.
pub record IsTrueLog (opening : Tables) (log : List Commit) : Type 0 where
  pub fit : Fit opening
  pub applied : (place : ℕ) (commit : Commit) → StandsAt log place commit → Applies commit.txn (state opening log place)

-- The commits that are seen are such a log, unless it is seen that the store has stopped telling its rows.
abbrev pub IsTrueSoFar : Tables → Seen → Type 0
IsTrueSoFar opening seen = seen.stopped ≡ false → IsTrueLog opening (commits_of seen.events)
