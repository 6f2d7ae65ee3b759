-- What holds of the shards and the store of a hub that is taken apart.
use Rattle.std.specs.Prelude.{ℕ, ◌≡◌, ◌+◌, ◌-◌, ◌^◌, ◌≤◌, min, true, List, ◌++◌, length, All, Some, IsSome, IsTrue, is_none, slice_get}
use Rattle.std.specs.List.{list_any}
use Rattle.rows_model.specs.declared.keys.QKey.{QKey}
use Rattle.rows_model.specs.Rows.{Tables}
use Rattle.rows_model.specs.Changes.{touches}
use Rattle.rows_model.specs.Query as query
use Rattle.lease_table.specs.declared.records.Quar.{Quar}
use Rattle.key_shard.specs.declared.steps.Step.{Step}
use Rattle.key_shard.specs.Answers.{IsAtHome}
use Rattle.key_shard.specs.Past.{entry, standing}
use Rattle.key_shard.specs.Shards.{ShardView, past_of}
use Rattle.sql_keeper.specs.declared.stores.Commit.{Commit}
use Rattle.sql_keeper.specs.Fresh.{IsFreshPast, quarantines}
use Rattle.sql_keeper.specs.Log.{state}
use Rattle.sql_keeper.specs.Stores.{StoreView}
use Rattle.log_word.specs.declared.seen.Seen.{Seen}
use Rattle.log_word.specs.Lists.{IsStart, steps_of}
use Rattle.log_word.specs.Steps.{IsSound, IsBeginning}
use Rattle.log_word.specs.Passes.{PassView}
use Rattle.key_freshness.specs.Held.{stands_as}
use Rattle.bound_hub.specs.Shorts.{shorts_of}
use Rattle.bound_hub.specs.Knowns.{commits_of}

-- An entry is of a number of commits of the log. Each later commit on its key has a quarantine of its session standing
-- there. Where the store tells its rows, the entry is the key's answer after so many commits.
pub record IsKept (opening : Tables) (store : StoreView) (key : QKey) (stands : List Quar) (value : List ℕ) (stamp : ℕ) : Type 0 where
  pub within : stamp ≤ length store.ledger.log
  pub lacking : (place : ℕ) (commit : Commit) → slice_get store.ledger.log place ≡ Some commit → stamp ≤ place
      → touches commit.txn key ≡ true → (token : ℕ) × (stands_as commit.sid.number token stands ≡ true)
  pub right : IsSome store.known_rows → value ≡ query.answer key (state opening store.ledger.log stamp)

-- A shard goes on from the steps that it had made before. Those that are seen of it are the first of its steps since.
-- Each of its entries is kept beside the store. Where the store tells its rows, each hit since is fresh. Each commit of the log
-- on a key of the shard had the key granted to its session since.
pub record IsLeft (opening : Tables) (before : ℕ → List Step) (store : StoreView) (seen : Seen) (shard : ShardView) : Type 0 where
  pub more : List Step
  pub goes_on : past_of shard ≡ more ++ before shard.terms.no
  pub shorts_are : IsStart (steps_of shard.terms.no seen.steps) (shorts_of (before shard.terms.no) more)
  pub entries : (key : QKey) (value : List ℕ) (stamp : ℕ) → IsAtHome shard.terms key
      → entry key (past_of shard) ≡ Some (value, stamp) → IsKept opening store key (standing key (past_of shard)) value stamp
  pub hits : IsSome store.known_rows → IsFreshPast opening store.ledger.log more
  pub covered : (place : ℕ) (commit : Commit) (key : QKey) → slice_get store.ledger.log place ≡ Some commit → touches commit.txn key ≡ true
      → IsAtHome shard.terms key → IsTrue (list_any (quarantines key commit.sid) more)

-- What all the passes had seen is a beginning of this. It is sound; its commits are the log. So many calls of the
-- keeper failed as the store counts, and the store tells its rows unless it is seen to have stopped.
pub record IsGathered (shards failed : ℕ) (store : StoreView) (passes : List PassView) (seen : Seen) : Type 0 where
  pub begun : All (λ pass. IsBeginning pass.seen seen) passes
  pub sound : IsSound shards seen
  pub log : store.ledger.log ≡ commits_of seen.events
  pub failures : store.ledger.failed ≡ min (failed + seen.failures) (2 ^ 64 - 1)
  pub stopped : seen.stopped ≡ is_none store.known_rows
