-- What has to be seen before a writer puts a value in the place of a key's, or shifts it.
use Rattle.std.specs.Prelude.{ℕ, ◌≡◌, ◌+◌, ◌≤◌, true, false, List, length, take, Option, Some, option_map, decimal}
use Rattle.rows_model.specs.declared.changes.Change.{Change}
use Rattle.rows_model.specs.declared.keys.QKey.{QKey}
use Rattle.rows_model.specs.Delta.{delta_of}
use Rattle.rows_model.specs.Refresh.{refreshed}
use Rattle.rows_model.specs.Rows.{Tables}
use Rattle.rows_model.specs.Shift.{shifted}
use Rattle.key_shard.specs.declared.steps.Step.{Step}
use Rattle.sql_keeper.specs.declared.stores.Commit.{Commit}
use Rattle.log_word.specs.declared.events.Short.{Short}
use Rattle.log_word.specs.declared.seen.Seen.{Seen}
use Rattle.log_word.specs.Steps.{is_grant, IsSound, IsBeginning}
use Rattle.key_freshness.specs.Held.{LeavesUntouched, MakesNext}
use Rattle.key_freshness.specs.Known.{StandsAt}
use Rattle.bound_hub.specs.Knowns.{commits_of}
use Rattle.bound_hub.specs.Facts.{answer_after}
use Rattle.bound_hub.specs.Gets.{IsLastStep, IsSeenHeld}

-- The step leaves the session's quarantine of this token alone on the key, to refresh or to shift.
pub record IsAloneOn (key : QKey) (who token : ℕ) (step : Short) : Type 0 where
  pub alone : step.alone ≡ true
  pub on : step.key ≡ key
  pub mine : step.sid.number ≡ who
  pub under : step.token ≡ token

-- A pass that has seen this had seen the session's quarantine of this token alone on the key: the step that
-- left it so was the last of the shard of this number that had been seen then. The session has committed
-- since, and its commit has this number.
pub record WasAlone (shards number : ℕ) (key : QKey) (who token stamp : ℕ) (seen : Seen) : Type 0 where
  pub earlier : Seen
  pub sound : IsSound shards earlier
  pub begins : IsBeginning earlier seen
  pub step : Short
  pub last : IsLastStep number step earlier
  pub alone : IsAloneOn key who token step
  pub own : Commit
  pub place : ℕ
  pub at : StandsAt (commits_of seen.events) place own
  pub its_own : own.sid.number ≡ who
  pub stamp_is : stamp ≡ place + 1
  pub late : length (commits_of earlier.events) ≤ place

-- The answers to a key follow the commits of a log: one that doesn't touch the key leaves them, and from the
-- answer before a commit its changes make the one after it.
pub record IsLawful (key : QKey) (answer : List Commit → List ℕ) (next : List Change → List ℕ → Option (List ℕ)) (log : List Commit) : Type 0 where
  pub leaves : LeavesUntouched key answer log
  pub makes : MakesNext next answer log

-- The value that the changes make of one, by refreshing it, and by shifting it.
abbrev pub refreshed_by : QKey → List Change → List ℕ → Option (List ℕ)
refreshed_by key txn value = refreshed key value txn

abbrev pub shifted_by : QKey → List Change → List ℕ → Option (List ℕ)
shifted_by key txn value = option_map decimal (shifted value (delta_of key txn))

-- A pass that has seen this may have a value put in the place of the key's: an old value came along when the
-- quarantine stood alone, and was held then, and the committed changes make the new value of it. Up to that
-- commit the answers follow the log, unless it is seen that the store has stopped telling its rows.
pub record MayPut (opening : Tables) (before : List Step) (shards number : ℕ) (key : QKey) (who token : ℕ) (value : List ℕ) (stamp : ℕ) (seen : Seen) : Type 0 where
  pub alone : WasAlone shards number key who token stamp seen
  pub old : List ℕ
  pub old_stamp : ℕ
  pub held : IsSeenHeld opening before number alone.earlier key old old_stamp
  pub lawful : seen.stopped ≡ false → IsLawful key (answer_after opening key) (refreshed_by key) (take stamp (commits_of seen.events))
  pub made : refreshed_by key alone.own.txn old ≡ Some value

-- A pass that has seen this may have the key's value shifted: the quarantine was granted to shift it by what
-- the committed changes add. Up to that commit the answers follow the log, unless it is seen that the store
-- has stopped telling its rows.
pub record MayShift (opening : Tables) (shards number : ℕ) (key : QKey) (who token stamp : ℕ) (seen : Seen) : Type 0 where
  pub alone : WasAlone shards number key who token stamp seen
  pub granted : is_grant alone.step.kind ≡ true
  pub by_so_much : alone.step.by ≡ delta_of key alone.own.txn
  pub lawful : seen.stopped ≡ false → IsLawful key (answer_after opening key) (shifted_by key) (take stamp (commits_of seen.events))
