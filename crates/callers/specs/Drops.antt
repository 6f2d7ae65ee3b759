-- What is said of the sweeper's drops in a run, to who makes it.
use Rattle.std.specs.Prelude.{ℕ, ◌≡◌, All, List, ◌∷◌, ◌++◌, length, reverse, Option, Some, None, slice_get}
use Rattle.rows_model.specs.declared.keys.QKey.{QKey}
use Rattle.rows_model.specs.declared.keys.Sid.{Sid}
use Rattle.key_shard.specs.declared.steps.Ended.TheVariants.{Drop}
use Rattle.key_shard.specs.declared.steps.Step.{Step}
use Rattle.key_shard.specs.declared.steps.Step.TheVariants.{Released}
use Rattle.key_shard.specs.Past.{quar_of}
use Rattle.sql_keeper.specs.declared.stores.Commit.{Commit}
use Rattle.expiry_sweeper.specs.declared.replies.SweepReply.{SweepReply}
use Rattle.expiry_sweeper.specs.declared.replies.SweepWanted.TheVariants as sweep
use Rattle.session_client.specs.declared.plans.Shape.{Shape}
use Rattle.run_inputs.specs.declared.scripts.Act.{Act}
use Rattle.core_history.specs.Events.{Event, Swept, log_of}
use Rattle.core_history.specs.Freshness.{IsCommitOf, histories_of}
use Rattle.core_history.specs.Machine.{Move}
use Rattle.core_history.specs.Sweeps.{IsHitSince}
use Rattle.top_run.specs.Runs.{IsRead, AreFirstMoves, past_of}

-- A drop of the quarantine of this token from the key is final, in a run with this log, of which this
-- is the history of the key's shard, the earliest step first. The log had so many commits at the drop.
pub record IsFinalDrop (key : QKey) (token : ℕ) (least : ℕ) (log : List Commit) (history : List Step) : Type 0 where
  pub sid : Sid
  pub earlier : List Step
  pub later : List Step
  pub steps : history ≡ earlier ++ Released key sid token Drop ∷ later
  -- no quarantine of the token stands on the key at the end
  pub gone : quar_of key token (reverse history) ≡ None
  -- each later hit on the key holds all that was committed before the drop
  pub since_drop : All (IsHitSince key least) later
  -- so it holds the commit of the session whose quarantine it was, if it has one
  pub since_commit : (number : ℕ) → IsCommitOf log sid number → All (IsHitSince key number) later

-- So is each drop among these events that made a step.
abbrev pub DropsAreFinal : List Event → List Commit → List (List Step) → Type 0
DropsAreFinal past log histories =
    (before after : List Event) (home : ℕ) (key : QKey) (token : ℕ) (step : Step) (reply : SweepReply) (history : List Step)
    → past ≡ after ++ Swept home (sweep.Drop key token) (Some step) reply ∷ before
    → slice_get histories home ≡ Some history
    → IsFinalDrop key token (length (log_of before)) log history

-- A run that began, whose drops are final: it made these moves, the latest first, which do what its
-- script says, to the end or the first part of it, and its log and its histories are those after them.
pub record IsSweptRun (left_old left_new : Option (List ℕ)) (log : List Commit) (histories : List (List Step)) : Type 0 where
  pub shape : Shape
  pub acts : List Act
  pub read : IsRead left_old left_new shape acts
  pub moves : List Move
  pub made : AreFirstMoves acts moves
  pub log_is : log ≡ log_of (past_of shape moves)
  pub histories_are : histories ≡ histories_of shape (past_of shape moves)
  pub final : DropsAreFinal (past_of shape moves) log histories
