-- What the sweeper drops is final, whatever the keeper says.
use Rattle.std.specs.Prelude.{ℕ, ◌≡◌, ◌≤◌, Bool, List, ◌∷◌, ◌++◌, length, Some, None}
use Rattle.std.specs.List.{AllByRecursion}
use Rattle.rows_model.specs.declared.keys.QKey.{QKey}
use Rattle.rows_model.specs.declared.keys.Sid.{Sid}
use Rattle.rows_model.specs.Placement.{shard_of}
use Rattle.key_shard.specs.declared.steps.Ended.TheVariants.{Drop}
use Rattle.key_shard.specs.declared.steps.Step.{Step}
use Rattle.key_shard.specs.declared.steps.Step.TheVariants.{Hit, Released}
use Rattle.key_shard.specs.Past.{quar_of}
use Rattle.expiry_sweeper.specs.declared.replies.SweepReply.{SweepReply}
use Rattle.expiry_sweeper.specs.declared.replies.SweepWanted.TheVariants as sweep
use Rattle.key_freshness.specs.Known.{IsOver}
use Rattle.session_client.specs.declared.plans.Shape.{Shape}
use Rattle.core_history.specs.Events.{Event, Swept, steps_of, log_of, known_of}
use Rattle.core_history.specs.Machine.{Move, world_of, ended_as}
use Rattle.core_history.specs.Freshness.{IsCommitOf}

-- A hit on the key has a stamp of at least this.
abbrev pub IsHitSince : QKey → ℕ → Step → Type 0
IsHitSince key least (Hit on sid floor value stamp) = on ≡ key → least ≤ stamp
IsHitSince key least other = Unit {0}

-- So has each hit on the key among the steps that these events made on its shard.
abbrev pub AreHitsSince : Shape → QKey → ℕ → List Event → Type 0
AreHitsSince shape key least events = AllByRecursion (IsHitSince key least) (steps_of (shard_of key shape.shards) events)

-- The sweeper has ended this session at the store.
pub record WasEnded (sid : Sid) (past : List Event) : Type 0 where
  -- whether the session was open until then
  pub was : Bool
  -- the events that came after that, and those before it
  pub between : List Event
  pub earlier : List Event
  pub is : past ≡ between ++ Swept 0 (sweep.End sid) None (ended_as sid was) ∷ earlier

-- What holds once the sweeper made this step to drop the quarantine of this token from
-- the key: of the events before it, of those after it, and of the past with all of them.
pub record IsFinal (shape : Shape) (key : QKey) (token : ℕ) (step : Step) (before after past : List Event) : Type 0 where
  -- it ended the quarantine of the token, which was a session's, with Drop
  pub sid : Sid
  pub ends : step ≡ Released key sid token Drop
  -- by then the sweeper had ended that session at the store, and it was over: it had committed, or was ended without a commit
  pub ended : WasEnded sid before
  pub over : IsOver (known_of before) sid.number
  -- no quarantine of the token stands on the key
  pub gone : quar_of key token (steps_of (shard_of key shape.shards) past) ≡ None
  -- each later hit on the key holds as many commits as the log had at the drop
  pub since_drop : AreHitsSince shape key (length (log_of before)) after
  -- so it holds as many as the log had whenever the sweeper ended the session
  pub since_end : (end : WasEnded sid before) → AreHitsSince shape key (length (log_of end.earlier)) after
  -- and it holds the session's commit, if there is one
  pub since_commit : (number : ℕ) → IsCommitOf (log_of past) sid number → AreHitsSince shape key number after

-- So it is of each drop that made a step, whichever sessions began, in whatever order turns were taken before and after it, and whatever the keeper said.
abbrev pub SweepsAreFinal : Type 0
SweepsAreFinal =
    (shape : Shape) (moves : List Move) (before after : List Event) (home : ℕ) (key : QKey) (token : ℕ) (step : Step) (reply : SweepReply)
    → (world_of shape moves).past ≡ after ++ Swept home (sweep.Drop key token) (Some step) reply ∷ before
    → IsFinal shape key token step before after (world_of shape moves).past
