-- What holds of every run: of its log, its histories, and of each turn that commits.
use Rattle.std.specs.Prelude.{ℕ, ◌≡◌, ◌≢◌, ◌+◌, true, false, List, [], ◌∷◌, map, reverse, Some, slice_get}
use Rattle.std.specs.List.{range_with_len, AllByRecursion}
use Rattle.rows_model.specs.declared.keys.QKey.{QKey}
use Rattle.rows_model.specs.declared.keys.Sid.{Sid}
use Rattle.rows_model.specs.Rows.{Tables, Fit}
use Rattle.rows_model.specs.Changes.{touches}
use Rattle.rows_model.specs.Placement.{shard_of}
use Rattle.key_shard.specs.declared.steps.Ended.TheVariants.{Put, Shift}
use Rattle.key_shard.specs.declared.steps.Step.{Step}
use Rattle.key_shard.specs.declared.steps.Step.TheVariants.{Released, Raised}
use Rattle.key_shard.specs.Past.{standing}
use Rattle.key_shard.specs.Answers.{IsLegalPast}
use Rattle.sql_keeper.specs.declared.stores.Commit.{Commit}
use Rattle.sql_keeper.specs.Fresh.{Fresh, Covered}
use Rattle.session_client.specs.declared.plans.Shape.{Shape}
use Rattle.session_client.specs.declared.replies.Reply.{Reply}
use Rattle.session_client.specs.declared.replies.Reply.TheVariants as Reply
use Rattle.core_history.specs.Events.{Event, Stepped, Called, Ticked, Swept, steps_of, log_of, has_committed}
use Rattle.core_history.specs.Machine.{Move, world_of, HasPlans, terms_of}
use Rattle.core_history.specs.Truth.{IsTruePast}
use Rattle.core_history.specs.Facts.{Facts, stands_for}

-- The histories of all shards, in their order, the earliest step first.
abbrev pub histories_of : Shape → List Event → List (List Step)
histories_of shape past = map (λ place. reverse (steps_of place past)) (range_with_len 0 shape.shards)

-- Where a session is told that it has committed, a quarantine of its stands on each key that its transaction touches.
abbrev pub IsQuarantinedReply : Shape → List Event → Sid → Reply → Type 0
IsQuarantinedReply shape past who (Reply.Committed number txn grants) =
    (key : QKey) → touches txn key ≡ true → stands_for who (standing key (steps_of (shard_of key shape.shards) past)) ≡ true
IsQuarantinedReply shape past who other = Unit {0}

-- So it is of an event.
abbrev pub IsQuarantinedEvent : Shape → List Event → Event → Type 0
IsQuarantinedEvent shape past (Stepped shard who request step reply) = IsQuarantinedReply shape past who reply
IsQuarantinedEvent shape past (Called who request reply) = IsQuarantinedReply shape past who reply
IsQuarantinedEvent shape past (Ticked now) = Unit {0}
IsQuarantinedEvent shape past (Swept shard request made reply) = Unit {0}

-- So it is at each turn.
abbrev pub AreQuarantined : Shape → List Event → Type 0
AreQuarantined shape [] = Unit {0}
AreQuarantined shape (event ∷ past) = IsQuarantinedEvent shape past event × AreQuarantined shape past

-- The number of a session's commit is that of its place in the log, counted from 1.
pub record IsCommitOf (log : List Commit) (sid : Sid) (number : ℕ) : Type 0 where
  pub place : ℕ
  pub commit : Commit
  pub at : slice_get log place ≡ Some commit
  pub own : commit.sid ≡ sid
  pub is : number ≡ place + 1

-- A value that is put or shifted as its session's quarantine ends has the number of that session's commit as its stamp.
abbrev pub IsNumbered : List Commit → Step → Type 0
IsNumbered log (Released key sid token (Put value stamp evicted)) = IsCommitOf log sid stamp
IsNumbered log (Released key sid token (Shift by stamp)) = IsCommitOf log sid stamp
IsNumbered log other = Unit {0}

-- A quarantine is raised by a session that hasn't committed.
abbrev pub IsRaisedFirst : List Event → Step → Type 0
IsRaisedFirst past (Raised key sid token) = has_committed sid.number past ≡ false
IsRaisedFirst past other = Unit {0}

-- So it is in an event.
abbrev pub RaisesFirst : List Event → Event → Type 0
RaisesFirst past (Stepped shard who request step reply) = IsRaisedFirst past step
RaisesFirst past (Called who request reply) = Unit {0}
RaisesFirst past (Ticked now) = Unit {0}
RaisesFirst past (Swept shard request made reply) = Unit {0}

-- So it is at each turn.
abbrev pub AreRaisedFirst : List Event → Type 0
AreRaisedFirst [] = Unit {0}
AreRaisedFirst (event ∷ past) = RaisesFirst past event × AreRaisedFirst past

-- What holds after any moves, whatever the keeper said: each history is legal, each commit is covered, and
-- was so when it was made. Each value that was put or shifted has the number of its session's commit. Each
-- raise came before its session's commit.
pub record IsLawful (shape : Shape) (past : List Event) : Type 0 where
  pub legal : (place : ℕ) → IsLegalPast (terms_of shape place) (steps_of place past)
  pub covered : Covered (log_of past) (histories_of shape past)
  pub quarantined : AreQuarantined shape past
  pub numbered : (place : ℕ) → AllByRecursion (IsNumbered (log_of past)) (steps_of place past)
  pub raised : AreRaisedFirst past

-- Whichever sessions begin, in whatever order they take their turns, and whatever the keeper says, the run is lawful.
abbrev pub RunsAreLawful : Type 0
RunsAreLawful =
    (shape : Shape) (moves : List Move) → shape.shards ≢ 0 → HasPlans moves → IsLawful shape (world_of shape moves).past

-- Where the opening rows are fit and the keeper's word was true as well, the facts hold, and each hit is fresh.
abbrev pub RunsAreFresh : Type 0
RunsAreFresh =
    (shape : Shape) (opening : Tables) (moves : List Move) → shape.shards ≢ 0 → HasPlans moves → Fit opening
    → IsTruePast opening (world_of shape moves).past
    → Facts opening shape (world_of shape moves)
    × Fresh opening (log_of (world_of shape moves).past) (histories_of shape (world_of shape moves).past)
