-- What an event has to bring, so that the rule of each key stands and what is held stays held.
use Rattle.std.proofs.Common.{ℕ, ℤ, ◌≡◌, ◌≢◌, ◌+◌, Bool, true, false, List, [], ◌∷◌, length, Option, Some, None, ◌⊎◌}
use Rattle.std.specs.List.{AllByRecursion}
use Rattle.rows_model.specs.declared.keys.QKey.{QKey}
use Rattle.rows_model.specs.declared.keys.Sid.{Sid}
use Rattle.rows_model.specs.Changes.{touches}
use Rattle.rows_model.specs.Delta.{is_count, delta_of}
use Rattle.rows_model.specs.Refresh.{refreshed}
use Rattle.rows_model.specs.Placement.{shard_of}
use Rattle.lease_table.specs.declared.records.Mode.{Mode}
use Rattle.lease_table.specs.declared.records.Mode.TheVariants.{Invalidate, Refresh, Delta}
use Rattle.lease_table.specs.declared.records.Quar.{Quar}
use Rattle.lease_table.specs.declared.records.ReadLease.{ReadLease}
use Rattle.key_shard.specs.declared.steps.Ended.TheVariants as ended
use Rattle.key_shard.specs.declared.steps.Step.{Step}
use Rattle.key_shard.specs.declared.steps.Step.TheVariants as step
use Rattle.key_shard.specs.Past.{standing, recorded, entry, quar_of}
use Rattle.sql_keeper.specs.declared.stores.Answer.{Answer}
use Rattle.sql_keeper.specs.declared.stores.Commit.{Commit}
use Rattle.expiry_sweeper.specs.declared.replies.SweepReply.{SweepReply}
use Rattle.expiry_sweeper.specs.declared.replies.SweepReply.TheVariants as sweeps
use Rattle.expiry_sweeper.specs.declared.replies.SweepWanted.{SweepWanted}
use Rattle.expiry_sweeper.specs.declared.replies.SweepWanted.TheVariants as sweep
use Rattle.key_freshness.specs.Marks.{key_of, marks_of}
use Rattle.key_freshness.specs.Known.{IsAmong, IsLogged, IsOver, StandsAt, WasGranted}
use Rattle.key_freshness.specs.Laws.{EndsItsOwn}
use Rattle.session_client.specs.declared.plans.Shape.{Shape}
use Rattle.session_client.specs.declared.replies.Reply.{Reply}
use Rattle.session_client.specs.declared.replies.Reply.TheVariants as Reply
use Rattle.core_history.specs.Events.{Event, Stepped, Called, Ticked, Swept, steps_of, commits_of_reply, log_of, ends_of_reply, ended_of, known_of}
use Rattle.core_history.specs.Facts.{Found, found_at, answers_under}

-- The answer is one of these.
abbrev pub IsOneOf : Answer → List Answer → Type 0
IsOneOf answered [] = ⊥
IsOneOf answered (first ∷ answers) = (first ≡ answered) ⊎ IsOneOf answered answers

-- A value that is stored is an answer that the session was told under the lease that is recorded.
pub record SetsAnswer (past : List Event) (steps : List Step) (who : Sid) (on : QKey) (token : ℕ) (value : List ℕ) (stamp : ℕ) : Type 0 where
  pub lease : ReadLease
  pub is_recorded : recorded on steps ≡ Some lease
  pub mine : lease.token ≡ token
  pub answered : Answer
  pub is_answer : IsOneOf answered (answers_under on token who.number past)
  pub value_is : value ≡ answered.value
  pub stamp_is : stamp ≡ answered.stamp

-- A quarantine that isn't to invalidate is granted where nothing stands, one that
-- is beside others of its kind alone, and each to a session that hasn't committed.
pub record IsGoodGrant (past : List Event) (steps : List Step) (on : QKey) (sid : Sid) (mode : Mode) : Type 0 where
  pub alone : mode ≢ Invalidate → standing on steps ≡ []
  pub joins : AllByRecursion (λ quar. quar.mode ≡ Invalidate) (standing on steps)
  pub before : IsLogged (log_of past) sid.number → ⊥

-- A quarantine is raised that stands alone on the key, and is the session's, which hasn't committed.
pub record IsGoodRaise (past : List Event) (steps : List Step) (on : QKey) (sid : Sid) (token : ℕ) : Type 0 where
  pub quar : Quar
  pub only : standing on steps ≡ quar ∷ []
  pub own : quar.sid ≡ sid
  pub its : quar.token ≡ token
  pub before : IsLogged (log_of past) sid.number → ⊥

-- A session writes once it has committed: under a quarantine of its own in this mode that stands, with the number of its commit as stamp.
pub record WritesOwn (past : List Event) (steps : List Step) (on : QKey) (sid : Sid) (token : ℕ) (mode : Mode) (stamp : ℕ) : Type 0 where
  pub quar : Quar
  pub stands : quar_of on token steps ≡ Some quar
  pub mine : quar.sid ≡ sid
  pub in_mode : quar.mode ≡ mode
  pub place : ℕ
  pub commit : Commit
  pub logged : StandsAt (log_of past) place commit
  pub own : commit.sid.number ≡ sid.number
  pub stamp_is : stamp ≡ place + 1

-- A value that is put is the one that the quarantine found, refreshed by the session's commit.
pub record PutsNew (past : List Event) (steps : List Step) (on : QKey) (sid : Sid) (token : ℕ) (value : List ℕ) (stamp : ℕ) : Type 0 where
  pub writes : WritesOwn past steps on sid token Refresh stamp
  pub found : Found
  pub at_grant : found_at on token past ≡ Some found
  pub old : List ℕ × ℕ
  pub found_is : found.entry ≡ Some old
  pub new_is : refreshed on old.0 writes.commit.txn ≡ Some value

-- A value that is shifted is a count, and is shifted by what the session's commit adds to it.
pub record ShiftsOwn (past : List Event) (steps : List Step) (on : QKey) (sid : Sid) (token : ℕ) (by : ℤ) (stamp : ℕ) : Type 0 where
  pub writes : WritesOwn past steps on sid token Delta stamp
  pub counts : is_count on ≡ true
  pub by_is : by ≡ delta_of on writes.commit.txn

-- A step is good: a hit is the entry, what is stored was told, a lease is given where nothing stands, whose
-- quarantine ends is over, without a commit where the value is kept, and what is put or shifted is the session's own.
-- What is raised stands alone.
abbrev pub IsGoodStep : List Event → List Step → Sid → Step → Type 0
IsGoodStep past steps who (step.Stored on token now value stamp evicted) = SetsAnswer past steps who on token value stamp
IsGoodStep past steps who (step.Lease on sid floor now token deadline) = standing on steps ≡ []
IsGoodStep past steps who (step.Released on sid token ended.Keep) = IsAmong sid.number (ended_of past)
IsGoodStep past steps who (step.Released on sid token ended.Drop) = IsOver (known_of past) sid.number
IsGoodStep past steps who (step.Released on sid token (ended.Put value stamp evicted)) = PutsNew past steps on sid token value stamp
IsGoodStep past steps who (step.Released on sid token (ended.Shift by stamp)) = ShiftsOwn past steps on sid token by stamp
IsGoodStep past steps who (step.Hit on sid floor value stamp) = entry on steps ≡ Some (value, stamp)
IsGoodStep past steps who (step.Again on sid floor now stands) = Unit {0}
IsGoodStep past steps who (step.Own on sid) = Unit {0}
IsGoodStep past steps who (step.Void on token now) = Unit {0}
IsGoodStep past steps who (step.Granted on sid mode shift now token deadline) = IsGoodGrant past steps on sid mode
IsGoodStep past steps who (step.Held on sid mode) = Unit {0}
IsGoodStep past steps who (step.Refused on sid mode holder held) = Unit {0}
IsGoodStep past steps who (step.Gone on sid token) = Unit {0}
IsGoodStep past steps who (step.Raised on sid token) = IsGoodRaise past steps on sid token
IsGoodStep past steps who (step.Shared on sid token holder) = Unit {0}
IsGoodStep past steps who (step.Renewed on sid token now deadline) = Unit {0}

-- So is its event, on the shard of its key: nothing is committed and nobody ended.
pub record IsGoodStepped (shape : Shape) (past : List Event) (place : ℕ) (who : Sid) (s : Step) (reply : Reply) : Type 0 where
  pub home : place ≡ shard_of (key_of s) shape.shards
  pub good : IsGoodStep past (steps_of place past) who s
  pub own : EndsItsOwn (steps_of place past) s
  pub no_commit : commits_of_reply who reply ≡ []
  pub no_end : ends_of_reply who reply ≡ []

-- A commit is good: its session isn't over, and was granted each key that it touches.
pub record IsGoodCommit (shape : Shape) (past : List Event) (who : Sid) (touched : QKey → Type 0) : Type 0 where
  pub opened : IsOver (known_of past) who.number → ⊥
  pub granted : (key : QKey) → touched key → WasGranted (marks_of key (steps_of (shard_of key shape.shards) past)) who.number

-- What the store told is good: an answer has the number of commits as its stamp, and who is told that it ended an open session hasn't committed.
abbrev pub IsGoodCall : Shape → List Event → Sid → Reply → Type 0
IsGoodCall shape past who (Reply.Committed number txn grants) = IsGoodCommit shape past who (λ key. touches txn key ≡ true)
IsGoodCall shape past who (Reply.End true) = IsLogged (log_of past) who.number → ⊥
IsGoodCall shape past who (Reply.End false) = Unit {0}
IsGoodCall shape past who (Reply.Answer answered) = answered.stamp ≡ length (log_of past)
IsGoodCall shape past who (Reply.Got got) = Unit {0}
IsGoodCall shape past who (Reply.Staged value txn) = Unit {0}
IsGoodCall shape past who (Reply.NotStaged fault txn) = Unit {0}
IsGoodCall shape past who (Reply.Set answer) = Unit {0}
IsGoodCall shape past who (Reply.Quar answer) = Unit {0}
IsGoodCall shape past who (Reply.NotCommitted fault txn grants) = Unit {0}
IsGoodCall shape past who (Reply.Rel answer) = Unit {0}
IsGoodCall shape past who (Reply.SarBack grant) = Unit {0}
IsGoodCall shape past who (Reply.Fault fault) = Unit {0}
IsGoodCall shape past who (Reply.Raise answer) = Unit {0}
IsGoodCall shape past who (Reply.RaiseBack grant) = Unit {0}
IsGoodCall shape past who (Reply.Renew grant answer) = Unit {0}
IsGoodCall shape past who Reply.Nothing = Unit {0}

-- A step of the sweeper's on a shard drops a key and its quarantine, on the shard of the key, after the session of that quarantine.
pub record IsGoodDrop (shape : Shape) (past : List Event) (place : ℕ) (on : QKey) (sid : Sid) (token : ℕ) : Type 0 where
  pub home : place ≡ shard_of on shape.shards
  pub over : IsOver (known_of past) sid.number
  pub own : EndsItsOwn (steps_of place past) (step.Released on sid token ended.Drop)

abbrev pub IsGoodSweep : Shape → List Event → ℕ → Option Step → Type 0
IsGoodSweep shape past place None = Unit {0}
IsGoodSweep shape past place (Some (step.Released on sid token ended.Drop)) = IsGoodDrop shape past place on sid token
IsGoodSweep shape past place (Some other) = ⊥

-- A session that was open when it was ended hasn't committed.
abbrev pub IsGoodClosing : Bool → List Event → ℕ → Type 0
IsGoodClosing true past who = IsLogged (log_of past) who → ⊥
IsGoodClosing false past who = Unit {0}

-- So it is with whom the sweeper ended.
abbrev pub IsGoodEnd : List Event → SweepWanted → SweepReply → Type 0
IsGoodEnd past (sweep.End who) (sweeps.Ended closed) = IsGoodClosing closed.was past who.number
IsGoodEnd past request reply = Unit {0}

abbrev pub IsGoodEvent : Shape → List Event → Event → Type 0
IsGoodEvent shape past (Stepped place who request s reply) = IsGoodStepped shape past place who s reply
IsGoodEvent shape past (Called who request reply) = IsGoodCall shape past who reply
IsGoodEvent shape past (Ticked now) = Unit {0}
IsGoodEvent shape past (Swept place request made reply) = IsGoodSweep shape past place made × IsGoodEnd past request reply
