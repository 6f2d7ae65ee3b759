-- How a session's stage follows from what it was told. A session keeps no list of that.
use Rattle.std.specs.Prelude.{ℕ, ◌≡◌, ◌+◌, Bool, true, false, not, ◌||◌, IsTrue, List, map, length, drop, count_by, Option, Some, None, slice_get}
use Rattle.std.specs.List.{Any, remove}
use Rattle.rows_model.specs.declared.keys.QKey.{QKey}
use Rattle.rows_model.specs.declared.keys.Sid.{Sid}
use Rattle.rows_model.specs.declared.changes.Change.{Change}
use Rattle.lease_table.specs.declared.records.Mode.{Mode}
use Rattle.lease_table.specs.declared.records.Mode.TheVariants.{Refresh}
use Rattle.key_shard.specs.Permit.{Permit}
use Rattle.sql_keeper.specs.declared.stores.Answer.{Answer}
use Rattle.session_client.specs.Grants.{GrantsView}
use Rattle.session_client.specs.Plans.{changes_of, mode_on}
use Rattle.session_client.specs.Belongs.{IsShardFault, IsStoreFault, IsGotOf, IsQuarantineOf, IsRaiseOf, AreBack}
use Rattle.session_client.specs.Wants.{agains, set_after, read_wants, is_had, given, granted, released, turned, number_of, Writing, Given, Looks}
use Rattle.session_client.specs.Wants.{Drops, commit_with, quarantine_next, raise_next, renew_next, has_all, release_after, release_of, write_wants, wants}
use Rattle.session_client.specs.Wants.{read_outcome, write_outcome, writing_outcome, outcome_of}
use Rattle.session_client.specs.Writers.{HandView, WriterView, writing_as, release_as, old_value, new_values}
use Rattle.session_client.specs.declared.plans.Plan.{Plan}
use Rattle.session_client.specs.declared.plans.Plan.TheVariants.{Read}
use Rattle.session_client.specs.declared.replies.Fault.TheVariants as faults
use Rattle.session_client.specs.declared.replies.Outcome.{Outcome}
use Rattle.session_client.specs.declared.replies.Reply.{Reply}
use Rattle.session_client.specs.declared.replies.Reply.TheVariants as Reply
use Rattle.session_client.specs.declared.replies.Wanted.{Wanted}
use Rattle.session_client.specs.declared.replies.Wanted.TheVariants as wanted
use Rattle.session_client.specs.declared.readers.Reader.{Reader}
use Rattle.session_client.specs.declared.readers.ReadStage.{ReadStage}
use Rattle.session_client.specs.declared.readers.ReadStage.TheVariants as reads
use Rattle.session_client.specs.declared.stages.Release.{Release}
use Rattle.session_client.specs.declared.stages.Release.TheVariants as releases
use Rattle.session_client.specs.declared.stages.WriteStage.{WriteStage}
use Rattle.session_client.specs.declared.stages.WriteStage.TheVariants as writes
use Rattle.session_client.specs.declared.sessions.Course.{Course}
use Rattle.session_client.specs.declared.sessions.Course.TheVariants as course
use Rattle.session_client.specs.declared.sessions.Session.{Session}

-- What is wanted after an answer, with this lease or none.
abbrev pub set_under : QKey → Answer → Option ℕ → Wanted
set_under key answer None = wanted.Nothing
set_under key answer (Some token) = wanted.Set key token answer.value answer.stamp

-- A reader of this key and floor that stands here may have heard this, the latest first.
abbrev pub StageFollows : QKey → ℕ → ReadStage → List Reply → Type 0
StageFollows key floor (reads.Getting count) heard =
    (read_wants key floor heard ≡ wanted.Get key floor) × (agains heard ≡ count)
StageFollows key floor (reads.Asking lease) heard =
    (read_wants key floor heard ≡ wanted.Ask key)
    × ((answer : Answer) → set_after key answer heard ≡ set_under key answer lease)
StageFollows key floor (reads.Holding token answer) heard =
    read_wants key floor heard ≡ wanted.Set key token answer.value answer.stamp
StageFollows key floor reads.Storing heard = Unit {0}
StageFollows key floor (reads.Done ended) heard =
    (read_wants key floor heard ≡ wanted.Nothing) × (read_outcome heard ≡ Some ended)

-- A reader may have heard this, the latest first.
abbrev pub ReadFollows : Reader → List Reply → Type 0
ReadFollows reader heard = StageFollows reader.key reader.floor reader.stage heard

-- No answer is out to be stored.
abbrev pub ReadIsReady : ReadStage → Type 0
ReadIsReady reads.Storing = ⊥
ReadIsReady stage = Unit {0}

-- The replies to a get with this floor.
abbrev pub GetAwaits : ℕ → Reply → Type 0
GetAwaits floor (Reply.Got answer) = IsGotOf floor answer
GetAwaits floor (Reply.Fault fault) = IsShardFault fault
GetAwaits floor reply = ⊥

-- The replies to the request that a reader of this key and floor has out.
abbrev pub ReadAwaits : QKey → ℕ → ReadStage → Reply → Type 0
ReadAwaits key floor (reads.Getting count) reply = GetAwaits floor reply
ReadAwaits key floor (reads.Asking lease) (Reply.Answer answer) = answer.key ≡ key
ReadAwaits key floor (reads.Asking lease) (Reply.Fault fault) = IsStoreFault fault
ReadAwaits key floor reads.Storing (Reply.Set answer) = Unit {0}
ReadAwaits key floor reads.Storing (Reply.Fault fault) = fault ≡ faults.Memory
ReadAwaits key floor (reads.Done ended) Reply.Nothing = Unit {0}
ReadAwaits key floor stage reply = ⊥

-- Nothing is decided yet: the writer has each grant that it was given, the old value beside each, and no outcome.
abbrev pub IsOpen : Writing → HandView → Bool → List Reply → Type 0
IsOpen writing hand short heard =
    (hand.grants.items ≡ granted heard) × (hand.grants.room ≡ length writing.keys) × (hand.values ≡ map old_value (given heard))
    × (released heard ≡ 0) × (number_of heard ≡ None) × (write_outcome writing short heard ≡ None) × (short ≡ false)

-- Nothing is decided yet either, and the grant at this place is out.
abbrev pub IsLent : Writing → HandView → ℕ → Bool → List Reply → Type 0
IsLent writing hand place short heard =
    (hand.grants.items ≡ remove (granted heard) place) × (hand.grants.room ≡ length writing.keys) × (hand.values ≡ map old_value (given heard))
    × (released heard ≡ 0) × (number_of heard ≡ None) × (write_outcome writing short heard ≡ None) × (short ≡ false)

-- The grants are out to be committed.
abbrev pub IsOut : HandView → Bool → List Reply → Type 0
IsOut hand short heard =
    (hand.values ≡ map old_value (given heard)) × (released heard ≡ 0) × (number_of heard ≡ None) × (short ≡ false)

-- The new values lie beside the grants that are to be finished; beside others anything may.
abbrev pub HasNew : Release → List Change → List Given → List (Option (List ℕ)) → Type 0
HasNew releases.Keep txn ones values = Unit {0}
HasNew releases.Drop txn ones values = Unit {0}
HasNew (releases.Finish number) txn ones values = values ≡ new_values txn ones

-- The writer has ended so, has released all but these many of its last grants, and goes on releasing in this way.
abbrev pub IsEnding : Writing → HandView → Outcome → Release → ℕ → ℕ → Bool → List Reply → Type 0
IsEnding writing hand ended how gone used short heard =
    (hand.grants.items ≡ drop gone (granted heard)) × HasNew how writing.txn (drop used (given heard)) hand.values
    × (release_as how ≡ release_after short (number_of heard)) × (writing_outcome writing short heard ≡ Some ended)

-- A grant that may come back is the next to be released.
abbrev pub IsNext : Option Permit → List Reply → Type 0
IsNext None heard = Unit {0}
IsNext (Some grant) heard = slice_get (granted heard) (released heard) ≡ Some grant

-- A writer that stands here, with this in its hands, may have heard this, the latest first. The flag says that memory ran out when it was told of its commit.
abbrev pub PartsFollow : Writing → HandView → WriteStage → Bool → List Reply → Type 0
PartsFollow writing hand (writes.Quarantining count txn) short heard =
    (write_wants writing short heard ≡ quarantine_next writing heard) × (count_by is_had heard ≡ count)
    × (turned heard ≡ 0) × (txn ≡ writing.txn) × IsOpen writing hand short heard
PartsFollow writing hand (writes.Getting key txn) short heard =
    (write_wants writing short heard ≡ wanted.Get key 0) × (writing.next ≡ Looks key) × (has_all writing heard ≡ true)
    × (txn ≡ writing.txn) × IsOpen writing hand short heard
PartsFollow writing hand (writes.Staging key txn) short heard =
    (write_wants writing short heard ≡ wanted.Staged key writing.txn) × (txn ≡ writing.txn) × IsOpen writing hand short heard
PartsFollow writing hand writes.Asking short heard = IsOpen writing hand short heard
PartsFollow writing hand (writes.Raising place txn) short heard =
    (write_wants writing short heard ≡ raise_next writing heard) × (turned heard ≡ place) × (txn ≡ writing.txn)
    × IsOpen writing hand short heard
PartsFollow writing hand (writes.Raised place txn) short heard =
    (turned heard ≡ place) × (txn ≡ writing.txn) × IsLent writing hand place short heard
PartsFollow writing hand (writes.Renewing place txn) short heard =
    (write_wants writing short heard ≡ renew_next writing heard) × (turned heard ≡ place) × (txn ≡ writing.txn)
    × IsOpen writing hand short heard
PartsFollow writing hand (writes.Renewed place txn) short heard =
    (turned heard ≡ place) × (txn ≡ writing.txn) × IsLent writing hand place short heard
PartsFollow writing hand (writes.Ready txn) short heard =
    (write_wants writing short heard ≡ commit_with writing heard) × (txn ≡ writing.txn) × IsOpen writing hand short heard
PartsFollow writing hand writes.Committing short heard = IsOut hand short heard
PartsFollow writing hand (writes.Ending ended) short heard =
    (write_wants writing short heard ≡ wanted.End) × (hand.grants.items ≡ granted heard) × (released heard ≡ 0)
    × (number_of heard ≡ None) × (short ≡ false) × (writing_outcome writing short heard ≡ Some ended)
PartsFollow writing hand (writes.Releasing ended how) short heard =
    (write_wants writing short heard ≡ release_of writing.txn (release_as how) (slice_get (given heard) (released heard)))
    × IsEnding writing hand ended how (released heard) (released heard) short heard
PartsFollow writing hand (writes.Returning ended how back) short heard =
    IsNext back heard × IsEnding writing hand ended how (released heard + 1) (released heard + 1) short heard
PartsFollow writing hand (writes.Dropping ended how) short heard =
    (write_wants writing short heard ≡ release_of writing.txn Drops (slice_get (given heard) (released heard)))
    × IsEnding writing hand ended how (released heard) (released heard + 1) short heard
PartsFollow writing hand (writes.Done ended) short heard =
    (write_wants writing short heard ≡ wanted.Nothing) × (writing_outcome writing short heard ≡ Some ended)

-- The writer was given the grants of which it was told.
abbrev pub WriteFollows : List Change → WriterView → Bool → List Reply → Type 0
WriteFollows changes writer short heard =
    (writer.hand.given ≡ granted heard) × PartsFollow (writing_as writer changes) writer.hand writer.stage short heard

-- Neither the transaction nor a grant is out.
abbrev pub WriteIsReady : WriteStage → Type 0
WriteIsReady writes.Asking = ⊥
WriteIsReady (writes.Raised place txn) = ⊥
WriteIsReady (writes.Renewed place txn) = ⊥
WriteIsReady writes.Committing = ⊥
WriteIsReady (writes.Returning ended how back) = ⊥
WriteIsReady stage = Unit {0}

-- The answers to the quarantine of a key that is wanted, if one is, by a writer in this mode.
abbrev pub QuarantineAwaits : Sid → Mode → Option QKey → Reply → Type 0
QuarantineAwaits who mode (Some key) (Reply.Quar answer) = IsQuarantineOf who key (mode_on mode key) answer
QuarantineAwaits who mode (Some key) (Reply.Fault fault) = IsShardFault fault
QuarantineAwaits who mode key reply = ⊥

-- The replies to the question what the store would answer after this transaction.
abbrev pub StagedAwaits : List Change → Reply → Type 0
StagedAwaits changes (Reply.Staged value txn) = txn ≡ changes
StagedAwaits changes (Reply.NotStaged fault txn) = txn ≡ changes
StagedAwaits changes reply = ⊥

-- The replies to a raise of this grant.
abbrev pub RaiseAwaits : Option Permit → Reply → Type 0
RaiseAwaits (Some lent) (Reply.Raise answer) = IsRaiseOf lent answer
RaiseAwaits (Some lent) (Reply.RaiseBack grant) = grant ≡ lent
RaiseAwaits lent reply = ⊥

-- The replies to a renewal of this grant.
abbrev pub RenewAwaits : Option Permit → Reply → Type 0
RenewAwaits (Some lent) (Reply.Renew grant answer) = grant ≡ lent
RenewAwaits lent reply = ⊥

-- The answers to a commit of this transaction with these grants.
abbrev pub CommitAwaits : List Change → GrantsView → Reply → Type 0
CommitAwaits changes lent (Reply.Committed number txn grants) = (txn ≡ changes) × AreBack lent grants
CommitAwaits changes lent (Reply.NotCommitted fault txn grants) = (txn ≡ changes) × AreBack lent grants
CommitAwaits changes lent reply = ⊥

-- The answers to a release of a grant, which may come back where it is named.
abbrev pub ReleaseAwaits : Option Permit → Reply → Type 0
ReleaseAwaits back (Reply.Rel answer) = Unit {0}
ReleaseAwaits back (Reply.SarBack grant) = back ≡ Some grant
ReleaseAwaits back reply = ⊥

-- The replies to the request that a writer of this transaction has out.
abbrev pub StageAwaits : Sid → Writing → List Permit → WriteStage → Reply → Type 0
StageAwaits who writing given (writes.Quarantining count txn) reply =
    QuarantineAwaits who writing.mode (slice_get writing.keys count) reply
StageAwaits who writing given (writes.Getting key txn) reply = GetAwaits 0 reply
StageAwaits who writing given writes.Asking reply = StagedAwaits writing.txn reply
StageAwaits who writing given (writes.Raised place txn) reply = RaiseAwaits (slice_get given place) reply
StageAwaits who writing given (writes.Renewed place txn) reply = RenewAwaits (slice_get given place) reply
StageAwaits who writing given writes.Committing reply =
    CommitAwaits writing.txn (record { items = given; room = length writing.keys }) reply
StageAwaits who writing given (writes.Ending ended) (Reply.End was) = Unit {0}
StageAwaits who writing given (writes.Returning ended how back) reply = ReleaseAwaits back reply
StageAwaits who writing given (writes.Done ended) Reply.Nothing = Unit {0}
StageAwaits who writing given stage reply = ⊥

-- The replies to the request that a writer of these changes has out.
abbrev pub WriteAwaits : Sid → List Change → WriterView → Reply → Type 0
WriteAwaits who changes writer reply = StageAwaits who (writing_as writer changes) writer.hand.given writer.stage reply

-- A session of this plan goes its course: a reader has the plan's key and floor, and a writer's wants are those of the plan.
abbrev pub Goes : Plan → Course → Bool → List Reply → Type 0
Goes plan (course.Read reader) short heard = (plan ≡ Read reader.key reader.floor) × ReadFollows reader heard
Goes plan (course.Write writer) short heard =
    ((short : Bool) (replies : List Reply) → wants plan short replies ≡ write_wants (writing_as writer (changes_of plan)) short replies)
    × ((short : Bool) (replies : List Reply) → outcome_of plan short replies ≡ writing_outcome (writing_as writer (changes_of plan)) short replies)
    × WriteFollows (changes_of plan) writer short heard

-- Nothing is out that a course handed over.
abbrev pub CourseIsReady : Course → Type 0
CourseIsReady (course.Read reader) = ReadIsReady reader.stage
CourseIsReady (course.Write writer) = WriteIsReady writer.stage

-- The replies to the request that is out.
abbrev pub CourseAwaits : Sid → Plan → Course → Reply → Type 0
CourseAwaits who plan (course.Read reader) reply = ReadAwaits reader.key reader.floor reader.stage reply
CourseAwaits who plan (course.Write writer) reply = WriteAwaits who (changes_of plan) writer reply

-- Whether a reader is at its end.
abbrev pub read_is_over : ReadStage → Bool
read_is_over (reads.Done ended) = true
read_is_over stage = false

-- Whether a writer is at its end.
abbrev pub write_is_over : WriteStage → Bool
write_is_over (writes.Done ended) = true
write_is_over stage = false

-- Whether a course is at its end.
abbrev pub is_over : Course → Bool
is_over (course.Read reader) = read_is_over reader.stage
is_over (course.Write writer) = write_is_over writer.stage

-- The plan of a session.
abbrev pub plan_of : Session → Plan
plan_of session = session.plan

-- The number of a session.
abbrev pub sid_of : Session → Sid
sid_of session = session.sid

-- The session has been told what came of its last request.
abbrev pub IsReady : Session → Type 0
IsReady session = IsTrue (not session.out || is_over session.course) × CourseIsReady session.course

-- The session may have heard this, the latest first. The flag says that memory ran out when it was told of its commit.
abbrev pub Follows : Session → Bool → List Reply → Type 0
Follows session short heard = Goes session.plan session.course short heard

-- The reply tells of a commit and brings a grant to refresh.
abbrev pub IsRefreshing : Reply → Type 0
IsRefreshing (Reply.Committed number txn grants) = Any (λ (grant : Permit). grant.mode ≡ Refresh) grants.items
IsRefreshing reply = ⊥

-- The reply belongs to the request of the session that is out.
abbrev pub IsAwaited : Session → Reply → Type 0
IsAwaited session reply =
    IsTrue (session.out || is_over session.course) × CourseAwaits session.sid session.plan session.course reply
