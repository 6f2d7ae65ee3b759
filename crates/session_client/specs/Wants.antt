-- What a session wants next, read off its plan and what it was told, the latest first.
use Rattle.std.specs.Prelude.{ℕ, ◌+◌, Bool, true, false, nat_lt, if◌then◌else◌, List, [], ◌∷◌, ◌++◌, length, set, count_by, Option, Some, None, slice_get}
use Rattle.std.specs.List.{list_any, remove}
use Rattle.rows_model.specs.declared.keys.QKey.{QKey}
use Rattle.rows_model.specs.declared.changes.Change.{Change}
use Rattle.rows_model.specs.Delta.{delta_of}
use Rattle.rows_model.specs.Refresh.{refreshed}
use Rattle.lease_table.specs.declared.records.Mode.{Mode}
use Rattle.lease_table.specs.declared.records.Mode.TheVariants as mode
use Rattle.key_shard.specs.Permit.{Permit}
use Rattle.key_shard.specs.declared.replies.Got.{Got}
use Rattle.key_shard.specs.declared.replies.Got.TheVariants as got
use Rattle.key_shard.specs.declared.replies.SetAnswer.TheVariants as set
use Rattle.key_shard.specs.declared.replies.QAnswer.TheVariants as quarantine
use Rattle.key_shard.specs.declared.replies.Raising.TheVariants as raising
use Rattle.sql_keeper.specs.declared.stores.Answer.{Answer}
use Rattle.session_client.specs.declared.plans.Plan.{Plan}
use Rattle.session_client.specs.declared.plans.Plan.TheVariants.{Read, Write, Look, Quit, Skip, Raise, Renew}
use Rattle.session_client.specs.declared.replies.Fault.TheVariants as causes
use Rattle.session_client.specs.declared.replies.Reply.{Reply}
use Rattle.session_client.specs.declared.replies.Reply.TheVariants as Reply
use Rattle.session_client.specs.declared.replies.Wanted.{Wanted}
use Rattle.session_client.specs.declared.replies.Wanted.TheVariants as wanted
use Rattle.session_client.specs.declared.replies.Outcome.{Outcome}
use Rattle.session_client.specs.declared.replies.Outcome.TheVariants as outcome
use Rattle.session_client.specs.Plans.{changes_of, mode_of, mode_on, keys_of}

-- Whether a session was told to try again.
abbrev pub is_again : Reply → Bool
is_again (Reply.Got (got.Again standing)) = true
is_again other = false

-- How often it was told so.
abbrev pub agains : List Reply → ℕ
agains heard = count_by is_again heard

-- An answer is stored where a lease was given before it, and under that lease.
abbrev pub set_after : QKey → Answer → List Reply → Wanted
set_after key answer (Reply.Got (got.Lease token) ∷ heard) = wanted.Set key token answer.value answer.stamp
set_after key answer heard = wanted.Nothing

-- A reader gets the key until it has it or a lease, asks the store after a lease, after 16
-- Agains or where it has quarantined the key itself, and stores the answer under its lease.
abbrev pub read_wants : QKey → ℕ → List Reply → Wanted
read_wants key floor [] = wanted.Get key floor
read_wants key floor (Reply.Got (got.Lease token) ∷ heard) = wanted.Ask key
read_wants key floor (Reply.Got (got.Again standing) ∷ heard) =
    if nat_lt (agains heard + 1) 16 then wanted.Get key floor else wanted.Ask key
read_wants key floor (Reply.Got got.Own ∷ heard) = wanted.Ask key
read_wants key floor (Reply.Answer answer ∷ heard) = set_after key answer heard
read_wants key floor (other ∷ heard) = wanted.Nothing

-- Whether a reply says that the quarantine that was asked for stands.
abbrev pub is_had : Reply → Bool
is_had (Reply.Quar (quarantine.Granted grant old)) = true
is_had (Reply.Quar quarantine.Held) = true
is_had other = false

-- A grant and the old value that came along with it, with its stamp.
pub record Given : Type 0 where
  pub permit : Permit
  pub old : Option (List ℕ × ℕ)

-- Whether a reply ends the turn of a grant that was to be raised or renewed, and that the session still has.
abbrev pub is_turn : Reply → Bool
is_turn (Reply.Raise (raising.Raised grant old)) = true
is_turn (Reply.Raise (raising.Shared grant holder)) = true
is_turn (Reply.RaiseBack grant) = true
is_turn (Reply.Renew grant answer) = true
is_turn other = false

-- How many such grants there were: the place of the next, from 0.
abbrev pub turned : List Reply → ℕ
turned heard = count_by is_turn heard

-- What was given, after a reply to the turn of the one at this place. A raised grant comes with the old value. One whose quarantine is gone is spent.
abbrev pub given_by : Reply → ℕ → List Given → List Given
given_by (Reply.Raise (raising.Raised grant old)) place ones = set ones place (record { permit = grant; old = old })
given_by (Reply.Raise raising.Gone) place ones = remove ones place
given_by other place ones = ones

-- What a reply gives, if it brings a new grant.
abbrev pub given_in : Reply → List Given
given_in (Reply.Quar (quarantine.Granted grant old)) = record { permit = grant; old = old } ∷ []
given_in other = []

-- What a session was given, in its order, without what a raise spent.
abbrev pub given : List Reply → List Given
given [] = []
given (reply ∷ heard) = given_by reply (turned heard) (given heard) ++ given_in reply

-- The grants alone, after such a reply.
abbrev pub granted_by : Reply → ℕ → List Permit → List Permit
granted_by (Reply.Raise (raising.Raised grant old)) place grants = set grants place grant
granted_by (Reply.Raise raising.Gone) place grants = remove grants place
granted_by other place grants = grants

-- The grant that a reply brings, if it brings a new one.
abbrev pub grants_in : Reply → List Permit
grants_in (Reply.Quar (quarantine.Granted grant old)) = grant ∷ []
grants_in other = []

-- The grants that a session was given, in their order, without those that a raise spent.
abbrev pub granted : List Reply → List Permit
granted [] = []
granted (reply ∷ heard) = granted_by reply (turned heard) (granted heard) ++ grants_in reply

-- Whether a reply is that of a release.
abbrev pub is_release : Reply → Bool
is_release (Reply.Rel answer) = true
is_release other = false

-- How many grants were released.
abbrev pub released : List Reply → ℕ
released heard = count_by is_release heard

-- Whether a reply says that the transaction was committed.
abbrev pub is_commit : Reply → Bool
is_commit (Reply.Committed number txn grants) = true
is_commit other = false

-- Whether the session was told so.
abbrev pub was_committed : List Reply → Bool
was_committed heard = list_any is_commit heard

-- The number of the session's commit, if it was told of one.
abbrev pub number_of : List Reply → Option ℕ
number_of [] = None
number_of (Reply.Committed number txn grants ∷ heard) = Some number
number_of (other ∷ heard) = number_of heard

-- What a session does once its keys are quarantined: it commits, gets a key first, quits, or raises or renews each quarantine first.
pub data Then : Type 0 where
  Commits : Then
  Looks : (key : QKey) → Then
  Quits : Then
  Raises : Then
  Renews : Then

-- What a session of this plan does then.
abbrev pub then_of : Plan → Then
then_of (Read key floor) = Commits
then_of (Write mode txn) = Commits
then_of (Look mode key txn) = Looks key
then_of (Quit mode txn) = Quits
then_of (Skip key txn) = Commits
then_of (Raise txn) = Raises
then_of (Renew mode txn) = Renews

-- How a session writes: the keys that it quarantines, in which mode, for which transaction, and what it does then.
pub record Writing : Type 0 where
  pub mode : Mode
  pub keys : List QKey
  pub txn : List Change
  pub next : Then

-- How a session of this plan writes.
abbrev pub writing_of : Plan → Writing
writing_of plan =
    record { mode = mode_of plan; keys = keys_of plan; txn = changes_of plan; next = then_of plan }

-- The quarantine of a key in this mode, for this transaction.
abbrev pub quarantine_as : Mode → QKey → List Change → Wanted
quarantine_as mode.Invalidate key txn = wanted.QaReg key
quarantine_as mode.Refresh key txn = wanted.QaRead key
quarantine_as mode.Delta key txn = wanted.Delta key (delta_of key txn)

-- To commit, with the grants that were given.
abbrev pub commit_with : Writing → List Reply → Wanted
commit_with writing heard =
    wanted.Commit writing.txn (record { items = granted heard; room = length writing.keys })

-- A grant is to be raised, if there is one, and else the session commits.
abbrev pub raise_or_commit : Writing → List Reply → Option Permit → Wanted
raise_or_commit writing heard (Some grant) = wanted.Raise grant
raise_or_commit writing heard None = commit_with writing heard

-- What a session wants that raises its quarantines in turn: the next one, and after the last to commit.
abbrev pub raise_next : Writing → List Reply → Wanted
raise_next writing heard = raise_or_commit writing heard (slice_get (granted heard) (turned heard))

-- A grant is to be renewed, if there is one, and else the session commits.
abbrev pub renew_or_commit : Writing → List Reply → Option Permit → Wanted
renew_or_commit writing heard (Some grant) = wanted.Renew grant
renew_or_commit writing heard None = commit_with writing heard

-- What a session wants that renews its quarantines in turn: the next one, and after the last to commit.
abbrev pub renew_next : Writing → List Reply → Wanted
renew_next writing heard = renew_or_commit writing heard (slice_get (granted heard) (turned heard))

-- What is wanted once the keys are quarantined.
abbrev pub then_wants : Then → Writing → List Reply → Wanted
then_wants Commits writing heard = commit_with writing heard
then_wants (Looks key) writing heard = wanted.Get key 0
then_wants Quits writing heard = wanted.End
then_wants Raises writing heard = raise_next writing heard
then_wants Renews writing heard = renew_next writing heard

-- A writer quarantines the next key, in the mode that it has for that key, and goes on after the last one.
abbrev pub quarantine_or_then : Writing → List Reply → Option QKey → Wanted
quarantine_or_then writing heard (Some key) = quarantine_as (mode_on writing.mode key) key writing.txn
quarantine_or_then writing heard None = then_wants writing.next writing heard

-- What a writer wants that has heard of these quarantines: the next one, or what comes after the last.
abbrev pub quarantine_next : Writing → List Reply → Wanted
quarantine_next writing heard =
    quarantine_or_then writing heard (slice_get writing.keys (count_by is_had heard))

-- Whether each key has been quarantined.
abbrev pub has_all : Writing → List Reply → Bool
has_all writing heard = if nat_lt (count_by is_had heard) (length writing.keys) then false else true

-- A session that looks at a key of its own asks the store for the answer that its transaction would leave. After any other answer it commits.
abbrev pub look_after : Then → Writing → Got → List Reply → Wanted
look_after (Looks key) writing got.Own heard = wanted.Staged key writing.txn
look_after next writing found heard = commit_with writing heard

-- A request that wasn't made ends the session where it was a quarantine. A session that looked at a key commits all the same.
abbrev pub after_fault : Bool → Writing → List Reply → Wanted
after_fault true writing heard = commit_with writing heard
after_fault false writing heard = wanted.End

-- How grants are released: with the value kept, with the value dropped, or as the grant's mode says after the commit of this number.
pub data Release : Type 0 where
  Keeps : Release
  Drops : Release
  Finishes : (number : ℕ) → Release

-- A session that has committed finishes, or drops each value where memory ran out at its commit. One that hasn't keeps each.
abbrev pub release_after : Bool → Option ℕ → Release
release_after short None = Keeps
release_after true (Some number) = Drops
release_after false (Some number) = Finishes number

-- A grant that came back, since there was no memory to put its new value, is released with its value dropped.
abbrev pub release_by : Bool → List Reply → Release
release_by short (Reply.SarBack grant ∷ heard) = Drops
release_by short heard = release_after short (number_of heard)

-- The new value of a key: its old one refreshed by the transaction. There is none where there was no old value, or where it can't be refreshed.
abbrev pub new_value : QKey → List Change → Option (List ℕ × ℕ) → Option (List ℕ)
new_value key txn None = None
new_value key txn (Some old) = refreshed key old.0 txn

-- The release of a grant after the commit of this number, by its mode: the value is dropped, replaced by the new one, or shifted.
abbrev pub finish : Mode → List Change → ℕ → Given → Wanted
finish mode.Invalidate txn number one = wanted.Dar one.permit
finish mode.Refresh txn number one = wanted.Sar one.permit (new_value one.permit.key txn one.old) number
finish mode.Delta txn number one = wanted.Apply one.permit number

-- The release of a grant in this way, if there is one to be released.
abbrev pub release_of : List Change → Release → Option Given → Wanted
release_of txn how None = wanted.Nothing
release_of txn Keeps (Some one) = wanted.Abort one.permit
release_of txn Drops (Some one) = wanted.Dar one.permit
release_of txn (Finishes number) (Some one) = finish one.permit.mode txn number one

-- The next grant is released.
abbrev pub release_next : Writing → Bool → List Reply → Wanted
release_next writing short heard =
    release_of writing.txn (release_by short heard) (slice_get (given heard) (released heard))

-- What a writer wants: it quarantines its keys in turn, goes on as it is to, and
-- releases its grants. Where it was refused a quarantine or the commit it is ended
-- at the store first. The flag says that memory ran out when it was told of its commit.
abbrev pub write_wants : Writing → Bool → List Reply → Wanted
write_wants writing short [] = quarantine_next writing []
write_wants writing short (Reply.Quar (quarantine.Granted grant old) ∷ heard) =
    quarantine_next writing (Reply.Quar (quarantine.Granted grant old) ∷ heard)
write_wants writing short (Reply.Quar quarantine.Held ∷ heard) =
    quarantine_next writing (Reply.Quar quarantine.Held ∷ heard)
write_wants writing short (Reply.Quar (quarantine.Refused holder held) ∷ heard) = wanted.End
write_wants writing short (Reply.Fault fault ∷ heard) = after_fault (has_all writing heard) writing heard
write_wants writing short (Reply.Got found ∷ heard) = look_after writing.next writing found heard
write_wants writing short (Reply.Staged value txn ∷ heard) = commit_with writing heard
write_wants writing short (Reply.NotStaged fault txn ∷ heard) = commit_with writing heard
write_wants writing short (Reply.Raise answer ∷ heard) = raise_next writing (Reply.Raise answer ∷ heard)
write_wants writing short (Reply.RaiseBack grant ∷ heard) = raise_next writing (Reply.RaiseBack grant ∷ heard)
write_wants writing short (Reply.Renew grant answer ∷ heard) = renew_next writing (Reply.Renew grant answer ∷ heard)
write_wants writing short (Reply.NotCommitted fault txn grants ∷ heard) = wanted.End
write_wants writing short (Reply.Committed number txn grants ∷ heard) =
    release_next writing short (Reply.Committed number txn grants ∷ heard)
write_wants writing short (Reply.End was ∷ heard) = release_next writing short (Reply.End was ∷ heard)
write_wants writing short (Reply.Rel answer ∷ heard) = release_next writing short (Reply.Rel answer ∷ heard)
write_wants writing short (Reply.SarBack grant ∷ heard) =
    release_next writing short (Reply.SarBack grant ∷ heard)
write_wants writing short (other ∷ heard) = wanted.Nothing

-- What a session of this plan wants. The flag says that memory ran out when it was told of its commit.
abbrev pub wants : Plan → Bool → List Reply → Wanted
wants (Read key floor) short heard = read_wants key floor heard
wants (Write mode txn) short heard = write_wants (writing_of (Write mode txn)) short heard
wants (Look mode key txn) short heard = write_wants (writing_of (Look mode key txn)) short heard
wants (Quit mode txn) short heard = write_wants (writing_of (Quit mode txn)) short heard
wants (Skip key txn) short heard = write_wants (writing_of (Skip key txn)) short heard
wants (Raise txn) short heard = write_wants (writing_of (Raise txn)) short heard
wants (Renew mode txn) short heard = write_wants (writing_of (Renew mode txn)) short heard

-- How a reader ended, by the last reply that it was told; a turn of a session that is done tells nothing.
abbrev pub read_outcome : List Reply → Option Outcome
read_outcome [] = None
read_outcome (Reply.Nothing ∷ heard) = read_outcome heard
read_outcome (Reply.Got (got.Hit value stamp) ∷ heard) = Some outcome.Hit
read_outcome (Reply.Answer answer ∷ heard) = Some outcome.Bypass
read_outcome (Reply.Set (set.Stored evicted) ∷ heard) = Some outcome.Stored
read_outcome (Reply.Set set.Void ∷ heard) = Some outcome.Void
read_outcome (Reply.Fault fault ∷ heard) = Some (outcome.Failed fault)
read_outcome (other ∷ heard) = None

-- A commit that was told without memory for the new values is a failure.
abbrev pub commit_outcome : Bool → ℕ → Outcome
commit_outcome true number = outcome.Failed causes.Memory
commit_outcome false number = outcome.Committed number

-- A quarantine that wasn't made is a failure; a key that couldn't be looked at is none.
abbrev pub fault_outcome : Bool → Outcome → Option Outcome → Option Outcome
fault_outcome true failed before = before
fault_outcome false failed before = Some failed

-- How a writer ended: it was committed, refused, not committed, or a request of its was not made.
abbrev pub write_outcome : Writing → Bool → List Reply → Option Outcome
write_outcome writing short [] = None
write_outcome writing short (Reply.Committed number txn grants ∷ heard) = Some (commit_outcome short number)
write_outcome writing short (Reply.NotCommitted fault txn grants ∷ heard) = Some (outcome.NotCommitted fault)
write_outcome writing short (Reply.Quar (quarantine.Refused holder held) ∷ heard) = Some (outcome.Refused holder held)
write_outcome writing short (Reply.Fault fault ∷ heard) =
    fault_outcome (has_all writing heard) (outcome.Failed fault) (write_outcome writing short heard)
write_outcome writing short (other ∷ heard) = write_outcome writing short heard

-- One that quits and wasn't hindered has quit.
abbrev pub end_outcome : Then → Option Outcome → Option Outcome
end_outcome Quits None = Some outcome.Quit
end_outcome next ended = ended

-- How a writer ended, whether or not it was hindered.
abbrev pub writing_outcome : Writing → Bool → List Reply → Option Outcome
writing_outcome writing short heard = end_outcome writing.next (write_outcome writing short heard)

-- How a session of this plan ended.
abbrev pub outcome_of : Plan → Bool → List Reply → Option Outcome
outcome_of (Read key floor) short heard = read_outcome heard
outcome_of (Write mode txn) short heard = writing_outcome (writing_of (Write mode txn)) short heard
outcome_of (Look mode key txn) short heard = writing_outcome (writing_of (Look mode key txn)) short heard
outcome_of (Quit mode txn) short heard = writing_outcome (writing_of (Quit mode txn)) short heard
outcome_of (Skip key txn) short heard = writing_outcome (writing_of (Skip key txn)) short heard
outcome_of (Raise txn) short heard = writing_outcome (writing_of (Raise txn)) short heard
outcome_of (Renew mode txn) short heard = writing_outcome (writing_of (Renew mode txn)) short heard

-- Whether nothing is wanted.
abbrev pub is_nothing : Wanted → Bool
is_nothing wanted.Nothing = true
is_nothing other = false

-- How a session of this plan ended, which is told once it wants nothing more.
abbrev pub done_by : Plan → Bool → List Reply → Option Outcome
done_by plan short heard = if is_nothing (wants plan short heard) then outcome_of plan short heard else None
