-- A call of the store under its lock: what is seen of it, and what its reply shows by the events that are seen.
use Rattle.std.specs.Prelude.{ℕ, ◌≡◌, ◌+◌, ◌<◌, Bool, true, false, List, ◌∷◌, length, Option, None, Result, Ok}
use Rattle.std.specs.List.{list_any}
use Rattle.rows_model.specs.declared.keys.QKey.{QKey}
use Rattle.rows_model.specs.declared.keys.Sid.{Sid}
use Rattle.rows_model.specs.declared.changes.Change.{Change}
use Rattle.rows_model.specs.Rows.{Tables}
use Rattle.rows_model.specs.Changes.{apply_all}
use Rattle.rows_model.specs.Placement.{shard_of}
use Rattle.key_shard.specs.Permit.{Permit}
use Rattle.sql_keeper.specs.declared.stores.Answer.{Answer}
use Rattle.sql_keeper.specs.declared.faults.AfterFault.{AfterFault}
use Rattle.sql_keeper.specs.declared.faults.CommitFault.{CommitFault}
use Rattle.sql_keeper.specs.Commits.{commit_fault}
use Rattle.sql_keeper.specs.Keepers.{AnswersAfter}
use Rattle.sql_keeper.specs.Log.{rows_after}
use Rattle.sql_keeper.specs.Sessions.{may_commit}
use Rattle.sql_keeper.specs.Stores.{IsRefusal, IsTrueFault}
use Rattle.log_word.specs.declared.events.StoreEvent.{StoreEvent}
use Rattle.log_word.specs.declared.events.StoreEvent.TheVariants.{Begin, Commit, End}
use Rattle.log_word.specs.declared.seen.Seen.{Seen}
use Rattle.log_word.specs.Lists.{steps_of}
use Rattle.log_word.specs.Steps.{grants}
use Rattle.log_word.specs.Views.{with_event, with_failure, with_stop}
use Rattle.key_freshness.specs.Held.{IsRight}
use Rattle.bound_hub.specs.Facts.{answer_after}
use Rattle.bound_hub.specs.Knowns.{begin_count, commits_of}
use Rattle.bound_hub.specs.Ties.{phase_by}

-- Whether the session may still commit, by the events.
abbrev pub is_open_by : ℕ → List StoreEvent → Bool
is_open_by who events = may_commit (phase_by who events)

-- The rows after the commits among the events.
abbrev pub rows_by : Tables → List StoreEvent → Tables
rows_by opening events = rows_after opening (commits_of events)

-- Why a commit is refused before the keeper is asked, if it is, by the events.
abbrev pub fault_by : ℕ → List StoreEvent → Sid → List Permit → List Change → Option CommitFault
fault_by cap events who grants txn = commit_fault (is_open_by who.number events) who grants txn (length (commits_of events)) cap

-- What is seen with the End of a session, where it was open.
abbrev pub with_end_of : Sid → Bool → Seen → Seen
with_end_of sid true seen = with_event (End sid) seen
with_end_of sid false seen = seen

-- What is seen after a call of the keeper: that it failed, where it did, and that the store has
-- stopped telling its rows, where it has.
abbrev pub with_keeper_call : Bool → Bool → Seen → Seen
with_keeper_call true stopped seen = with_stop stopped (with_failure seen)
with_keeper_call false stopped seen = with_stop stopped seen

-- The step that gave the grant is seen.
abbrev pub IsGrantSeen : ℕ → Seen → Permit → Type 0
IsGrantSeen shards seen grant =
    list_any (grants grant.key grant.sid.number) (steps_of (shard_of grant.key shards) seen.steps) ≡ true

-- Where a call is told to have failed, more failed calls are seen than before.
abbrev pub SeesFailure : Bool → Seen → Seen → Type 0
SeesFailure true old new = old.failures < new.failures
SeesFailure false old new = Unit {0}

-- A session began: its Begin is the last event, and its number is the next one after those that had begun before the
-- hub was made and since.
pub record ShowsBegin (begun : ℕ) (worker : ℕ) (writes : Bool) (seen : Seen) (sid : Sid) : Type 0 where
  pub earlier : List StoreEvent
  pub last : seen.events ≡ Begin sid worker writes ∷ earlier
  pub next : sid.number ≡ begun + begin_count earlier + 1

-- An end tells whether the session was open: where it was, its End is the last event, and else it isn't open by the events.
abbrev pub ShowsEnd : Sid → Seen → Bool → Type 0
ShowsEnd sid seen true =
    (earlier : List StoreEvent) × (seen.events ≡ End sid ∷ earlier) × (is_open_by sid.number earlier ≡ true)
ShowsEnd sid seen false = is_open_by sid.number seen.events ≡ false

-- An answer is of the key, and after all commits that are seen. It is right, unless it is seen that the store has
-- stopped telling its rows.
pub record ShowsAnswer (opening : Tables) (key : QKey) (seen : Seen) (given : Answer) : Type 0 where
  pub of_key : given.key ≡ key
  pub stamped : given.stamp ≡ length (commits_of seen.events)
  pub right : seen.stopped ≡ false → IsRight (answer_after opening key) (commits_of seen.events) given.value given.stamp

-- An answer on the rows after a transaction, or its refusal, is right by the commits that are seen, unless it is seen
-- that the store has stopped telling its rows.
abbrev pub ShowsStaged : Tables → QKey → List Change → Seen → Result (List ℕ) AfterFault → Type 0
ShowsStaged opening key txn seen made = seen.stopped ≡ false → AnswersAfter txn key (rows_by opening seen.events) made

-- A session committed: its Commit is the last event, and by those before it nothing stood against it. It is told their
-- number of commits with it. The rows took it, unless it is seen that the store has stopped telling its rows.
pub record ShowsCommit (opening : Tables) (cap : ℕ) (sid : Sid) (txn : List Change) (permits : List Permit) (seen : Seen) (number : ℕ) : Type 0 where
  pub earlier : List StoreEvent
  pub last : seen.events ≡ Commit sid txn ∷ earlier
  pub admitted : fault_by cap earlier sid permits txn ≡ None
  pub number_is : number ≡ length (commits_of earlier) + 1
  pub applied : seen.stopped ≡ false → (after : Tables) × (apply_all txn (rows_by opening earlier) ≡ Ok after)

-- A session didn't commit for this fault: the first by the events that are seen, or else one of the keeper's. A place
-- that it names is right, unless it is seen that the store has stopped telling its rows.
pub record ShowsRefusal (opening : Tables) (cap : ℕ) (sid : Sid) (txn : List Change) (permits : List Permit) (seen : Seen) (fault : CommitFault) : Type 0 where
  pub refusal : IsRefusal (fault_by cap seen.events sid permits txn) fault
  pub true_place : seen.stopped ≡ false → IsTrueFault txn (rows_by opening seen.events) fault
