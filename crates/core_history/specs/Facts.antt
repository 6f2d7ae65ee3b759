-- What holds before and after every event of a run.
use Rattle.std.specs.Prelude.{ℕ, ◌≡◌, ◌≢◌, ◌+◌, ◌<◌, ◌≤◌, ◌⊎◌, ◌==◌, ◌&&◌, Bool, true, false, if◌then◌else◌, List, [], ◌∷◌, ◌++◌, length}
use Rattle.std.specs.Prelude.{All, count_by, Option, Some, None, slice_get}
use Rattle.std.specs.List.{list_any, AllByRecursion}
use Rattle.rows_model.specs.declared.keys.QKey.{QKey}
use Rattle.rows_model.specs.declared.keys.Sid.{Sid}
use Rattle.rows_model.specs.Key.{same_key}
use Rattle.rows_model.specs.Rows.{Tables}
use Rattle.rows_model.specs.Query.{answer}
use Rattle.rows_model.specs.declared.changes.Change.{Change}
use Rattle.rows_model.specs.Changes.{touches}
use Rattle.rows_model.specs.Refresh.{refreshed}
use Rattle.rows_model.specs.Placement.{shard_of}
use Rattle.lease_table.specs.declared.records.Mode.TheVariants.{Invalidate, Refresh}
use Rattle.lease_table.specs.declared.records.Quar.{Quar}
use Rattle.lease_table.specs.declared.records.ReadLease.{ReadLease}
use Rattle.key_shard.specs.declared.steps.Ended.TheVariants as ended
use Rattle.key_shard.specs.declared.steps.Step.{Step}
use Rattle.key_shard.specs.declared.steps.Step.TheVariants as step
use Rattle.key_shard.specs.Past.{standing, recorded, entry, quar_of}
use Rattle.sql_keeper.specs.declared.stores.Answer.{Answer}
use Rattle.sql_keeper.specs.declared.stores.Commit.{Commit}
use Rattle.sql_keeper.specs.Log.{rows_after, state}
use Rattle.sql_keeper.specs.Fresh.{quarantines}
use Rattle.session_client.specs.declared.plans.Shape.{Shape}
use Rattle.session_client.specs.declared.replies.Reply.{Reply}
use Rattle.session_client.specs.declared.replies.Reply.TheVariants as Reply
use Rattle.session_client.specs.Wants.{Given, given}
use Rattle.expiry_sweeper.specs.declared.replies.SweepWanted.TheVariants as sweep
use Rattle.core_history.specs.Events.{Event, Stepped, Called, Ticked, Swept, steps_of, heard_by, log_of, has_committed}
use Rattle.core_history.specs.Machine.{World, is_open, swept_next}

-- The past of a key's own shard.
abbrev pub steps_on : Shape → World → QKey → List Step
steps_on shape world key = steps_of (shard_of key shape.shards) world.past

-- The entry of a key, if it has one, is the key's answer on the rows after as many commits as its stamp says.
abbrev pub IsAnswer : Tables → List Commit → QKey → Option (List ℕ × ℕ) → Type 0
IsAnswer opening log key None = Unit {0}
IsAnswer opening log key (Some found) = (found.1 ≤ length log) × (found.0 ≡ answer key (state opening log found.1))

-- A quarantine of this session stands among these.
abbrev pub stands_for : Sid → List Quar → Bool
stands_for who quars = list_any (λ quar. quar.sid.number == who.number) quars

-- Each commit on the key that the entry doesn't hold has its session's quarantine standing there.
abbrev pub ArePending : List Commit → QKey → List Quar → Option (List ℕ × ℕ) → Type 0
ArePending log key quars None = Unit {0}
ArePending log key quars (Some found) =
    (place : ℕ) (commit : Commit) → slice_get log place ≡ Some commit → found.1 ≤ place → touches commit.txn key ≡ true
    → stands_for commit.sid quars ≡ true

-- Where a quarantine stands no lease to read is recorded, and one that isn't to invalidate is the only one.
pub record AreApart (past : List Step) (key : QKey) : Type 0 where
  pub no_reader : (quar : Quar) (quars : List Quar) → standing key past ≡ quar ∷ quars → recorded key past ≡ None
  pub alone : All (λ quar. quar.mode ≢ Invalidate → length (standing key past) ≡ 1) (standing key past)

-- Whether a step gives the lease of this token to read the key.
abbrev pub leases : QKey → ℕ → Step → Bool
leases key token (step.Lease on sid floor now given deadline) = same_key key on && (given == token)
leases key token other = false

-- How many commits the log had when the lease of this token was given on the key, if it was.
abbrev pub leased_at : QKey → ℕ → List Event → Option ℕ
leased_at key token [] = None
leased_at key token (Stepped shard who request step reply ∷ past) =
    if leases key token step then Some (length (log_of past)) else leased_at key token past
leased_at key token (Called who request reply ∷ past) = leased_at key token past
leased_at key token (Ticked now ∷ past) = leased_at key token past
leased_at key token (Swept shard request made reply ∷ past) = leased_at key token past

-- The answer to the key that a reply tells the session of this number, if it does.
abbrev pub answers_in : QKey → ℕ → Sid → Reply → List Answer
answers_in key number who (Reply.Answer answered) =
    if (who.number == number) && same_key key answered.key then answered ∷ [] else []
answers_in key number who other = []

-- The answers to the key that a session was told since the lease of this token was given on it.
abbrev pub answers_under : QKey → ℕ → ℕ → List Event → List Answer
answers_under key token number [] = []
answers_under key token number (Stepped shard who request step reply ∷ past) =
    if leases key token step then [] else answers_under key token number past
answers_under key token number (Called who request reply ∷ past) =
    answers_in key number who reply ++ answers_under key token number past
answers_under key token number (Ticked now ∷ past) = answers_under key token number past
answers_under key token number (Swept shard request made reply ∷ past) = answers_under key token number past

-- An answer that is held under a lease is the key's on the rows after as many commits as its stamp
-- says, these are at least as many as there were at the lease, and no commit after them touches the key.
pub record IsCurrent (opening : Tables) (log : List Commit) (key : QKey) (least : ℕ) (answered : Answer) : Type 0 where
  pub since : least ≤ answered.stamp
  pub within : answered.stamp ≤ length log
  pub right : answered.value ≡ answer key (state opening log answered.stamp)
  pub latest : (place : ℕ) (commit : Commit) → slice_get log place ≡ Some commit → answered.stamp ≤ place → touches commit.txn key ≡ false

-- No commit has touched a key since the lease that is recorded on it, and each answer that any session was told under it is current.
pub record IsQuiet (opening : Tables) (shape : Shape) (world : World) (key : QKey) (lease : ReadLease) : Type 0 where
  pub least : ℕ
  pub leased : leased_at key lease.token world.past ≡ Some least
  pub untouched : (place : ℕ) (commit : Commit) → slice_get (log_of world.past) place ≡ Some commit → least ≤ place → touches commit.txn key ≡ false
  pub held : (number : ℕ) → AllByRecursion (IsCurrent opening (log_of world.past) key least) (answers_under key lease.token number world.past)

-- What a quarantine found when it was granted or raised: how many commits the log had, and the key's entry, if it had one.
pub record Found : Type 0 where
  pub commits : ℕ
  pub entry : Option (List ℕ × ℕ)

-- Whether a step grants the quarantine of this token on the key, or raises it.
abbrev pub grants_as : QKey → ℕ → Step → Bool
grants_as key token (step.Granted on sid mode shift now given deadline) = same_key key on && (given == token)
grants_as key token (step.Raised on sid given) = same_key key on && (given == token)
grants_as key token other = false

-- What the quarantine of this token found on the key, if it was granted: when it was, or when it was raised.
abbrev pub found_at : QKey → ℕ → List Event → Option Found
found_at key token [] = None
found_at key token (Stepped shard who request step reply ∷ past) =
    if grants_as key token step then Some (record { commits = length (log_of past); entry = entry key (steps_of shard past) })
    else found_at key token past
found_at key token (Called who request reply ∷ past) = found_at key token past
found_at key token (Ticked now ∷ past) = found_at key token past
found_at key token (Swept shard request made reply ∷ past) = found_at key token past

-- An entry that was found is the present answer to the key.
abbrev pub IsPresent : Tables → List Commit → QKey → Option (List ℕ × ℕ) → Type 0
IsPresent opening log key None = Unit {0}
IsPresent opening log key (Some old) = old.0 ≡ answer key (rows_after opening log)

-- An entry that was found, refreshed by the transaction of the commit at this place, is the answer after that commit.
abbrev pub IsRefreshed : Tables → List Commit → QKey → ℕ → List Change → Option (List ℕ × ℕ) → Type 0
IsRefreshed opening log key place txn None = Unit {0}
IsRefreshed opening log key place txn (Some old) =
    refreshed key old.0 txn ≡ Some (answer key (state opening log (place + 1)))

-- What holds of a quarantine that stands and isn't to invalidate.
pub record IsExclusive (opening : Tables) (shape : Shape) (world : World) (key : QKey) (quar : Quar) : Type 0 where
  pub found : Found
  pub granted : found_at key quar.token world.past ≡ Some found
  -- no commit of another session has touched the key since
  pub untouched : (place : ℕ) (commit : Commit) → slice_get (log_of world.past) place ≡ Some commit → found.commits ≤ place
      → touches commit.txn key ≡ true → commit.sid.number ≡ quar.sid.number
  -- the key's entry is the one of that moment, or is gone
  pub same : (entry key (steps_on shape world key) ≡ found.entry) ⊎ (entry key (steps_on shape world key) ≡ None)
  -- the old value that the session keeps is that entry
  pub kept : (place : ℕ) (one : Given) → slice_get (given (heard_by quar.sid.number world.past)) place ≡ Some one
      → one.permit.key ≡ key → one.permit.token ≡ quar.token → quar.mode ≡ Refresh → one.old ≡ found.entry
  -- while the session may commit, that is the present answer
  pub present : is_open world quar.sid ≡ true → IsPresent opening (log_of world.past) key found.entry
  -- once it has committed, the new value that it makes of it is the answer after its commit
  pub new : (place : ℕ) (commit : Commit) → slice_get (log_of world.past) place ≡ Some commit
      → commit.sid.number ≡ quar.sid.number → IsRefreshed opening (log_of world.past) key place commit.txn found.entry

-- A session that may still commit has each quarantine standing that it was granted. One whose
-- quarantine ended with Keep didn't commit, and any whose quarantine ended may commit no more.
abbrev pub IsOrdered : Shape → World → Step → Type 0
IsOrdered shape world (step.Granted key sid mode shift now token deadline) =
    is_open world sid ≡ true → stands_for sid (standing key (steps_on shape world key)) ≡ true
IsOrdered shape world (step.Released key sid token how) =
    (is_open world sid ≡ false) × (how ≡ ended.Keep → has_committed sid.number world.past ≡ false)
IsOrdered shape world other = Unit {0}

-- What holds before and after every event.
pub record Facts (opening : Tables) (shape : Shape) (world : World) : Type 0 where
  -- each entry is its key's answer on the rows after as many commits as its stamp says
  pub answers : (key : QKey) → IsAnswer opening (log_of world.past) key (entry key (steps_on shape world key))
  -- each commit that an entry doesn't hold has its quarantine standing
  pub pending : (key : QKey) → ArePending (log_of world.past) key (standing key (steps_on shape world key)) (entry key (steps_on shape world key))
  -- quarantines stand apart from readers, and from others unless all are to invalidate
  pub apart : (key : QKey) → AreApart (steps_on shape world key) key
  -- readers are quiet
  pub quiet : (key : QKey) (lease : ReadLease) → recorded key (steps_on shape world key) ≡ Some lease → IsQuiet opening shape world key lease
  -- a quarantine that isn't to invalidate has its key for itself
  pub exclusive : (key : QKey) → All (λ quar. quar.mode ≢ Invalidate → IsExclusive opening shape world key quar) (standing key (steps_on shape world key))
  -- a session is granted each key at most once
  pub once : (key : QKey) (who : Sid) → count_by (quarantines key who) (steps_on shape world key) ≤ 1
  -- quarantines end after their session has
  pub order : (place : ℕ) → place < shape.shards → All (IsOrdered shape world) (steps_of place world.past)
  -- whose quarantine the sweeper is to drop may commit no more
  pub swept : (key : QKey) (token : ℕ) (quar : Quar) → swept_next shape world ≡ sweep.Drop key token
      → quar_of key token (steps_on shape world key) ≡ Some quar → is_open world quar.sid ≡ false
