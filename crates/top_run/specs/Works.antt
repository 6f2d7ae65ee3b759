-- What the run of a load prints and keeps.
use Rattle.std.specs.Prelude.{ℕ, ◌≡◌, ◌≢◌, ◌≤◌, ◌<◌, ◌-◌, ◌^◌, ◌==◌, ◌⊎◌, nat_lt, min, Bool, true, false, List, [], ◌∷◌, ◌++◌, length, position, count_by}
use Rattle.std.specs.Prelude.{All, sum_by, Option, Some, None, IsSome, Result, Ok, Err, slice_get, codes, decimal}
use Rattle.std.specs.List.{AllByRecursion, IsDistinct, list_any}
use Rattle.std.specs.Option.{ForSome}
use Rattle.iq_outside.specs.Outside.{Rose}
use Rattle.rows_model.specs.declared.keys.Sid.{Sid}
use Rattle.rows_model.specs.Key.{key_text}
use Rattle.rows_model.specs.Rows.{Tables}
use Rattle.key_shard.specs.declared.steps.Step.{Step}
use Rattle.key_shard.specs.declared.steps.Step.TheVariants as step
use Rattle.key_shard.specs.Answers.{Legal}
use Rattle.key_shard.specs.Past.{Terms, draws}
use Rattle.sql_keeper.specs.declared.stores.Commit.{Commit}
use Rattle.sql_keeper.specs.Faults.{HaveFailed}
use Rattle.sql_keeper.specs.Fresh.{Covered, Fresh}
use Rattle.sql_keeper.specs.Log.{rows_after, no_cap}
use Rattle.sql_keeper.specs.Stores.{StoreView}
use Rattle.session_client.specs.declared.plans.Plan.{Plan}
use Rattle.session_client.specs.declared.plans.Shape.{Shape}
use Rattle.gate_workers.specs.Rows.{DeskView, RowView, AllWork}
use Rattle.gate_workers.specs.Tallies.{tally_of}
use Rattle.core_history.specs.Lines.{line, count_in, is_hit, is_stored, is_again}
use Rattle.core_history.specs.Machine.{terms_of, log_cap}
use Rattle.shard_lock.specs.Names.{terms_at}
use Rattle.run_audit.specs.declared.findings.Finding.{Finding}
use Rattle.run_audit.specs.declared.findings.Finding.TheVariants as finding
use Rattle.run_audit.specs.Findings.{IsFinding}
use Rattle.run_inputs.specs.declared.loads.WorkSpec.{WorkSpec}
use Rattle.run_inputs.specs.Loads.{load}
use Rattle.top_run.specs.declared.plays.Stop.{Stop}
use Rattle.top_run.specs.declared.plays.Stop.TheVariants as stop
use Rattle.top_run.specs.declared.runs.Status.{Status}
use Rattle.top_run.specs.declared.runs.Status.TheVariants as status
use Rattle.top_run.specs.declared.summaries.Counted.{Counted}
use Rattle.top_run.specs.declared.summaries.Counted.TheVariants as counted
use Rattle.top_run.specs.Runs.{Held, Tells, Left, Prints, IsOpened, IsUnasked, IsNotStarted}

-- The shape of a load's run: so many members and shards, room for 1,024 entries in each, and leases that live 10 seconds.
abbrev pub work_shape : WorkSpec → Shape
work_shape spec = record { members = spec.members; shards = spec.shards; room = 1024; life = 10000 }

-- What the shard of this number is made with in a run over a hub of this shape: it is whole, or it rolls.
abbrev pub hub_terms : Shape → Bool → ℕ → Terms
hub_terms shape rolls = terms_at shape.shards shape.room shape.life rolls

-- Steps that are counted, beside hits, stored values and Agains.
abbrev pub is_void : Step → Bool
is_void (step.Void key token now) = true
is_void other = false

abbrev pub is_refused : Step → Bool
is_refused (step.Refused key sid mode holder held) = true
is_refused other = false

-- Whether a step is of this kind.
abbrev pub test_of : Counted → Step → Bool
test_of counted.Hit = is_hit
test_of counted.Stored = is_stored
test_of counted.Void = is_void
test_of counted.Again = is_again
test_of counted.Refused = is_refused

-- The first line of the summary: the load.
unfoldable pub load_line : WorkSpec → List ℕ
load_line spec =
    line (codes "work" ∷ codes "members" ∷ decimal spec.members ∷ codes "sessions" ∷ decimal spec.sessions
    ∷ codes "workers" ∷ decimal spec.workers ∷ codes "shards" ∷ decimal spec.shards ∷ codes "seed" ∷ decimal spec.seed ∷ [])

-- The second line: what the histories and the log count, and two numbers that only the transcripts tell.
unfoldable pub totals_line : List Commit → List (List Step) → ℕ → ℕ → List ℕ
totals_line log histories bypasses rejected =
    line (codes "hits" ∷ decimal (count_in is_hit histories) ∷ codes "stores" ∷ decimal (count_in is_stored histories)
    ∷ codes "voids" ∷ decimal (count_in is_void histories) ∷ codes "agains" ∷ decimal (count_in is_again histories)
    ∷ codes "bypasses" ∷ decimal bypasses ∷ codes "commits" ∷ decimal (length log)
    ∷ codes "rejected" ∷ decimal rejected ∷ codes "refused" ∷ decimal (count_in is_refused histories) ∷ [])

-- The third line: what an audit found.
unfoldable pub audit_line : Finding → List ℕ
audit_line finding.Clean = line (codes "audit" ∷ codes "clean" ∷ [])
audit_line (finding.Stale shard place) = line (codes "audit" ∷ codes "stale" ∷ decimal shard ∷ decimal place ∷ [])
audit_line (finding.Uncovered commit key) = line (codes "audit" ∷ codes "uncovered" ∷ decimal commit ∷ key_text key ∷ [])

-- The summary of a load: these three lines.
unfoldable pub summary : WorkSpec → List Commit → List (List Step) → ℕ → ℕ → Finding → List ℕ
summary spec log histories bypasses rejected found =
    load_line spec ++ (totals_line log histories bypasses rejected ++ audit_line found)

-- Whether a shard with this history has drawn each token that it can: 2^64-2 Lease and Granted steps.
abbrev pub has_spent : List Step → Bool
has_spent history = count_by draws history == 2 ^ 64 - 2

-- The least shard that has.
abbrev pub first_spent : List (List Step) → Option ℕ
first_spent histories = position has_spent histories

-- The status of a run whose summary was written: by whether a call of its keeper
-- failed, and the least shard that is spent, in this order.
abbrev pub work_status : Bool → Option ℕ → Status
work_status true spent = status.KeepFault
work_status false (Some shard) = status.Spent shard
work_status false None = status.Done

-- How a run that began ends, by what stopped it if something did.
abbrev pub end_status : Bool → Option ℕ → Result Finding Stop → Status
end_status failed spent (Ok found) = work_status failed spent
end_status failed spent (Err stop.WriteFault) = status.WriteFault
end_status failed spent (Err stop.Memory) = status.Memory

-- Whether a write ended it.
abbrev pub at_write_failed : Result Finding Stop → Bool
at_write_failed (Ok found) = false
at_write_failed (Err stop.WriteFault) = true
at_write_failed (Err stop.Memory) = false

-- The name of a hub names what it is made with: a shard's terms, by which it is whole or rolls, and the store as it was handed in.
pub record IsNameOf (shape : Shape) (rolls : Bool) (store : StoreView) (terms : ℕ → Terms)
    (opening : Tables) (cap : ℕ) (known_rows : Option Tables) (start : Option ℕ) : Type 0 where
  pub terms_are : (place : ℕ) → terms place ≡ hub_terms shape rolls place
  pub opening_is : store.ledger.opening ≡ opening
  pub cap_is : cap ≡ log_cap
  pub told_is : known_rows ≡ store.known_rows
  pub start_is : start ≡ Some store.faults

-- Whether a step names this session: one that follows a set names none.
abbrev pub names : Sid → Step → Bool
names who (step.Hit on sid floor value stamp) = sid.number == who.number
names who (step.Lease on sid floor now token deadline) = sid.number == who.number
names who (step.Again on sid floor now stands) = sid.number == who.number
names who (step.Own on sid) = sid.number == who.number
names who (step.Stored on token now value stamp evicted) = false
names who (step.Void on token now) = false
names who (step.Granted on sid mode shift now token deadline) = sid.number == who.number
names who (step.Held on sid mode) = sid.number == who.number
names who (step.Refused on sid mode holder held) = sid.number == who.number
names who (step.Released on sid token how) = sid.number == who.number
names who (step.Gone on sid token) = sid.number == who.number
names who (step.Raised on sid token) = sid.number == who.number
names who (step.Shared on sid token holder) = sid.number == who.number
names who (step.Renewed on sid token now deadline) = sid.number == who.number

-- A step of one of these histories names the session.
pub record IsNamedIn (histories : List (List Step)) (who : Sid) : Type 0 where
  pub place : ℕ
  pub history : List Step
  pub there : slice_get histories place ≡ Some history
  pub named : list_any (names who) history ≡ true

-- As many sessions as there are plans, no two of the same number, and a step of these histories names each.
pub record HaveSessions (plans : List (List Plan)) (histories : List (List Step)) : Type 0 where
  pub sids : List Sid
  pub as_many : length sids ≡ sum_by (λ (list : List Plan). length list) plans
  pub differ : IsDistinct (λ (one other : Sid). one.number == other.number) sids
  pub named : AllByRecursion (IsNamedIn histories) sids

-- No shard with such a history has drawn its last token.
abbrev pub AreUnspent : List (List Step) → Type 0
AreUnspent histories = All (λ (history : List Step). count_by draws history < 2 ^ 64 - 2) histories

-- Each worker has run its plans on a desk of its own, and these are their transcripts: a row for each plan. Each plan has had a
-- session of its own, which the histories tell of, unless a shard has drawn its last token.
pub record HaveRun (plans : List (List Plan)) (histories : List (List Step)) (transcripts : List (List RowView)) : Type 0 where
  pub before : List DeskView
  pub after : List DeskView
  pub work : AllWork plans before after transcripts
  pub sessions : AreUnspent histories → HaveSessions plans histories

-- How many readers had no lease, by all transcripts. The number stops at its type's end.
abbrev pub bypasses_in : List (List RowView) → ℕ
bypasses_in transcripts = min (sum_by (λ (rows : List RowView). (tally_of rows).bypasses) transcripts) (2 ^ 64 - 1)

-- How many writers had a change that doesn't apply, by all transcripts. The number stops at its type's end.
abbrev pub rejected_in : List (List RowView) → ℕ
rejected_in transcripts = min (sum_by (λ (rows : List RowView). (tally_of rows).rejected) transcripts) (2 ^ 64 - 1)

-- The plans of the load have run, and the text is the summary of this log, these
-- histories and the transcripts of the workers, with what an audit finds.
pub record IsSummary (spec : WorkSpec) (opening : Tables) (log : List Commit) (histories : List (List Step)) (found : Finding) (text : List ℕ) : Type 0 where
  pub is_finding : IsFinding opening log histories found
  pub transcripts : List (List RowView)
  pub ran : HaveRun (load spec) histories transcripts
  pub text_is : text ≡ summary spec log histories (bypasses_in transcripts) (rejected_in transcripts) found

-- The summary was written.
pub record IsSummarized (spec : WorkSpec) (opening : Tables) (log : List Commit)
    (histories : List (List Step)) (taken_old taken_new : Option (List ℕ)) (written : ℕ) (found : Finding) : Type 0 where
  pub text : List ℕ
  pub is_summary : IsSummary spec opening log histories found text
  pub prints : Prints taken_old taken_new text written

-- The first bytes of a summary were written.
pub record IsCut (spec : WorkSpec) (opening : Tables) (log : List Commit)
    (histories : List (List Step)) (taken_old taken_new : Option (List ℕ)) (written : ℕ) : Type 0 where
  pub found : Finding
  pub text : List ℕ
  pub is_summary : IsSummary spec opening log histories found text
  pub printed : List ℕ
  pub more : List ℕ
  pub parts : printed ++ more ≡ text
  pub prints : Prints taken_old taken_new printed written

-- What was written where a run stopped before its summary was: the first bytes of it at a write that failed, and nothing for want of memory.
abbrev pub IsHalted : WorkSpec → Tables → List Commit → List (List Step) → Option (List ℕ) → Option (List ℕ) → ℕ → Stop → Type 0
IsHalted spec opening log histories taken_old taken_new written stop.WriteFault =
    IsCut spec opening log histories taken_old taken_new written
IsHalted spec opening log histories taken_old taken_new written stop.Memory = Prints taken_old taken_new [] written

-- These are the last steps of a legal history of a shard with these terms; those before them were given up.
pub record AreLast (terms : Terms) (steps : List Step) : Type 0 where
  pub given_up : List Step
  pub legal : Legal terms (given_up ++ steps)

-- What the shard of this number leaves: where it is whole a legal history, and where it rolls the last steps of one, which may be none.
abbrev pub IsLeft : Shape → Bool → ℕ → List Step → Type 0
IsLeft shape false place steps = Legal (terms_of shape place) steps
IsLeft shape true place steps = AreLast (hub_terms shape true place) steps

-- How many commits a run over a hub leaves at most: where the shards roll, as many as a number can count.
abbrev pub most_commits : Bool → ℕ
most_commits false = log_cap
most_commits true = no_cap

-- What a run over a hub that began leaves: the rows that it began with, which are those of the place, a log that isn't too long,
-- and of each shard a legal history, or where the shards roll the last steps of one. Where the keeper tells its rows, they are
-- the opening rows after the log. So many of the keeper's calls failed since its count of faults was as before the run. Of whole
-- shards each commit is covered, and each hit is fresh where the keeper tells its rows.
pub record IsKept (shape : Shape) (rolls : Bool) (held : Held) (before after : Tells) (left : Left) (opening : Tables) (failed : ℕ) : Type 0 where
  pub opening_is : left.opening ≡ Some opening
  pub opened : IsOpened held shape opening after.rows
  pub short : length left.log ≤ most_commits rolls
  pub rows_are : ForSome after.rows (λ known. known ≡ rows_after opening left.log)
  pub as_many : length left.histories ≡ shape.shards
  pub legal : (place : ℕ) (history : List Step) → slice_get left.histories place ≡ Some history → IsLeft shape rolls place history
  pub since : HaveFailed before.keeps_failed failed after.keeps_failed
  pub fresh : rolls ≡ false → IsSome after.rows → Fresh opening left.log left.histories
  pub covered : rolls ≡ false → Covered left.log left.histories

-- A run ended with its summary written. Its status is that of what it keeps. Unless
-- it is a store fault, no call of the keeper failed and its count of faults is as before.
pub record IsSummed (spec : WorkSpec) (held : Held) (before after : Tells) (left : Left) (written : ℕ) (ended : Status) : Type 0 where
  pub opening : Tables
  pub failed : ℕ
  pub kept : IsKept (work_shape spec) false held before after left opening failed
  pub found : Finding
  pub summary_is : IsSummarized spec opening left.log left.histories before.taken after.taken written found
  pub ends : ended ≡ work_status (nat_lt 0 failed) (first_spent left.histories)
  pub unfailed : ended ≢ status.KeepFault → after.keeps_failed ≡ before.keeps_failed

-- A run that began stopped at a write: the first bytes of its summary are written.
pub record IsCutShort (spec : WorkSpec) (held : Held) (before after : Tells) (left : Left) (written : ℕ) : Type 0 where
  pub opening : Tables
  pub failed : ℕ
  pub kept : IsKept (work_shape spec) false held before after left opening failed
  pub cut : IsCut spec opening left.log left.histories before.taken after.taken written

-- A run that began stopped for want of memory: nothing is written.
pub record IsStoppedShort (spec : WorkSpec) (held : Held) (before after : Tells) (left : Left) (written : ℕ) : Type 0 where
  pub opening : Tables
  pub failed : ℕ
  pub kept : IsKept (work_shape spec) false held before after left opening failed
  pub prints : Prints before.taken after.taken [] written

-- What is so at an end of a load's run.
abbrev pub WorkEnded : Status → WorkSpec → Held → Tells → Tells → Left → ℕ → Type 0
WorkEnded status.Done spec held before after left written = IsSummed spec held before after left written status.Done
WorkEnded status.Usage spec held before after left written = ⊥
WorkEnded (status.Script row kind) spec held before after left written = ⊥
WorkEnded status.ReadFault spec held before after left written = ⊥
WorkEnded status.DoorFault spec held before after left written = ⊥
WorkEnded status.FileFault spec held before after left written = ⊥
WorkEnded status.WriteFault spec held before after left written = IsCutShort spec held before after left written
WorkEnded status.KeepFault spec held before after left written =
    Rose before.keeps_failed after.keeps_failed
    × (((after.rows ≡ before.rows) × IsNotStarted before after left written) ⊎ IsSummed spec held before after left written status.KeepFault)
WorkEnded (status.Spent shard) spec held before after left written = IsSummed spec held before after left written (status.Spent shard)
WorkEnded status.Memory spec held before after left written =
    (IsUnasked before after × IsNotStarted before after left written) ⊎ IsStoppedShort spec held before after left written
