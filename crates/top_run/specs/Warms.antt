-- What the run of two loads prints and keeps, of which the second is run over a cache that takes over what is still right.
use Rattle.std.specs.Prelude.{ℕ, suc, ◌≡◌, ◌≢◌, ◌+◌, ◌*◌, ◌-◌, ◌^◌, ◌≤◌, ◌==◌, ◌⊎◌, nat_lt, if◌then◌else◌, true, List, [], ◌∷◌, ◌++◌, length, drop, reverse}
use Rattle.std.specs.Prelude.{Option, Some, None, IsSome, slice_get, codes, decimal}
use Rattle.std.specs.List.{AllByRecursion, flat_map, list_any}
use Rattle.std.specs.Option.{ForSome, option_or}
use Rattle.iq_outside.specs.Outside.{Rose}
use Rattle.rows_model.specs.declared.keys.Sid.{Sid}
use Rattle.rows_model.specs.Rows.{Tables}
use Rattle.rows_model.specs.Changes.{touches}
use Rattle.rows_model.specs.Key.{same_key}
use Rattle.key_shard.specs.declared.steps.Step.{Step}
use Rattle.key_shard.specs.declared.steps.Step.TheVariants.{Hit}
use Rattle.key_shard.specs.Answers.{Legal}
use Rattle.key_shard.specs.Past.{Terms}
use Rattle.sql_keeper.specs.declared.stores.Commit.{Commit}
use Rattle.sql_keeper.specs.Faults.{HaveFailed}
use Rattle.sql_keeper.specs.Fresh.{Covered, Fresh}
use Rattle.sql_keeper.specs.Log.{rows_after}
use Rattle.session_client.specs.declared.plans.Shape.{Shape}
use Rattle.core_history.specs.Lines.{line}
use Rattle.core_history.specs.Machine.{terms_of, log_cap}
use Rattle.run_audit.specs.declared.findings.Finding.{Finding}
use Rattle.run_inputs.specs.declared.loads.WorkSpec.{WorkSpec}
use Rattle.run_inputs.specs.Loads.{load}
use Rattle.shard_dump.specs.declared.rows.DumpRow.{DumpRow}
use Rattle.shard_dump.specs.declared.rows.Dump.{Dump}
use Rattle.shard_dump.specs.Dumps.{rows_of}
use Rattle.shard_dump.specs.Loads.{loaded_steps}
use Rattle.shard_dump.specs.Texts.{dump_text}
use Rattle.top_run.specs.declared.runs.Status.{Status}
use Rattle.top_run.specs.declared.runs.Status.TheVariants as status
use Rattle.top_run.specs.Runs.{Held, Tells, Left, Prints, IsOpened, IsUnasked, IsNotStarted}
use Rattle.top_run.specs.Serves.{Course}
use Rattle.top_run.specs.Works.{work_shape, first_spent, work_status, AreUnspent, HaveSessions, IsSummary, IsCutShort, IsStoppedShort}

-- The load behind this one: that of the next seed, which is 0 behind the last number there is.
abbrev pub next_seed : ℕ → ℕ
next_seed seed = if seed == 2 ^ 64 - 1 then 0 else seed + 1

abbrev pub next_load : WorkSpec → WorkSpec
next_load spec = record {
  members = spec.members;
  sessions = spec.sessions;
  workers = spec.workers;
  shards = spec.shards;
  seed = next_seed spec.seed;
}

-- ---- the dumps

-- The rows that are dumped of a shard with this history, beside this log.
abbrev pub rows_in : List Commit → List Step → List DumpRow
rows_in log history = rows_of log (reverse history)

-- The dumps of so many shards in all, beside this log, of which these are the histories from the shard of this number on.
abbrev pub dumps_from : ℕ → List Commit → ℕ → List (List Step) → List Dump
dumps_from count log place [] = []
dumps_from count log place (history ∷ histories) =
    record { shard = place; count = count; rows = rows_in log history } ∷ dumps_from count log (suc place) histories

-- The dumps of what a load left.
abbrev pub dumps_in : Left → List Dump
dumps_in left = dumps_from (length left.histories) left.log 0 left.histories

-- The line of a dump: its shard, how many rows it has, and how many bytes its text has.
unfoldable pub dump_line : Dump → List ℕ
dump_line dump = line (codes "dump" ∷ decimal dump.shard ∷ decimal (length dump.rows) ∷ decimal (length (dump_text dump)) ∷ [])

-- The lines of dumps.
abbrev pub dump_lines : List Dump → List ℕ
dump_lines dumps = flat_map dump_line dumps

-- ---- what is taken over

-- A history begins with the steps in which a session loads these rows: of each a Lease and then a Stored with stamp 0.
pub record BeginsLoaded (terms : Terms) (rows : List DumpRow) (history : List Step) : Type 0 where
  pub who : Sid
  pub now : ℕ
  pub more : List Step
  pub begins : history ≡ loaded_steps terms who now terms.first rows ++ more

-- Each second history begins so, with the rows that are dumped of the first one in its place, beside the first log.
abbrev pub HaveTakenOver : Shape → List Commit → List (List Step) → List (List Step) → Type 0
HaveTakenOver shape log firsts seconds =
    (place : ℕ) (first second : List Step) → slice_get firsts place ≡ Some first → slice_get seconds place ≡ Some second
    → BeginsLoaded (terms_of shape place) (rows_in log first) second

-- The steps of the second histories that are behind those by which the rows were loaded, two for each.
abbrev pub steps_behind : List Commit → List (List Step) → List (List Step) → List (List Step)
steps_behind log [] seconds = []
steps_behind log firsts [] = []
steps_behind log (first ∷ firsts) (second ∷ seconds) =
    drop (2 * length (rows_in log first)) second ∷ steps_behind log firsts seconds

-- A hit on the key of this row has its value.
abbrev pub HasValueOf : DumpRow → Step → Type 0
HasValueOf row (Hit key sid floor value stamp) = same_key key row.key ≡ true → value ≡ row.value
HasValueOf row other = Unit {0}

-- Each hit on a row that was loaded has the value that the first cache held, unless a commit of the second log touches its key.
abbrev pub HitsHaveValues : List Commit → List (List Step) → List Commit → List (List Step) → Type 0
HitsHaveValues log firsts later seconds =
    (place : ℕ) (first second : List Step) → slice_get firsts place ≡ Some first → slice_get seconds place ≡ Some second
    → (at : ℕ) (row : DumpRow) → slice_get (rows_in log first) at ≡ Some row
    → (list_any (λ (commit : Commit). touches commit.txn row.key) later ≡ true) ⊎ AllByRecursion (HasValueOf row) second

-- ---- what the loads leave

-- What is left where nothing was run.
abbrev pub nothing_left : Left
nothing_left = record { opening = None; log = []; histories = [] }

-- What the first load left, if it began.
abbrev pub first_of : List Left → Left
first_of [] = nothing_left
first_of (first ∷ others) = first

-- What a load left that began over these opening rows, where these rows are told at the end of the run: a log that isn't too long, and
-- of each shard a legal history. Each commit is covered, and each hit is fresh where the keeper tells its rows.
pub record IsLeftBy (spec : WorkSpec) (known_rows : Option Tables) (opening : Tables) (left : Left) : Type 0 where
  pub opening_is : left.opening ≡ Some opening
  pub short : length left.log ≤ log_cap
  pub as_many : length left.histories ≡ spec.shards
  pub legal : (place : ℕ) (history : List Step) → slice_get left.histories place ≡ Some history → Legal (terms_of (work_shape spec) place) history
  pub fresh : IsSome known_rows → Fresh opening left.log left.histories
  pub covered : Covered left.log left.histories

-- The first load of a run ended with this summary, and this is all that was left earlier: it began with the rows of the place.
pub record IsFirst (spec : WorkSpec) (held : Held) (known_rows : Option Tables) (earlier : List Left) (first : Left) (opening : Tables) (text : List ℕ) : Type 0 where
  pub only : earlier ≡ first ∷ []
  pub left : IsLeftBy spec known_rows opening first
  pub opened : IsOpened held (work_shape spec) opening known_rows
  pub found : Finding
  pub summary : IsSummary spec opening first.log first.histories found text

-- ---- how a run ended

-- The first load didn't begin, or it stopped before its summary was written.
abbrev pub IsStoppedFirst : Status → WorkSpec → Held → Tells → Tells → Left → ℕ → Type 0
IsStoppedFirst status.WriteFault spec held before after first written = IsCutShort spec held before after first written
IsStoppedFirst status.KeepFault spec held before after first written =
    Rose before.keeps_failed after.keeps_failed × (after.rows ≡ before.rows) × IsNotStarted before after first written
IsStoppedFirst status.Memory spec held before after first written =
    (IsUnasked before after × IsNotStarted before after first written) ⊎ IsStoppedShort spec held before after first written
IsStoppedFirst other spec held before after first written = ⊥

-- So a run ended of which that is so. It leaves at most what the first load left.
pub record HasStoppedFirst (ended : Status) (spec : WorkSpec) (course : Course) : Type 0 where
  pub stopped : IsStoppedFirst ended spec course.held course.before course.after (first_of course.earlier) course.written
  pub few : length course.earlier ≤ 1
  pub none_left : course.left ≡ nothing_left

-- What was written at such an end between the loads, of these lines behind the first summary: the first bytes of them at a write that
-- failed, and for want of memory all or none.
abbrev pub IsLinesPart : Status → List ℕ → List ℕ → Type 0
IsLinesPart status.WriteFault lines printed = (more : List ℕ) × (printed ++ more ≡ lines)
IsLinesPart status.Memory lines printed = (printed ≡ lines) ⊎ (printed ≡ [])
IsLinesPart other lines printed = ⊥

-- The run stopped behind the first load and before the second: the first summary is written. Where the keeper tells its rows they
-- are those after the first log.
pub record HasStoppedBetween (ended : Status) (spec : WorkSpec) (course : Course) : Type 0 where
  pub first : Left
  pub opening : Tables
  pub text : List ℕ
  pub is_first : IsFirst spec course.held course.after.rows course.earlier first opening text
  pub none_left : course.left ≡ nothing_left
  pub rows_are : ForSome course.after.rows (λ known. known ≡ rows_after opening first.log)
  pub failed : ℕ
  pub since : HaveFailed course.before.keeps_failed failed course.after.keeps_failed
  pub lines : List ℕ
  pub is_part : IsLinesPart ended (dump_lines (dumps_in first)) lines
  pub prints : Prints course.before.taken course.after.taken (text ++ lines) course.written

-- The second load began, over the rows after the first log and the rows of the dumps. Where the keeper tells its rows, they are the
-- second opening rows after the second log. So many of the keeper's calls failed in both loads.
pub record HasGoneOn (spec : WorkSpec) (course : Course) : Type 0 where
  pub first : Left
  pub opening : Tables
  pub text : List ℕ
  pub is_first : IsFirst spec course.held course.after.rows course.earlier first opening text
  pub left : IsLeftBy (next_load spec) course.after.rows (rows_after opening first.log) course.left
  pub rows_are : ForSome course.after.rows (λ known. known ≡ rows_after (rows_after opening first.log) course.left.log)
  pub taken_over : HaveTakenOver (work_shape spec) first.log first.histories course.left.histories
  pub hits : IsSome course.after.rows → HitsHaveValues first.log first.histories course.left.log course.left.histories
  pub failed : ℕ
  pub since : HaveFailed course.before.keeps_failed failed course.after.keeps_failed

-- What stands before the second summary: the first one, and the lines of the dumps.
abbrev pub front_of : List ℕ → Left → List ℕ
front_of text first = text ++ dump_lines (dumps_in first)

-- The second summary was written. Each plan of the second load has had a session of its own, of which a step behind the loaded ones
-- tells, unless a shard has drawn its last token. The status is that of what both loads left: of a spent shard of the first, or else of the
-- second.
pub record IsWarmed (spec : WorkSpec) (course : Course) (ended : Status) : Type 0 where
  pub begun : HasGoneOn spec course
  pub open begun use *
  pub found : Finding
  pub last : List ℕ
  pub summary : IsSummary (next_load spec) (rows_after opening first.log) course.left.log course.left.histories found last
  pub sessions : AreUnspent course.left.histories
      → HaveSessions (load (next_load spec)) (steps_behind first.log first.histories course.left.histories)
  pub prints : Prints course.before.taken course.after.taken (front_of text first ++ last) course.written
  pub ends : ended ≡ work_status (nat_lt 0 failed) (option_or (first_spent first.histories) (first_spent course.left.histories))
  pub unfailed : ended ≢ status.KeepFault → course.after.keeps_failed ≡ course.before.keeps_failed

-- A write failed in the second summary: the first bytes of it are written.
pub record IsCutSecond (spec : WorkSpec) (course : Course) : Type 0 where
  pub begun : HasGoneOn spec course
  pub open begun use *
  pub found : Finding
  pub last : List ℕ
  pub summary : IsSummary (next_load spec) (rows_after opening first.log) course.left.log course.left.histories found last
  pub printed : List ℕ
  pub more : List ℕ
  pub parts : printed ++ more ≡ last
  pub prints : Prints course.before.taken course.after.taken (front_of text first ++ printed) course.written

-- Memory ran out before the second summary: nothing of it is written.
pub record IsStoppedSecond (spec : WorkSpec) (course : Course) : Type 0 where
  pub begun : HasGoneOn spec course
  pub open begun use *
  pub prints : Prints course.before.taken course.after.taken (front_of text first) course.written

-- The second load began, and the run ended so.
abbrev pub HasEndedSecond : Status → WorkSpec → Course → Type 0
HasEndedSecond status.Done spec course = IsWarmed spec course status.Done
HasEndedSecond status.KeepFault spec course =
    Rose course.before.keeps_failed course.after.keeps_failed × IsWarmed spec course status.KeepFault
HasEndedSecond (status.Spent shard) spec course = IsWarmed spec course (status.Spent shard)
HasEndedSecond status.WriteFault spec course = IsCutSecond spec course
HasEndedSecond status.Memory spec course = IsStoppedSecond spec course
HasEndedSecond other spec course = ⊥

-- What is so at an end of the run of two loads.
abbrev pub WarmEnded : Status → WorkSpec → Course → Type 0
WarmEnded ended spec course =
    HasStoppedFirst ended spec course ⊎ (HasStoppedBetween ended spec course ⊎ HasEndedSecond ended spec course)
