-- What a server prints and keeps, and how its lines ended.
use Rattle.std.specs.Prelude.{ℕ, ◌≡◌, ◌≢◌, ◌-◌, ◌^◌, ◌≤◌, ◌⊎◌, min, List, [], ◌∷◌, ◌++◌, map, Bool, true, false, Option, Some, None, IfSome, codes, decimal, Vec}
use Rattle.std.specs.Global.{Global}
use Rattle.iq_outside.specs.declared.sinks.Sink.{Ghosts as Sinks}
use Rattle.iq_outside.specs.Outside.{Rose}
use Rattle.rows_model.specs.Rows.{Tables}
use Rattle.session_client.specs.declared.plans.Shape.{Shape}
use Rattle.core_history.specs.Lines.{line}
use Rattle.top_run.specs.declared.runs.Phase.{Phase}
use Rattle.top_run.specs.declared.runs.RunEnd.{RunEnd}
use Rattle.top_run.specs.declared.runs.Status.{Status}
use Rattle.top_run.specs.declared.runs.Status.TheVariants as status
use Rattle.top_run.specs.declared.serves.Served.{Served}
use Rattle.top_run.specs.declared.serves.Begun.{Begun}
use Rattle.top_run.specs.declared.serves.Begun.TheVariants as cache
use Rattle.top_run.specs.declared.serves.ColdCause.{ColdCause}
use Rattle.top_run.specs.declared.serves.ColdCause.TheVariants as why
use Rattle.top_run.specs.Begins.{Beginning, BeginsAs, FailOnlyTold, FilesSeen}
use Rattle.conn_server.specs.declared.ends.LineEnd.{LineEnd}
use Rattle.run_words.specs.declared.words.ServeSpec.{ServeSpec}
use Rattle.top_run.specs.Runs.{Held, Tells, Left, left_at, Prints, CountsWhere, is_write_fault, is_door_fault, is_file_fault, is_keep_fault, IsUnasked, IsNotStarted}
use Rattle.run_words.specs.Words.{most_served}
use Rattle.door_workers.specs.Attending.{GivesBack, HaveEnds, IsEnough, count_up_by}
use Rattle.door_workers.specs.DoorSeen.{DoorSeen}
use Rattle.top_run.specs.Works.{IsKept}

-- The shape of a server's hub: so many members and shards, room for 4,096 entries in each, and leases that live 10 seconds.
abbrev pub serve_shape : ServeSpec → Shape
serve_shape spec = record { members = spec.members; shards = spec.shards; room = 4096; life = 10000 }

-- A server's shards roll: each gives up its steps as they come.
abbrev pub serve_rolls : Bool
serve_rolls = true

-- The line that is written once the door is bound.
unfoldable pub ready_line : List ℕ
ready_line = line (codes "ready" ∷ [])

-- The words of the line that says why nothing was taken over.
abbrev pub cold_words : ColdCause → List (List ℕ)
cold_words why.NoFile = codes "no" ∷ codes "file" ∷ []
cold_words why.FileFault = codes "file" ∷ codes "fault" ∷ []
cold_words why.NoCache = codes "no" ∷ codes "cache" ∷ []
cold_words why.OtherRows = codes "other" ∷ codes "rows" ∷ []
cold_words why.StoreFault = codes "store" ∷ codes "fault" ∷ []
cold_words why.Memory = codes "memory" ∷ []

-- The line before it, where the cache has a file: that so many entries were taken over from it, or why none was.
unfoldable pub begun_line : Begun → List ℕ
begun_line cache.New = []
begun_line (cache.Cold cause) = line (codes "cold" ∷ cold_words cause)
begun_line (cache.Warm rows) = line (codes "warm" ∷ decimal rows ∷ [])

-- What is written once the door is bound, by how the cache began.
abbrev pub ready_text : Begun → List ℕ
ready_text begun = begun_line begun ++ ready_line

-- A cache begins with a file where one is named, and else without.
abbrev pub BeginsBy : Option (Vec ℕ Global) → Begun → Type 0
BeginsBy None begun = begun ≡ cache.New
BeginsBy (Some path) begun = begun ≢ cache.New

-- The line that is written at the end: how many lines were served.
unfoldable pub served_line : ℕ → List ℕ
served_line lines = line (codes "served" ∷ decimal lines ∷ [])

-- All that is written where so many lines were served.
abbrev pub serve_text : Begun → ℕ → List ℕ
serve_text begun lines = ready_text begun ++ served_line lines

-- What was written before the last line: nothing where no line was served yet, or that the door is bound.
abbrev pub IsUntold : Begun → ℕ → List ℕ → Type 0
IsUntold begun lines printed = ((lines ≡ 0) × (printed ≡ [])) ⊎ (printed ≡ ready_text begun)

-- What was written at such an end, where so many lines were served: all of it, the first bytes of it at a write that failed, and else
-- what stands before the last line. Where the cache's file wasn't written, or a call of the keeper failed or memory ran out for its
-- text, all of it was.
abbrev pub IsServedText : Begun → Status → ℕ → List ℕ → Type 0
IsServedText begun status.Done lines printed = printed ≡ serve_text begun lines
IsServedText begun status.WriteFault lines printed = (more : List ℕ) × (printed ++ more ≡ serve_text begun lines)
IsServedText begun status.DoorFault lines printed = IsUntold begun lines printed
IsServedText begun status.FileFault lines printed = (begun ≢ cache.New) × (printed ≡ serve_text begun lines)
IsServedText begun status.KeepFault lines printed = (begun ≢ cache.New) × (printed ≡ serve_text begun lines)
IsServedText begun status.Memory lines printed = IsUntold begun lines printed ⊎ ((begun ≢ cache.New) × (printed ≡ serve_text begun lines))
IsServedText begun other lines printed = ⊥

-- The number that is written for so many lines: it stands still at the end of its type.
abbrev pub line_count : ℕ → ℕ
line_count lines = min lines (2 ^ 64 - 1)

-- What is so of sink, door and lines where a server ends. The door gave some lines, no more than were asked for where a number was,
-- and each was handed back. There is an end for each of a number of lines, and else there is none. At Done as many were served as were
-- asked for, or the door said that no more come, as it did where no number was asked for. Where anything was written the door is bound
-- to the address that was asked for.
pub record IsAttended (spec : ServeSpec) (begun : Begun) (ended : Status) (taken_old taken_new : Option (List ℕ))
    (before after : DoorSeen) (ends : List LineEnd) (written : ℕ) : Type 0 where
  pub lines : ℕ
  pub few : IfSome (most_served spec.conns) (λ most. lines ≤ most)
  pub have_ends : HaveEnds (most_served spec.conns) lines ends
  pub counted : after.lines ≡ count_up_by lines before.lines
  pub given_back : GivesBack lines before.closed after.closed
  pub all : ended ≡ status.Done → IsEnough (most_served spec.conns) lines after.ended
  pub printed : List ℕ
  pub bound : printed ≢ [] → after.bound ≡ Some spec.addr.items
  pub is_text : IsServedText begun ended (line_count lines) printed
  pub prints : Prints taken_old taken_new printed written

-- The lines of a server were served so, from a door that told this before and this after, and with this sink handed in and back:
-- what is so of sink, door and lines, and each count of faults rose exactly where that failed. It doesn't end for
-- the cache's file or its text.
pub record HasServed {W : Type 0} (sinks : Sinks W) (spec : ServeSpec) (begun : Begun) (served : Served) (old new : W) (before after : DoorSeen) : Type 0 where
  pub unsaved : is_file_fault served.status ≡ false
  pub unfailed : is_keep_fault served.status ≡ false
  pub attended : IsAttended spec begun served.status (sinks.taken old) (sinks.taken new) before after served.ends.items served.written
  pub writes : CountsWhere sinks.faults (is_write_fault served.status) old new
  pub doors : CountsWhere (λ (door : DoorSeen). door.faults) (is_door_fault served.status) before after

-- How a run went: where it was made, what was known before and after it, of its door and its files too, what it leaves, what loads that
-- ended before left, how many bytes were written, and how each line ended.
pub record Course : Type 0 where
  pub held : Held
  pub before : Tells
  pub after : Tells
  pub door_before : DoorSeen
  pub door_after : DoorSeen
  pub files_before : FilesSeen
  pub files_after : FilesSeen
  pub left : Left
  pub earlier : List Left
  pub ends : List LineEnd
  pub written : ℕ

-- What a load left that ended before another began.
abbrev pub phase_left : Phase → Left
phase_left phase = record {
  opening = Some phase.opening;
  log = phase.log.items;
  histories = map (λ history. history.items) phase.histories.items;
}

-- The course of a run that ended so, of which these are known.
abbrev pub course_of : {K : Type 0} → Held → Tells → Tells → DoorSeen → DoorSeen → FilesSeen → FilesSeen → RunEnd K → Course
course_of held before after door_before door_after files_before files_after end = record {
  held = held;
  before = before;
  after = after;
  door_before = door_before;
  door_after = door_after;
  files_before = files_before;
  files_after = files_after;
  left = left_at end;
  earlier = map phase_left end.earlier.items;
  ends = end.ends.items;
  written = end.written;
}

-- What is known in this course of how a server's cache began, where these were its opening rows and so many of the keeper's calls failed.
abbrev pub beginning_in : Course → Tables → ℕ → Beginning
beginning_in course opening failed = record {
  files_before = course.files_before;
  files_after = course.files_after;
  opening = opening;
  rows = course.after.rows;
  failed = failed;
}

-- A server ended so that had begun, and how its cache began is told. It leaves what a run over a hub leaves whose shards roll.
pub record IsServed (spec : ServeSpec) (ended : Status) (course : Course) : Type 0 where
  pub opening : Tables
  pub failed : ℕ
  pub begun : Begun
  pub begins : BeginsBy spec.warm begun
  pub begins_as : BeginsAs spec.warm spec.shards (beginning_in course opening failed) begun
  pub fail_only_told : FailOnlyTold begun ended course.files_before course.files_after
  pub kept : IsKept (serve_shape spec) serve_rolls course.held course.before course.after course.left opening failed
  pub attended : IsAttended spec begun ended course.before.taken course.after.taken
      course.door_before course.door_after course.ends course.written

-- No line was served: the door is as before.
pub record IsUnserved (course : Course) : Type 0 where
  pub no_ends : course.ends ≡ []
  pub door : course.door_after ≡ course.door_before

-- What is so at an end of a server. A call of the keeper that failed ends it where the keeper didn't start, and where the server has
-- served and the store was asked for its cache.
abbrev pub ServeEnded : Status → ServeSpec → Course → Type 0
ServeEnded status.Done spec course = IsServed spec status.Done course
ServeEnded status.WriteFault spec course = IsServed spec status.WriteFault course
ServeEnded status.DoorFault spec course = IsServed spec status.DoorFault course
ServeEnded status.FileFault spec course = IsServed spec status.FileFault course
ServeEnded status.KeepFault spec course =
    Rose course.before.keeps_failed course.after.keeps_failed
    × (((course.after.rows ≡ course.before.rows)
    × IsNotStarted course.before course.after course.left course.written
    × IsUnserved course) ⊎ IsServed spec status.KeepFault course)
ServeEnded status.Memory spec course =
    (IsUnasked course.before course.after × IsNotStarted course.before course.after course.left course.written × IsUnserved course)
    ⊎ IsServed spec status.Memory course
ServeEnded other spec course = ⊥
