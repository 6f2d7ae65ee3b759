-- Where a run stands while it goes on.
use Rattle.std.specs.Prelude.{ℕ, Bool, true, false, ◌≡◌, ◌+◌, ◌^◌, ◌≤◌, ◌<◌, List, [], ◌++◌, map, reverse, count_by, sum_by, Option, Result, Ok, Err}
use Rattle.iq_outside.specs.Outside.{TakesAtMost}
use Rattle.session_client.specs.declared.plans.Shape.{Shape}
use Rattle.sql_keeper.specs.declared.faults.KeepFault.{KeepFault}
use Rattle.sql_keeper.specs.declared.faults.KeepFault.TheVariants as keep
use Rattle.run_inputs.specs.declared.scripts.Act.{Act}
use Rattle.run_inputs.specs.Fit.{AreFit, turns_of}
use Rattle.core_history.specs.Cores.{CoreView, Origin, origin_of, IsAt, HasKept}
use Rattle.core_history.specs.Lines.{lines_of}
use Rattle.core_history.specs.Machine.{Move}
use Rattle.core_history.specs.Determined.{Cue, Adds, Turns, cue_of}
use Rattle.top_run.specs.Runs.{AreMoves, AreFirstMoves, past_of, out, faults_in, earlier, most_taken, Prints, IsFirstPart, IsReadInVain}
use Rattle.top_run.specs.declared.plays.Stop.{Stop}
use Rattle.top_run.specs.declared.plays.Stop.TheVariants as stop
use Rattle.top_run.specs.declared.plays.Tally.{Tally}
use Rattle.top_run.specs.declared.runs.Status.{Status}
use Rattle.top_run.specs.declared.runs.Status.TheVariants as status

-- How many sessions these calls begin.
abbrev pub is_add : Cue → Bool
is_add (Adds plan) = true
is_add (Turns turn) = false

abbrev pub begun_in : List Cue → ℕ
begun_in calls = count_by is_add calls

-- How many turns these calls take.
abbrev pub is_turn : Cue → Bool
is_turn (Adds plan) = false
is_turn (Turns turn) = true

abbrev pub taken_in : List Cue → ℕ
taken_in calls = count_by is_turn calls

-- It was noted whether there was a FAULT among so many.
abbrev pub IsNoted : Bool → ℕ → Type 0
IsNoted true faults = 1 ≤ faults
IsNoted false faults = faults ≡ 0

-- The core stands after moves that do these calls, and the sink has taken their lines.
pub record IsPlayed (core : CoreView) (origin : Origin) (calls : List Cue) (taken_old taken_new : Option (List ℕ)) (tally : Tally) : Type 0 where
  pub moves : List Move
  pub at : IsAt core origin moves
  pub made : map cue_of (reverse moves) ≡ calls
  pub prints : Prints taken_old taken_new (lines_of (past_of origin.shape moves)) tally.written
  pub noted : IsNoted tally.faulted (faults_in origin.shape moves)

-- The core stands somewhere from where it can play these acts.
pub record CanPlay (core : CoreView) (acts : List Act) (taken_new : Option (List ℕ)) (tally : Tally) : Type 0 where
  pub origin : Origin
  pub calls : List Cue
  pub taken_old : Option (List ℕ)
  pub stands : IsPlayed core origin calls taken_old taken_new tally
  pub fit : AreFit (begun_in calls) acts
  pub few : taken_in calls + sum_by turns_of acts < 2 ^ 32

-- The core stopped after moves that do the first of these calls, and the sink took
-- the first bytes of their lines, those of all events but the latest among them.
pub record Stops (core : CoreView) (origin : Origin) (calls : List Cue) (taken_old taken_new : Option (List ℕ)) (tally : Tally) : Type 0 where
  pub moves : List Move
  pub others : List Cue
  pub made : map cue_of (reverse moves) ++ others ≡ calls
  pub kept : HasKept core origin moves
  pub printed : List ℕ
  pub more : List ℕ
  pub parts : printed ++ more ≡ lines_of (past_of origin.shape moves)
  pub last : List ℕ
  pub prompt : printed ≡ lines_of (earlier (past_of origin.shape moves)) ++ last
  pub prints : Prints taken_old taken_new printed tally.written

-- The core is new, and of this shape.
abbrev pub IsNew : CoreView → Shape → Type 0
IsNew core shape = IsAt core (origin_of shape core) []

-- The core made all moves of the script, and the sink took all that it prints.
pub record IsFinished (core : CoreView) (origin : Origin) (acts : List Act) (taken_old taken_new : Option (List ℕ)) (tally : Tally) : Type 0 where
  pub moves : List Move
  pub made : AreMoves acts moves
  pub kept : HasKept core origin moves
  pub prints : Prints taken_old taken_new (out origin.shape moves) tally.written
  pub noted : IsNoted tally.faulted (faults_in origin.shape moves)

-- The core stopped after some of the script's moves, and the sink took the first bytes of what they print.
pub record IsStopped (core : CoreView) (origin : Origin) (acts : List Act) (taken_old taken_new : Option (List ℕ)) (tally : Tally) : Type 0 where
  pub moves : List Move
  pub made : AreFirstMoves acts moves
  pub kept : HasKept core origin moves
  pub printed : List ℕ
  pub part : IsFirstPart origin.shape acts moves printed
  pub prints : Prints taken_old taken_new printed tally.written

-- How a script ends, by what ended it and whether there was a FAULT.
abbrev pub status_of : Result (Unit {0}) Stop → Bool → Status
status_of (Ok done) false = status.Done
status_of (Ok done) true = status.KeepFault
status_of (Err stop.WriteFault) faulted = status.WriteFault
status_of (Err stop.Memory) faulted = status.Memory

-- How a run ends whose keeper didn't start.
abbrev pub start_status : KeepFault → Status
start_status keep.Failed = status.KeepFault
start_status keep.Memory = status.Memory

-- Why no script was read.
abbrev pub IsUnread : Status → Option (List ℕ) → Option (List ℕ) → Type 0
IsUnread (status.Script line kind) left_old left_new = IsReadInVain left_old left_new line kind
IsUnread status.ReadFault left_old left_new = TakesAtMost most_taken left_old left_new
IsUnread status.Memory left_old left_new = TakesAtMost most_taken left_old left_new
IsUnread other left_old left_new = ⊥

-- Whether a write ended it.
abbrev pub at_write : Result (Unit {0}) Stop → Bool
at_write (Ok done) = false
at_write (Err stop.WriteFault) = true
at_write (Err stop.Memory) = false
