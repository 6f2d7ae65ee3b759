-- What a run reads, prints and keeps.
use Rattle.std.specs.Prelude.{ℕ, ◌≡◌, ◌≢◌, ◌+◌, ◌-◌, ◌^◌, ◌≤◌, ◌⊎◌, Bool, true, false, min, List, [], ◌∷◌, ◌++◌, length, map, reverse}
use Rattle.std.specs.Prelude.{replicate, flat_map, count_by, Option, Some, None, slice_get}
use Rattle.std.specs.List.{AllByRecursion}
use Rattle.std.specs.Option.{ForSome}
use Rattle.iq_outside.specs.declared.sinks.Sink.{Ghosts as Sinks}
use Rattle.iq_outside.specs.declared.sources.Source.{Ghosts as Sources}
use Rattle.iq_outside.specs.Outside.{Rose, Takes, TakesAtMost, AtEnd, Gains}
use Rattle.rows_model.specs.Rows.{Tables, start_tables}
use Rattle.key_shard.specs.declared.steps.Step.{Step}
use Rattle.key_shard.specs.Answers.{Legal}
use Rattle.key_shard.specs.Shards.{ShardView, kept_of}
use Rattle.sql_keeper.specs.declared.stores.Commit.{Commit}
use Rattle.sql_keeper.specs.declared.keepers.Keeper.{Ghosts as Keepers}
use Rattle.sql_keeper.specs.declared.keepers.Place.{Place}
use Rattle.sql_keeper.specs.declared.keepers.Place.TheVariants.{Fresh}
use Rattle.sql_keeper.specs.Fresh.{Covered}
use Rattle.sql_keeper.specs.Fresh.{Fresh as AreFresh}
use Rattle.sql_keeper.specs.Log.{rows_after}
use Rattle.session_client.specs.declared.plans.Shape.{Shape}
use Rattle.run_inputs.specs.declared.scripts.Act.{Act}
use Rattle.run_inputs.specs.declared.scripts.Act.TheVariants as act
use Rattle.run_inputs.specs.declared.faults.ScriptKind.{ScriptKind}
use Rattle.run_inputs.specs.Script.{IsScript, IsFault}
use Rattle.core_history.specs.Determined.{Cue, Adds, Turns, cue_of}
use Rattle.core_history.specs.Events.{Event, log_of}
use Rattle.core_history.specs.Lines.{lines_of, end_line, is_fault, fault_turns}
use Rattle.core_history.specs.Machine.{Move, world_of, terms_of}
use Rattle.core_history.specs.Freshness.{histories_of, AreQuarantined, IsNumbered}
use Rattle.core_history.specs.Truth.{IsTruePast}
use Rattle.top_run.specs.declared.runs.RunEnd.{RunEnd}
use Rattle.top_run.specs.declared.runs.Status.{Status}
use Rattle.top_run.specs.declared.runs.Status.TheVariants as status

-- What an act says.
abbrev pub calls_in : Act → List Cue
calls_in (act.Add plan) = Adds plan ∷ []
calls_in (act.Run turn count) = replicate count (Turns turn)

-- What the acts say, in order.
abbrev pub calls_of : List Act → List Cue
calls_of acts = flat_map calls_in acts

-- The moves, the latest first, do what the acts say.
abbrev pub AreMoves : List Act → List Move → Type 0
AreMoves acts moves = map cue_of (reverse moves) ≡ calls_of acts

-- The moves, the latest first, do the first part of what the acts say.
abbrev pub AreFirstMoves : List Act → List Move → Type 0
AreFirstMoves acts moves = (others : List Cue) × (map cue_of (reverse moves) ++ others ≡ calls_of acts)

-- The events after these moves.
abbrev pub past_of : Shape → List Move → List Event
past_of shape moves = (world_of shape moves).past

-- All that is printed after these moves: a line for each turn, and the end line.
abbrev pub out : Shape → List Move → List ℕ
out shape moves =
    let past = past_of shape moves in lines_of past ++ end_line (log_of past) (histories_of shape past)

-- The text of a script over these opening rows, where these turns are answered FAULT:
-- whatever moves do what it says, with a keeper whose word is true, this is what they print.
abbrev pub IsTheText : Shape → List Act → Tables → List ℕ → List ℕ → Type 0
IsTheText shape acts opening turns text =
    (moves : List Move) → AreMoves acts moves → IsTruePast opening (past_of shape moves) → fault_turns (past_of shape moves) ≡ turns
    → out shape moves ≡ text

-- How many turns were answered FAULT.
abbrev pub faults_in : Shape → List Move → ℕ
faults_in shape moves = count_by is_fault (past_of shape moves)

-- What is known of a moment: the bytes left and taken, the keeper's rows where it tells them, and how often source, sink and keeper failed.
pub record Tells : Type 0 where
  pub left : Option (List ℕ)
  pub reads_failed : ℕ
  pub taken : Option (List ℕ)
  pub writes_failed : ℕ
  pub rows : Option Tables
  pub keeps_failed : ℕ

-- What a source tells: the bytes that it will give, and how often it failed.
pub record Input : Type 0 where
  pub left : Option (List ℕ)
  pub faults : ℕ

abbrev pub told_by : {S : Type 0} → Sources S → S → Input
told_by sources source = record { left = sources.left source; faults = sources.faults source }

-- The moment of which these are known.
abbrev pub moment : Input → Option (List ℕ) → ℕ → Option Tables → ℕ → Tells
moment input taken writes_failed rows keeps_failed = record {
  left = input.left;
  reads_failed = input.faults;
  taken = taken;
  writes_failed = writes_failed;
  rows = rows;
  keeps_failed = keeps_failed;
}

-- The moment at which the source tells this, and sink and keeper are these.
abbrev pub seen : {W K : Type 0} → Input → Sinks W → Keepers K → W → K → Tells
seen input sinks keepers sink keeper =
    moment input (sinks.taken sink) (sinks.faults sink) (keepers.rows keeper) (keepers.faults keeper)

-- What a run leaves: the rows that it began with, its log and its histories, of shards that roll the steps in memory.
pub record Left : Type 0 where
  pub opening : Option Tables
  pub log : List Commit
  pub histories : List (List Step)

-- What a run leaves that ended so.
abbrev pub histories_at : {K : Type 0} → RunEnd K → List (List Step)
histories_at end = map (λ history. history.items) end.histories.items

abbrev pub left_at : {K : Type 0} → RunEnd K → Left
left_at end = record { opening = end.opening; log = end.log.items; histories = histories_at end }

-- The steps that shards have in memory.
abbrev pub kept_in : List ShardView → List (List Step)
kept_in shards = map kept_of shards

-- The place of a run, and the rows that it holds where it is made with so many members, where that is told.
pub record Held : Type 0 where
  pub place : Place
  pub rows : ℕ → Option Tables

-- What is held at this place.
abbrev pub held_at : Place → (ℕ → Option Tables) → Held
held_at place rows = record { place = place; rows = rows }

-- The most bytes that are taken from a source: one more than the longest script has.
abbrev pub most_taken : ℕ
most_taken = 16777217

-- The source was read to its end, and its bytes say these acts of this shape.
pub record IsRead (left_old left_new : Option (List ℕ)) (shape : Shape) (acts : List Act) : Type 0 where
  pub text : List ℕ
  pub takes : Takes left_old left_new text
  pub at_end : AtEnd left_new
  pub is_script : IsScript text shape acts

-- The source was read to its end, or so far that no script is as long, and its bytes have this fault first.
pub record IsReadInVain (left_old left_new : Option (List ℕ)) (line : ℕ) (kind : ScriptKind) : Type 0 where
  pub text : List ℕ
  pub takes : Takes left_old left_new text
  pub far : AtEnd left_new ⊎ (length text ≡ most_taken)
  pub within : length text ≤ most_taken
  pub is_fault : IsFault text line kind

-- The sink took these bytes, and they were counted, as far as a count goes.
pub record Prints (taken_old taken_new : Option (List ℕ)) (printed : List ℕ) (written : ℕ) : Type 0 where
  pub gains : Gains taken_old taken_new printed
  pub counted : written ≡ min (length printed) (2 ^ 64 - 1)

-- A count of faults rose where it is said that this failed, and else it is as before.
abbrev pub RoseIf : Bool → ℕ → ℕ → Type 0
RoseIf true before after = Rose before after
RoseIf false before after = after ≡ before

-- So is the count of what was handed in as the one and is handed back as the other.
abbrev pub RoseWhere : {T : Type 0} → (T → ℕ) → Bool → T → T → Type 0
RoseWhere faults failed old new = RoseIf failed (faults old) (faults new)

-- So it did, and it didn't fall.
abbrev pub CountsWhere : {T : Type 0} → (T → ℕ) → Bool → T → T → Type 0
CountsWhere faults failed old new = RoseWhere faults failed old new × (faults old ≤ faults new)

-- There are no more FAULT lines than the keeper's count of faults rose by, unless it came to the end of its type.
abbrev pub FewFaults : ℕ → ℕ → ℕ → Type 0
FewFaults faults failed_old failed_new =
    (failed_old + faults ≤ failed_new) ⊎ ((failed_old ≤ 2 ^ 64 - 1) × (2 ^ 64 - 1 ≤ failed_new))

-- The keeper's count of faults rose with the turns that were answered FAULT, and is as before where none was.
pub record AreCounted (shape : Shape) (moves : List Move) (failed_old failed_new : ℕ) : Type 0 where
  pub few : FewFaults (faults_in shape moves) failed_old failed_new
  pub none : faults_in shape moves ≡ 0 → failed_new ≡ failed_old

-- The opening rows are those of the place: where the keeper tells its rows, and
-- the place's rows are told. A fresh place holds as many members as the script says.
pub record IsOpened (held : Held) (shape : Shape) (opening : Tables) (rows : Option Tables) : Type 0 where
  pub fresh : held.place ≡ Fresh → held.rows shape.members ≡ Some (start_tables shape.members)
  pub opened : ForSome rows (λ _. ForSome (held.rows shape.members) (λ there. opening ≡ there))

-- The log and the histories are those after these moves over these opening rows. Each history is legal, each commit was
-- quarantined when it was made and is covered, and each value that was put or
-- shifted has the number of its session's commit. Where the keeper tells its rows,
-- they are the opening rows after the log, its word was true, and each hit is fresh.
pub record Keeps (shape : Shape) (opening : Tables) (moves : List Move) (rows : Option Tables) (log : List Commit) (histories : List (List Step)) : Type 0 where
  pub log_is : log ≡ log_of (past_of shape moves)
  pub histories_are : histories ≡ histories_of shape (past_of shape moves)
  pub legal : (place : ℕ) (history : List Step) → slice_get histories place ≡ Some history → Legal (terms_of shape place) history
  pub covered : Covered log histories
  pub quarantined : AreQuarantined shape (past_of shape moves)
  pub numbered : (place : ℕ) (history : List Step) → slice_get histories place ≡ Some history → AllByRecursion (IsNumbered log) (reverse history)
  pub rows_are : ForSome rows (λ known. known ≡ rows_after opening log)
  pub truth : ForSome rows (λ _. IsTruePast opening (past_of shape moves))
  pub fresh : ForSome rows (λ _. AreFresh opening log histories)

-- A script was read, and a run of it began, which came to these moves: it keeps the rows that it began with, which are those of
-- the place, and the log and the histories after the moves, and the keeper's count of faults rose with them.
pub record IsBegun (held : Held) (before after : Tells) (left : Left) : Type 0 where
  pub shape : Shape
  pub acts : List Act
  pub read : IsRead before.left after.left shape acts
  pub opening : Tables
  pub opening_is : left.opening ≡ Some opening
  pub opened : IsOpened held shape opening after.rows
  pub moves : List Move
  pub keeps : Keeps shape opening moves after.rows left.log left.histories
  pub failures_are : AreCounted shape moves before.keeps_failed after.keeps_failed

-- A script was read, and what it says was done to its end, with these turns answered FAULT: all is printed.
-- Where the keeper tells its rows, it is the one text of the script over the opening rows and these turns.
pub record IsWhole (held : Held) (before after : Tells) (left : Left) (written : ℕ) (turns : List ℕ) : Type 0 where
  pub begun : IsBegun held before after left
  pub open begun use *
  pub made : AreMoves acts moves
  pub turns_are : turns ≡ fault_turns (past_of shape moves)
  pub prints : Prints before.taken after.taken (out shape moves) written
  pub the_text : ForSome after.rows (λ _. IsTheText shape acts opening turns (out shape moves))

-- The events but the latest.
abbrev pub earlier : List Event → List Event
earlier [] = []
earlier (event ∷ past) = past

-- These bytes are the first of the lines of these events, or where all was done
-- of all that is printed, and the lines of all events but the latest are among them.
pub record IsFirstPart (shape : Shape) (acts : List Act) (moves : List Move) (printed : List ℕ) : Type 0 where
  pub more : List ℕ
  pub first : (printed ++ more ≡ lines_of (past_of shape moves)) ⊎ (AreMoves acts moves × (printed ++ more ≡ out shape moves))
  pub last : List ℕ
  pub prompt : printed ≡ lines_of (earlier (past_of shape moves)) ++ last

-- A script was read, and what it says was done up to some point, where the run stopped at
-- once: the first bytes of the lines so far are printed, and of the end line where all was done.
pub record IsCutOff (held : Held) (before after : Tells) (left : Left) (written : ℕ) : Type 0 where
  pub begun : IsBegun held before after left
  pub open begun use *
  pub made : AreFirstMoves acts moves
  pub printed : List ℕ
  pub part : IsFirstPart shape acts moves printed
  pub prints : Prints before.taken after.taken printed written

-- Nothing was run: the sink took nothing, and nothing is kept.
pub record IsNotStarted (before after : Tells) (left : Left) (written : ℕ) : Type 0 where
  pub prints : Prints before.taken after.taken [] written
  pub no_opening : left.opening ≡ None
  pub no_log : left.log ≡ []
  pub no_histories : left.histories ≡ []

-- The keeper is as before, in its rows and in its count of faults.
pub record IsUnasked (before after : Tells) : Type 0 where
  pub rows : after.rows ≡ before.rows
  pub count : after.keeps_failed ≡ before.keeps_failed

-- A script was read, but the keeper failed at its start: its rows are as before.
pub record IsFailedStart (before after : Tells) (left : Left) (written : ℕ) : Type 0 where
  pub shape : Shape
  pub acts : List Act
  pub read : IsRead before.left after.left shape acts
  pub rows : after.rows ≡ before.rows
  pub nothing : IsNotStarted before after left written

-- What is so at an end of a run.
abbrev pub Ended : Status → Held → Tells → Tells → Left → ℕ → Type 0
Ended status.Done held before after left written = IsWhole held before after left written []
Ended status.Usage held before after left written = (after ≡ before) × IsNotStarted before after left written
Ended (status.Script line kind) held before after left written =
    IsReadInVain before.left after.left line kind × IsUnasked before after × IsNotStarted before after left written
Ended status.ReadFault held before after left written =
    TakesAtMost most_taken before.left after.left × IsUnasked before after × IsNotStarted before after left written
Ended status.WriteFault held before after left written = IsCutOff held before after left written
Ended status.DoorFault held before after left written = ⊥
Ended status.FileFault held before after left written = ⊥
Ended status.KeepFault held before after left written =
    Rose before.keeps_failed after.keeps_failed
    × (IsFailedStart before after left written ⊎ ((turns : List ℕ) × (turns ≢ []) × IsWhole held before after left written turns))
Ended (status.Spent shard) held before after left written = ⊥
Ended status.Memory held before after left written =
    (TakesAtMost most_taken before.left after.left × IsUnasked before after × IsNotStarted before after left written)
    ⊎ IsCutOff held before after left written

-- Whether a run ended at a read that failed.
abbrev pub is_read_fault : Status → Bool
is_read_fault status.ReadFault = true
is_read_fault other = false

-- Whether a run ended at a write that failed.
abbrev pub is_write_fault : Status → Bool
is_write_fault status.WriteFault = true
is_write_fault other = false

-- Whether a run ended at its cache's file, which failed.
abbrev pub is_file_fault : Status → Bool
is_file_fault status.FileFault = true
is_file_fault other = false

-- Whether a run ended at a call of its keeper that failed.
abbrev pub is_keep_fault : Status → Bool
is_keep_fault status.KeepFault = true
is_keep_fault other = false

-- Whether a run ended at a door that failed.
abbrev pub is_door_fault : Status → Bool
is_door_fault status.DoorFault = true
is_door_fault other = false
