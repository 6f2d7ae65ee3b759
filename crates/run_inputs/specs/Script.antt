-- Scripts: which text says which acts, and which fault a text has.
use Rattle.std.specs.Prelude.{ℕ, ◌≡◌, ◌≢◌, ◌+◌, ◌≤◌, ◌<◌, Bool, true, false, ◌==◌, ◌&&◌, not, nat_le, nat_lt, if◌then◌else◌, List, [], ◌∷◌}
use Rattle.std.specs.Prelude.{◌++◌, length, flat_map, codes, Option, Some, None, unwrap_or}
use Rattle.rows_model.specs.Changes.{touches}
use Rattle.session_client.specs.declared.plans.Plan.{Plan}
use Rattle.session_client.specs.declared.plans.Plan.TheVariants as plan
use Rattle.session_client.specs.declared.plans.Turn.TheVariants as turn
use Rattle.session_client.specs.declared.plans.Shape.{Shape}
use Rattle.run_inputs.specs.declared.lines.Part.{Part}
use Rattle.run_inputs.specs.declared.lines.Part.TheVariants.{Members, Shards, Room, Life}
use Rattle.run_inputs.specs.declared.lines.Verb.{Verb}
use Rattle.run_inputs.specs.declared.lines.Verb.TheVariants as verb
use Rattle.run_inputs.specs.declared.lines.Job.{Job}
use Rattle.run_inputs.specs.declared.lines.Job.TheVariants.{Read, Write, Look, Quit, Skip, Raise, Renew}
use Rattle.run_inputs.specs.declared.lines.Line.{Line}
use Rattle.run_inputs.specs.declared.lines.Line.TheVariants.{Head, Session, Turn, Tick, Sweep, End}
use Rattle.run_inputs.specs.declared.stages.Stage.{Stage}
use Rattle.run_inputs.specs.declared.stages.Stage.TheVariants as stage
use Rattle.run_inputs.specs.declared.stages.Progress.{Progress}
use Rattle.run_inputs.specs.declared.faults.ScriptKind.{ScriptKind}
use Rattle.run_inputs.specs.declared.faults.ScriptKind.TheVariants as kind
use Rattle.run_inputs.specs.declared.faults.ScriptFault.{ScriptFault}
use Rattle.run_inputs.specs.declared.faults.ScriptFault.TheVariants.{Bad, Memory}
use Rattle.run_inputs.specs.declared.scripts.Act.{Act}
use Rattle.run_inputs.specs.declared.scripts.Act.TheVariants.{Add, Run}
use Rattle.run_inputs.specs.Texts.{lines_in, words_in}
use Rattle.run_inputs.specs.Lines.{AreWords, verb_of}

-- The place of a line in the head.
abbrev pub place_of : Part → ℕ
place_of Members = 1
place_of Shards = 2
place_of Room = 3
place_of Life = 4

-- Whether a line with this verb may stand next: `members` first, then the other lines of the head in their order, each once at most, and then all others.
abbrev pub is_in_place : Stage → Verb → Bool
is_in_place stage.Start (verb.Head Members) = true
is_in_place (stage.Head last) (verb.Head part) = nat_lt (place_of last) (place_of part)
is_in_place stage (verb.Head part) = false
is_in_place stage.Start other = false
is_in_place stage other = true

-- How many sessions a line begins.
abbrev pub sessions_in : Line → ℕ
sessions_in (Session number job) = 1
sessions_in line = 0

-- How many turns, ticks and sweeps a line is.
abbrev pub turns_in : Line → ℕ
turns_in (Turn number count) = unwrap_or count 1
turns_in (Tick ticks) = 1
turns_in (Sweep count) = unwrap_or count 1
turns_in line = 0

-- A shape with a number of the head.
abbrev pub shape_with : Part → ℕ → Shape → Shape
shape_with Members number shape = record shape { members = number }
shape_with Shards number shape = record shape { shards = number }
shape_with Room number shape = record shape { room = number }
shape_with Life number shape = record shape { life = number }

-- The shape after a line.
abbrev pub shape_after : Line → Shape → Shape
shape_after (Head part number) shape = shape_with part number shape
shape_after line shape = shape

-- What a line makes the last one.
abbrev pub stage_after : Line → Stage
stage_after (Head part number) = stage.Head part
stage_after End = stage.End
stage_after line = stage.Body

-- What the lines come to with one line more.
abbrev pub after : Progress → Line → Progress
after progress line = record {
  stage = stage_after line;
  shape = shape_after line progress.shape;
  begun = progress.begun + sessions_in line;
  turns = progress.turns + turns_in line;
}

-- No line yet: 1 shard with room for 16 entries, and a lease lives for 100 ticks, where no line says otherwise.
abbrev pub start : Progress
start = record {
  stage = stage.Start;
  shape = record { members = 0; shards = 1; room = 16; life = 100 };
  begun = 0;
  turns = 0;
}

-- What lines come to, one after another.
abbrev pub after_all : Progress → List Line → Progress
after_all progress [] = progress
after_all progress (line ∷ lines) = after_all (after progress line) lines

-- Whether a session line has the next number, after so many, and a turn line that of a session that has begun.
abbrev pub is_numbered : ℕ → Line → Bool
is_numbered begun (Session (Some number) job) = number == begun + 1
is_numbered begun (Session None job) = false
is_numbered begun (Turn (Some number) count) = nat_le 1 number && nat_le number begun
is_numbered begun (Turn None count) = false
is_numbered begun line = true

-- The plan of a job.
abbrev pub plan_of : Job → Plan
plan_of (Read key floor) = plan.Read key (unwrap_or floor 0)
plan_of (Write mode txn) = plan.Write mode txn
plan_of (Look mode key txn) = plan.Look mode key txn
plan_of (Quit mode txn) = plan.Quit mode txn
plan_of (Skip key txn) = plan.Skip key txn
plan_of (Raise txn) = plan.Raise txn
plan_of (Renew mode txn) = plan.Renew mode txn

-- Whether the key that a plan has beside its transaction, if any, is one that this touches.
abbrev pub has_own_key : Plan → Bool
has_own_key (plan.Look mode key txn) = touches txn key
has_own_key (plan.Skip key txn) = touches txn key
has_own_key plan = true

-- Whether the key of a line is one that its transaction touches.
abbrev pub has_key : Line → Bool
has_key (Session number job) = has_own_key (plan_of job)
has_key line = true

-- The first fault of what a line says, after such lines.
abbrev pub fault_of : Progress → Line → Option ScriptKind
fault_of progress line =
    if not (is_numbered progress.begun line) then Some kind.Number else
    if not (has_key line) then Some kind.Key else
    if nat_lt 1000000 (progress.turns + turns_in line) then Some kind.Turns else None

-- The line has the words of what it says, and may stand next.
pub record Says (progress : Progress) (line : List ℕ) (said : Line) : Type 0 where
  pub words : AreWords said (words_in line)
  pub in_place : is_in_place progress.stage (verb_of said) ≡ true

-- A line that is short enough, and that doesn't stand behind the last one.
pub record MayStand (progress : Progress) (line : List ℕ) : Type 0 where
  pub short : length line ≤ 2048
  pub goes_on : progress.stage ≢ stage.End

-- The line says this in its place, and the number of its session, if it has one, is right.
pub record IsPlaced (progress : Progress) (line : List ℕ) (said : Line) : Type 0 where
  pub stands : MayStand progress line
  pub says : Says progress line said
  pub numbered : is_numbered progress.begun said ≡ true

-- The line says this, and has no fault.
pub record IsSound (progress : Progress) (line : List ℕ) (said : Line) : Type 0 where
  pub stands : MayStand progress line
  pub says : Says progress line said
  pub none : fault_of progress said ≡ None

-- The line's first fault, after such lines.
abbrev pub IsFaulty : Progress → List ℕ → ScriptKind → Type 0
IsFaulty progress line kind.LongLine = 2048 < length line
IsFaulty progress line kind.AfterEnd = (length line ≤ 2048) × (progress.stage ≡ stage.End)
IsFaulty progress line kind.Form = MayStand progress line × ((said : Line) → Says progress line said → ⊥)
IsFaulty progress line other =
    MayStand progress line × (said : Line) × Says progress line said × (fault_of progress said ≡ Some other)

-- The lines say this one after another, and none has a fault.
abbrev pub AreSound : Progress → List (List ℕ) → List Line → Type 0
AreSound progress [] [] = Unit {0}
AreSound progress (line ∷ lines) (said ∷ more) = IsSound progress line said × AreSound (after progress said) lines more
AreSound progress lines other = ⊥

-- The acts of a line.
abbrev pub acts_in : Line → List Act
acts_in (Session number job) = Add (plan_of job) ∷ []
acts_in (Turn (Some number) count) = Run (turn.Session (record { number = number })) (unwrap_or count 1) ∷ []
acts_in (Tick ticks) = Run (turn.Tick ticks) 1 ∷ []
acts_in (Sweep count) = Run turn.Sweep (unwrap_or count 1) ∷ []
acts_in line = []

-- The line has an act, and no fault.
pub record HasAct (progress : Progress) (line : List ℕ) : Type 0 where
  pub said : Line
  pub sound : IsSound progress line said
  pub act : acts_in said ≢ []

-- The text says these acts, to be run in this shape: it has no fault, and its last line is `end`.
pub record IsScript (text : List ℕ) (shape : Shape) (acts : List Act) : Type 0 where
  pub short : length text ≤ 16777216
  pub said : List Line
  pub sound : AreSound start (lines_in text) said
  pub ended : (after_all start said).stage ≡ stage.End
  pub shape_is : shape ≡ (after_all start said).shape
  pub acts_are : acts ≡ flat_map acts_in said

-- The line of this number has this fault, and no line before it has one.
pub record HasFault (text : List ℕ) (number : ℕ) (fault : ScriptKind) : Type 0 where
  pub short : length text ≤ 16777216
  pub front : List (List ℕ)
  pub line : List ℕ
  pub behind : List (List ℕ)
  pub lines_are : lines_in text ≡ front ++ line ∷ behind
  pub said : List Line
  pub sound : AreSound start front said
  pub faulty : IsFaulty (after_all start said) line fault
  pub number_is : number ≡ length front + 1

-- No line has a fault, and none is `end`. The number is one more than that of the last line.
pub record HasNoEnd (text : List ℕ) (number : ℕ) : Type 0 where
  pub short : length text ≤ 16777216
  pub said : List Line
  pub sound : AreSound start (lines_in text) said
  pub goes_on : (after_all start said).stage ≢ stage.End
  pub number_is : number ≡ length (lines_in text) + 1

-- The text is longer than a script may be.
abbrev pub IsLong : List ℕ → Type 0
IsLong text = 16777216 < length text

-- The text's first fault: the number of its line, and its kind.
abbrev pub IsFault : List ℕ → ℕ → ScriptKind → Type 0
IsFault text number kind.LongText = IsLong text × (number ≡ 0)
IsFault text number kind.NoEnd = HasNoEnd text number
IsFault text number other = HasFault text number other

-- Memory is asked for at a line of the text: it has an act, and neither it nor a line before it has a fault.
pub record AsksForMemory (text : List ℕ) : Type 0 where
  pub short : length text ≤ 16777216
  pub front : List (List ℕ)
  pub line : List ℕ
  pub behind : List (List ℕ)
  pub lines_are : lines_in text ≡ front ++ line ∷ behind
  pub said : List Line
  pub sound : AreSound start front said
  pub act : HasAct (after_all start said) line

-- Why a text is not read as a script. Memory runs out only where it is asked for.
abbrev pub ComesFrom : List ℕ → ScriptFault → Type 0
ComesFrom text (Bad number fault) = IsFault text number fault
ComesFrom text Memory = AsksForMemory text

-- The name of a kind in lower case.
abbrev pub kind_word : ScriptKind → List ℕ
kind_word kind.LongText = codes "longtext"
kind_word kind.LongLine = codes "longline"
kind_word kind.Form = codes "form"
kind_word kind.Number = codes "number"
kind_word kind.Key = codes "key"
kind_word kind.Turns = codes "turns"
kind_word kind.NoEnd = codes "noend"
kind_word kind.AfterEnd = codes "afterend"

-- A text says one script at most and has one fault at most, and never both.
pub record TextsTellScripts : Type 0 where
  pub one_script : (text : List ℕ) (shape shape' : Shape) (acts acts' : List Act)
      → IsScript text shape acts → IsScript text shape' acts' → (shape ≡ shape') × (acts ≡ acts')
  pub one_fault : (text : List ℕ) (number number' : ℕ) (fault fault' : ScriptKind)
      → IsFault text number fault → IsFault text number' fault' → (number ≡ number') × (fault ≡ fault')
  pub never_both : (text : List ℕ) (shape : Shape) (acts : List Act) (number : ℕ) (fault : ScriptKind)
      → IsScript text shape acts → IsFault text number fault → ⊥
