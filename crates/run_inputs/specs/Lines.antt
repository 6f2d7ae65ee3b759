-- The grammar of lines: which words say what.
use Rattle.std.specs.Prelude.{ℕ, ◌≡◌, ◌≤◌, true, List, [], ◌∷◌, Option, Some, None, codes}
use Rattle.lease_table.specs.declared.records.Mode.{Mode}
use Rattle.lease_table.specs.declared.records.Mode.TheVariants.{Invalidate, Refresh, Delta}
use Rattle.rows_model.specs.Key.{IsKeyText}
use Rattle.rows_model.specs.Shift.{is_number, number_in}
use Rattle.change_words.specs.Txns.{AreTxnWords}
use Rattle.run_inputs.specs.declared.lines.Part.{Part}
use Rattle.run_inputs.specs.declared.lines.Part.TheVariants.{Members, Shards, Room, Life}
use Rattle.run_inputs.specs.declared.lines.Task.{Task}
use Rattle.run_inputs.specs.declared.lines.Task.TheVariants as task
use Rattle.run_inputs.specs.declared.lines.Verb.{Verb}
use Rattle.run_inputs.specs.declared.lines.Verb.TheVariants as verb
use Rattle.run_inputs.specs.declared.lines.Job.{Job}
use Rattle.run_inputs.specs.declared.lines.Job.TheVariants.{Read, Write, Look, Quit, Skip, Raise, Renew}
use Rattle.run_inputs.specs.declared.lines.Line.{Line}
use Rattle.run_inputs.specs.declared.lines.Line.TheVariants.{Head, Session, Turn, Tick, Sweep, End}

-- The word is a number of any size in decimal; its value is told where that is below 2^64.
pub record IsSessionNumber (word : List ℕ) (number : Option ℕ) : Type 0 where
  pub canonical : is_number word ≡ true
  pub value : number ≡ number_in word

-- The words are one number below 2^64.
abbrev pub AreNumber : ℕ → List (List ℕ) → Type 0
AreNumber number (word ∷ []) = number_in word ≡ Some number
AreNumber number other = ⊥

-- The words are a count of 1 to 1,000, or there are none.
abbrev pub AreCount : Option ℕ → List (List ℕ) → Type 0
AreCount None words = words ≡ []
AreCount (Some count) words = (1 ≤ count) × (count ≤ 1000) × AreNumber count words

-- The words are `floor` and a number, or there are none.
abbrev pub AreFloor : Option ℕ → List (List ℕ) → Type 0
AreFloor None words = words ≡ []
AreFloor (Some floor) (word ∷ words) = (word ≡ codes "floor") × AreNumber floor words
AreFloor (Some floor) [] = ⊥

-- The word of a mode.
abbrev pub mode_word : Mode → List ℕ
mode_word Invalidate = codes "invalidate"
mode_word Refresh = codes "refresh"
mode_word Delta = codes "delta"

-- The words behind a session's number.
abbrev pub AreJobWords : Job → List (List ℕ) → Type 0
AreJobWords (Read key floor) (word ∷ words) = IsKeyText word key × AreFloor floor words
AreJobWords (Write mode txn) (word ∷ words) = (word ≡ mode_word mode) × AreTxnWords txn words
AreJobWords (Look mode key txn) (word ∷ next ∷ words) = (word ≡ mode_word mode) × IsKeyText next key × AreTxnWords txn words
AreJobWords (Quit mode txn) (word ∷ words) = (word ≡ mode_word mode) × AreTxnWords txn words
AreJobWords (Skip key txn) (word ∷ words) = IsKeyText word key × AreTxnWords txn words
AreJobWords (Raise txn) words = AreTxnWords txn words
AreJobWords (Renew mode txn) (word ∷ words) = (word ≡ mode_word mode) × AreTxnWords txn words
AreJobWords job fewer = ⊥

-- The most that a number of the head may be.
abbrev pub most : Part → ℕ
most Members = 100000
most Shards = 64
most Room = 65536
most Life = 18446744073709551615

-- The words behind the first word of a line.
abbrev pub AreArgs : Line → List (List ℕ) → Type 0
AreArgs (Head part number) words = (1 ≤ number) × (number ≤ most part) × AreNumber number words
AreArgs (Session number job) (word ∷ words) = IsSessionNumber word number × AreJobWords job words
AreArgs (Turn number count) (word ∷ words) = IsSessionNumber word number × AreCount count words
AreArgs (Tick ticks) words = AreNumber ticks words
AreArgs (Sweep count) words = AreCount count words
AreArgs End words = words ≡ []
AreArgs line [] = ⊥

-- What a session line is for.
abbrev pub task_of : Job → Task
task_of (Read key floor) = task.Read
task_of (Write mode txn) = task.Write
task_of (Look mode key txn) = task.Look
task_of (Quit mode txn) = task.Quit
task_of (Skip key txn) = task.Skip
task_of (Raise txn) = task.Raise
task_of (Renew mode txn) = task.Renew

-- The verb of a line.
abbrev pub verb_of : Line → Verb
verb_of (Head part number) = verb.Head part
verb_of (Session number job) = verb.Session (task_of job)
verb_of (Turn number count) = verb.Turn
verb_of (Tick ticks) = verb.Tick
verb_of (Sweep count) = verb.Sweep
verb_of End = verb.End

-- The word of a verb.
abbrev pub verb_word : Verb → List ℕ
verb_word (verb.Head Members) = codes "members"
verb_word (verb.Head Shards) = codes "shards"
verb_word (verb.Head Room) = codes "room"
verb_word (verb.Head Life) = codes "life"
verb_word (verb.Session task.Read) = codes "read"
verb_word (verb.Session task.Write) = codes "write"
verb_word (verb.Session task.Look) = codes "look"
verb_word (verb.Session task.Quit) = codes "quit"
verb_word (verb.Session task.Skip) = codes "skip"
verb_word (verb.Session task.Raise) = codes "raise"
verb_word (verb.Session task.Renew) = codes "renew"
verb_word verb.Turn = codes "turn"
verb_word verb.Tick = codes "tick"
verb_word verb.Sweep = codes "sweep"
verb_word verb.End = codes "end"

-- The words of a line.
abbrev pub AreWords : Line → List (List ℕ) → Type 0
AreWords line [] = ⊥
AreWords line (word ∷ words) = (word ≡ verb_word (verb_of line)) × AreArgs line words
