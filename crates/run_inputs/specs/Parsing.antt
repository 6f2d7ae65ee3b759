-- What the parts of the parser answer.
use Rattle.std.specs.Prelude.{ℕ, ◌≡◌, ◌≤◌, ◌<◌, ◌^◌, true, false, List, [], Option, Some, None, decimal}
use Rattle.run_inputs.specs.declared.lines.Task.{Task}
use Rattle.run_inputs.specs.declared.lines.Verb.{Verb}
use Rattle.run_inputs.specs.declared.lines.Job.{Job}
use Rattle.run_inputs.specs.declared.lines.Line.{Line}
use Rattle.run_inputs.specs.declared.lines.Line.TheVariants.{Head}
use Rattle.run_inputs.specs.declared.stages.Progress.{Progress}
use Rattle.run_inputs.specs.declared.loads.WorkSpec.{WorkSpec}
use Rattle.run_inputs.specs.declared.lines.LineFault.{LineFault}
use Rattle.run_inputs.specs.declared.lines.LineFault.TheVariants.{Bad, Memory}
use Rattle.run_inputs.specs.Texts.{parts_at}
use Rattle.run_inputs.specs.Lines.{most, AreJobWords, AreArgs, task_of, verb_of}
use Rattle.session_client.specs.declared.plans.Plan.{Plan}
use Rattle.run_inputs.specs.declared.faults.ScriptKind.TheVariants.{Key}
use Rattle.run_inputs.specs.declared.faults.ScriptFault.{ScriptFault}
use Rattle.run_inputs.specs.declared.faults.ScriptFault.TheVariants as script
use Rattle.run_inputs.specs.Script.{sessions_in, has_key, has_own_key, HasAct, IsFaulty}

-- The parts of what stands behind a cut, if anything does.
abbrev pub parts_behind : ℕ → Option (List ℕ) → List (List ℕ)
parts_behind byte None = []
parts_behind byte (Some rest) = parts_at byte rest

-- The words behind a space, if there is one.
abbrev pub words_behind : Option (List ℕ) → List (List ℕ)
words_behind rest = parts_behind 32 rest

-- The words are those of a job for this task.
pub record IsJobOf (task : Task) (words : List (List ℕ)) (job : Job) : Type 0 where
  pub task_is : task_of job ≡ task
  pub says : AreJobWords job words

-- They are those of no job for it.
abbrev pub IsNoJob : Task → List (List ℕ) → Type 0
IsNoJob task words = (job : Job) → IsJobOf task words job → ⊥

-- The words are those behind this verb in a line.
pub record IsLineOf (verb : Verb) (words : List (List ℕ)) (line : Line) : Type 0 where
  pub verb_is : verb_of line ≡ verb
  pub args : AreArgs line words

-- They are those of no line with this verb.
abbrev pub IsNoLine : Verb → List (List ℕ) → Type 0
IsNoLine verb words = (line : Line) → IsLineOf verb words line → ⊥

-- The number of a line of the head is within its range.
abbrev pub IsWithin : Line → Type 0
IsWithin (Head part number) = number ≤ most part
IsWithin line = Unit {0}

-- Why a line isn't taken. Memory is asked for its act alone.
abbrev pub IsLineFault : Progress → List ℕ → LineFault → Type 0
IsLineFault progress line (Bad kind) = IsFaulty progress line kind
IsLineFault progress line Memory = HasAct progress line

-- The fault of a text in which this is the fault of the line of this number.
abbrev pub fault_at : ℕ → LineFault → ScriptFault
fault_at number (Bad kind) = script.Bad number kind
fault_at number Memory = script.Memory

-- Why a plan isn't taken. Memory is asked for one whose key is right.
abbrev pub IsPlanFault : Plan → LineFault → Type 0
IsPlanFault plan (Bad kind) = (kind ≡ Key) × (has_own_key plan ≡ false)
IsPlanFault plan Memory = has_own_key plan ≡ true

-- Why no act is made of a line. Memory is asked for the transaction of a session whose key is right.
abbrev pub IsActFault : Line → LineFault → Type 0
IsActFault line (Bad kind) = (kind ≡ Key) × (has_key line ≡ false)
IsActFault line Memory = (sessions_in line ≡ 1) × (has_key line ≡ true)

-- The word is this number in decimal, which is at least and at most so great.
pub record IsNumberWithin (word : List ℕ) (least most number : ℕ) : Type 0 where
  pub written : word ≡ decimal number
  pub from : least ≤ number
  pub to : number ≤ most

-- The five words are the numbers of this load.
pub record AreNumbers (members sessions workers shards seed : List ℕ) (spec : WorkSpec) : Type 0 where
  pub members_are : IsNumberWithin members 1 100000 spec.members
  pub sessions_are : IsNumberWithin sessions 0 500000 spec.sessions
  pub workers_are : IsNumberWithin workers 1 1024 spec.workers
  pub shards_are : IsNumberWithin shards 1 64 spec.shards
  pub seed_is : seed ≡ decimal spec.seed
  pub seed_below : spec.seed < 2 ^ 64
