-- Which words are those of no line.
use Rattle.std.proofs.Common.{ℕ, ◌==◌, ◌≡◌, List, [], ◌∷◌, length, Option, Some, None, arith, refl, ap}
use Rattle.std.specs.Prelude.{IfNone}
use Rattle.std.proofs.lemmas.List.Splits.{length-slice_split}
use Rattle.run_inputs.specs.declared.lines.Part.{Part}
use Rattle.run_inputs.specs.declared.lines.Verb.TheVariants as verb
use Rattle.run_inputs.specs.declared.lines.Line.TheVariants.{Head, Tick, End}
use Rattle.run_inputs.specs.Texts.{parts_at}
use Rattle.run_inputs.specs.Lines.{AreNumber, AreCount, AreFloor, AreArgs}
use Rattle.run_inputs.specs.Parsing.{IsNoJob, IsNoLine}
use Rattle.rows_model.specs.declared.changes.Change.{Change}
use Rattle.change_words.specs.Txns.{AreTxnWords}
use Rattle.run_inputs.specs.declared.lines.Task.{Task}
use Rattle.run_inputs.specs.declared.lines.Job.TheVariants.{Read, Write, Look, Quit, Skip, Raise, Renew}

-- what an option's absence gives
pub if_none : {A : Type 0} (o : Option A) (P : Type 0) → (o ≡ None → P) → IfNone o P
if_none None P f = f refl
if_none (Some x) P f = tt

-- a text has a part
pub some_part : (byte : ℕ) (text : List ℕ) → parts_at byte text ≡ [] → ⊥
some_part byte text e =
    let some = length-slice_split (λ (b : ℕ). b == byte) text in
    let lengths = ap (λ (parts : List (List ℕ)). length parts) e in omega arith

-- two words are no number
two_parts : (word : List ℕ) (parts : List (List ℕ)) → (parts ≡ [] → ⊥) → (number : ℕ) → AreNumber number (word ∷ parts) → ⊥
two_parts word [] some number h = some refl
two_parts word (part ∷ parts) some number h = h

pub two_words : (word text : List ℕ) (number : ℕ) → AreNumber number (word ∷ parts_at 32 text) → ⊥
two_words word text number h = two_parts word (parts_at 32 text) (some_part 32 text) number h

-- words that are no number are no count
pub no_count : (text : List ℕ) → ((number : ℕ) → AreNumber number (parts_at 32 text) → ⊥) → (count : Option ℕ) → AreCount count (parts_at 32 text) → ⊥
no_count text none None h = some_part 32 text h
no_count text none (Some count) h = none count h.2

-- nor is a word a floor without one
pub no_floor : (word : List ℕ) (words : List (List ℕ)) → ((number : ℕ) → AreNumber number words → ⊥) → (floor : Option ℕ) → AreFloor floor (word ∷ words) → ⊥
no_floor word words none None h = let lengths = ap (λ (parts : List (List ℕ)). length parts) h in omega arith
no_floor word words none (Some floor) h = none floor h.1

-- no line of a verb
pub no_head : (part : Part) (words : List (List ℕ)) → ((number : ℕ) → AreArgs (Head part number) words → ⊥) → IsNoLine (verb.Head part) words
no_head part words none (Head other number) h =
    let same : other ≡ part = (let e : verb.Head other ≡ verb.Head part = h.verb_is in cc) in
    none number (rw same at h.args)
no_head part words none line h = let e = h.verb_is in cc

pub no_tick : (words : List (List ℕ)) → ((ticks : ℕ) → AreArgs (Tick ticks) words → ⊥) → IsNoLine verb.Tick words
no_tick words none (Tick ticks) h = none ticks h.args
no_tick words none line h = let e = h.verb_is in cc

pub no_end : (words : List (List ℕ)) → (words ≡ [] → ⊥) → IsNoLine verb.End words
no_end words none End h = none h.args
no_end words none line h = let e = h.verb_is in cc

-- no words are those of no transaction, and so of no job
no_txn : (txn : List Change) → AreTxnWords txn [] → ⊥
no_txn [] h = let some = h.0.some in omega (arith, some)
no_txn (change ∷ txn) h = h.1

pub no_job : (task : Task) → IsNoJob task []
no_job task (Read key floor) h = h.says
no_job task (Write mode txn) h = h.says
no_job task (Look mode key txn) h = h.says
no_job task (Quit mode txn) h = h.says
no_job task (Skip key txn) h = h.says
no_job task (Raise txn) h = no_txn txn h.says
no_job task (Renew mode txn) h = h.says
