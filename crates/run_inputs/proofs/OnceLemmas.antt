-- Words say one thing at most.
use Rattle.std.proofs.Common.{ℕ, ◌==◌, ◌≡◌, List, [], ◌∷◌, Option, Some, None, arith, refl, sym, ap, ◌∙◌, get_or}
use Rattle.std.specs.Prelude.{if◌then◌else◌}
use Rattle.lease_table.specs.declared.records.Mode.{Mode}
use Rattle.lease_table.specs.declared.records.Mode.TheVariants.{Invalidate, Refresh, Delta}
use Rattle.rows_model.specs.declared.keys.QKey.{QKey}
use Rattle.rows_model.specs.Key.{IsKeyText}
use Rattle.rows_model.proofs.KeyLemmas.{key_text_injective}
use Rattle.change_words.proofs.OnceLemmas.{nothing, txn_once}
use Rattle.run_inputs.specs.declared.lines.Job.{Job}
use Rattle.run_inputs.specs.declared.lines.Job.TheVariants.{Read, Write, Look, Quit, Skip, Raise, Renew}
use Rattle.run_inputs.specs.declared.lines.Line.{Line}
use Rattle.run_inputs.specs.declared.lines.Line.TheVariants.{Head, Session, Turn, Tick, Sweep, End}
use Rattle.run_inputs.specs.Lines.{AreNumber, AreCount, AreFloor, mode_word, AreJobWords, AreArgs, AreWords, task_of, verb_of}
use Rattle.run_inputs.proofs.LineLemmas.{verb_once}

pub number_once : (a b : ℕ) (words : List (List ℕ)) → AreNumber a words → AreNumber b words → a ≡ b
number_once a b [] h k = absurd h
number_once a b (word ∷ []) h k = let e : Some a ≡ Some b = sym h ∙ k in cc
number_once a b (word ∷ next ∷ words) h k = absurd h

count_once : (a b : Option ℕ) (words : List (List ℕ)) → AreCount a words → AreCount b words → a ≡ b
count_once None None words h k = refl
count_once None (Some b) [] h k = absurd k.2
count_once None (Some b) (word ∷ words) h k = absurd (nothing word words h)
count_once (Some a) None [] h k = absurd h.2
count_once (Some a) None (word ∷ words) h k = absurd (nothing word words k)
count_once (Some a) (Some b) words h k = ap (λ (n : ℕ). Some n) (number_once a b words h.2 k.2)

floor_once : (a b : Option ℕ) (words : List (List ℕ)) → AreFloor a words → AreFloor b words → a ≡ b
floor_once None None words h k = refl
floor_once None (Some b) [] h k = absurd k
floor_once None (Some b) (word ∷ words) h k = absurd (nothing word words h)
floor_once (Some a) None [] h k = absurd h
floor_once (Some a) None (word ∷ words) h k = absurd (nothing word words k)
floor_once (Some a) (Some b) [] h k = absurd h
floor_once (Some a) (Some b) (word ∷ words) h k = ap (λ (n : ℕ). Some n) (number_once a b words h.1 k.1)

key_once : (a b : QKey) (word : List ℕ) → IsKeyText word a → IsKeyText word b → a ≡ b
key_once a b word h k = key_text_injective a b (omega (arith, h.id_below)) (omega (arith, k.id_below)) (sym h.written ∙ k.written)

-- a mode is told by its word
mode_with : ℕ → Mode
mode_with n = if n == 105 then Invalidate else if n == 114 then Refresh else Delta

mode_back : (m : Mode) → mode_with (get_or (mode_word m) 0 0) ≡ m
unfolding mode_with
mode_back Invalidate = refl
mode_back Refresh = refl
mode_back Delta = refl

mode_once : (a b : Mode) (word : List ℕ) → word ≡ mode_word a → word ≡ mode_word b → a ≡ b
mode_once a b word h k = sym (mode_back a) ∙ (ap (λ (w : List ℕ). mode_with (get_or w 0 0)) (sym h ∙ k) ∙ mode_back b)

job_once : (a b : Job) (words : List (List ℕ)) → task_of a ≡ task_of b → AreJobWords a words → AreJobWords b words → a ≡ b
job_once (Read key floor) (Read key' floor') (word ∷ words) e h k =
    let f = key_once key key' word h.0 k.0 in let g = floor_once floor floor' words h.1 k.1 in cc
job_once (Write mode txn) (Write mode' txn') (word ∷ words) e h k =
    let f = mode_once mode mode' word h.0 k.0 in let g = txn_once txn txn' words h.1 k.1 in cc
job_once (Look mode key txn) (Look mode' key' txn') (word ∷ next ∷ words) e h k =
    let d = mode_once mode mode' word h.0 k.0 in let f = key_once key key' next h.1 k.1 in let g = txn_once txn txn' words h.2 k.2 in cc
job_once (Quit mode txn) (Quit mode' txn') (word ∷ words) e h k =
    let f = mode_once mode mode' word h.0 k.0 in let g = txn_once txn txn' words h.1 k.1 in cc
job_once (Skip key txn) (Skip key' txn') (word ∷ words) e h k =
    let f = key_once key key' word h.0 k.0 in let g = txn_once txn txn' words h.1 k.1 in cc
job_once (Raise txn) (Raise txn') words e h k =
    let g = txn_once txn txn' words h k in cc
job_once (Renew mode txn) (Renew mode' txn') (word ∷ words) e h k =
    let f = mode_once mode mode' word h.0 k.0 in let g = txn_once txn txn' words h.1 k.1 in cc
job_once (Read key floor) (Read key' floor') [] e h k = absurd h
job_once (Write mode txn) (Write mode' txn') [] e h k = absurd h
job_once (Look mode key txn) (Look mode' key' txn') [] e h k = absurd h
job_once (Look mode key txn) (Look mode' key' txn') (word ∷ []) e h k = absurd h
job_once (Quit mode txn) (Quit mode' txn') [] e h k = absurd h
job_once (Skip key txn) (Skip key' txn') [] e h k = absurd h
job_once (Renew mode txn) (Renew mode' txn') [] e h k = absurd h
job_once a b words e h k = absurd cc

args_once : (a b : Line) (words : List (List ℕ)) → verb_of a ≡ verb_of b → AreArgs a words → AreArgs b words → a ≡ b
args_once (Head part number) (Head part' number') words e h k =
    let f = number_once number number' words h.2 k.2 in cc
args_once (Session number job) (Session number' job') [] e h k = absurd h
args_once (Session number job) (Session number' job') (word ∷ words) e h k =
    let d : number ≡ number' = h.0.value ∙ sym k.0.value in
    let tasks : task_of job ≡ task_of job' = cc in
    let f = job_once job job' words tasks h.1 k.1 in cc
args_once (Turn number count) (Turn number' count') [] e h k = absurd h
args_once (Turn number count) (Turn number' count') (word ∷ words) e h k =
    let d : number ≡ number' = h.0.value ∙ sym k.0.value in
    let f = count_once count count' words h.1 k.1 in cc
args_once (Tick ticks) (Tick ticks') words e h k = let f = number_once ticks ticks' words h k in cc
args_once (Sweep count) (Sweep count') words e h k = let f = count_once count count' words h k in cc
args_once End End words e h k = refl
args_once a b words e h k = absurd cc

-- a line says one thing at most
pub line_once : (a b : Line) (words : List (List ℕ)) → AreWords a words → AreWords b words → a ≡ b
line_once a b [] h k = absurd h
line_once a b (word ∷ words) h k = args_once a b words (verb_once (word ∷ words) a b h k) h.1 k.1
