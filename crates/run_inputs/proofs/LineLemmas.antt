-- What a line says is told by its words.
use Rattle.std.proofs.Common.{ℕ, ◌+◌, ◌*◌, ◌==◌, ◌≡◌, ◌≤◌, Bool, true, false, not, List, [], ◌∷◌, Some, None, refl, sym, ap, ◌∙◌, get_or, arith}
use Rattle.std.specs.Prelude.{nat_lt, if◌then◌else◌}
use Rattle.std.proofs.lemmas.Bool.Decides.{nat_tests}
use Rattle.std.proofs.lemmas.Bool.{false≢true}
use Rattle.run_inputs.specs.declared.lines.Part.TheVariants.{Members, Shards, Room, Life}
use Rattle.run_inputs.specs.declared.lines.Task.TheVariants as task
use Rattle.run_inputs.specs.declared.lines.Verb.{Verb}
use Rattle.run_inputs.specs.declared.lines.Verb.TheVariants as verb
use Rattle.run_inputs.specs.declared.lines.Line.{Line}
use Rattle.run_inputs.specs.declared.stages.Progress.{Progress}
use Rattle.run_inputs.specs.declared.faults.ScriptKind.TheVariants as kind
use Rattle.run_inputs.specs.Texts.{words_in}
use Rattle.run_inputs.specs.Lines.{verb_word, verb_of, AreWords}
use Rattle.run_inputs.specs.Script.{is_in_place, is_numbered, has_key, turns_in, Says, fault_of}

-- the first three letters of a word, as one number
abbrev letters : List ℕ → ℕ
letters word = 65536 * get_or word 0 0 + 256 * get_or word 1 0 + get_or word 2 0

-- the verb whose word begins with these letters
verb_with : ℕ → Verb
verb_with n =
    if n == 7169389 then verb.Head Members else
    if n == 7563361 then verb.Head Shards else
    if n == 7499631 then verb.Head Room else
    if n == 7104870 then verb.Head Life else
    if n == 7497057 then verb.Session task.Read else
    if n == 7828073 then verb.Session task.Write else
    if n == 7106415 then verb.Session task.Look else
    if n == 7435625 then verb.Session task.Quit else
    if n == 7564137 then verb.Session task.Skip else
    if n == 7496041 then verb.Session task.Raise else
    if n == 7497070 then verb.Session task.Renew else
    if n == 7632242 then verb.Turn else
    if n == 7629155 then verb.Tick else
    if n == 7567205 then verb.Sweep else verb.End

verb_back : (v : Verb) → verb_with (letters (verb_word v)) ≡ v
unfolding verb_with
verb_back (verb.Head Members) = refl
verb_back (verb.Head Shards) = refl
verb_back (verb.Head Room) = refl
verb_back (verb.Head Life) = refl
verb_back (verb.Session task.Read) = refl
verb_back (verb.Session task.Write) = refl
verb_back (verb.Session task.Look) = refl
verb_back (verb.Session task.Quit) = refl
verb_back (verb.Session task.Skip) = refl
verb_back (verb.Session task.Raise) = refl
verb_back (verb.Session task.Renew) = refl
verb_back verb.Turn = refl
verb_back verb.Tick = refl
verb_back verb.Sweep = refl
verb_back verb.End = refl

-- a verb is told by its word
pub verb_word_injective : (a b : Verb) → verb_word a ≡ verb_word b → a ≡ b
verb_word_injective a b e = sym (verb_back a) ∙ (ap (λ (word : List ℕ). verb_with (letters word)) e ∙ verb_back b)

-- two lines with the same words have the same verb
pub verb_once : (words : List (List ℕ)) (a b : Line) → AreWords a words → AreWords b words → verb_of a ≡ verb_of b
verb_once [] a b h k = absurd h
verb_once (word ∷ words) a b h k = verb_word_injective (verb_of a) (verb_of b) (sym h.0 ∙ k.0)

-- where one reading of a line has no place, none has one
pub no_place : (progress : Progress) (line : List ℕ) (a : Line) → AreWords a (words_in line) → is_in_place progress.stage (verb_of a) ≡ false
    → (said : Line) → Says progress line said → ⊥
no_place progress line a h e said k =
    let same = verb_once (words_in line) a said h k.words in
    let off : is_in_place progress.stage (verb_of said) ≡ false = ap (λ (v : Verb). is_in_place progress.stage v) (sym same) ∙ e in
    false≢true (sym off ∙ k.in_place)

-- the three tests that a line without a fault passes
pub record Passes (a b c : Bool) : Type 0 where
  pub first : a ≡ false
  pub second : b ≡ false
  pub third : c ≡ false

pub passes : (a b c : Bool) → (if a then Some kind.Number else if b then Some kind.Key else if c then Some kind.Turns else None) ≡ None → Passes a b c
passes true b c e = absurd cc
passes false true c e = absurd cc
passes false false true e = absurd cc
passes false false false e = record { first = refl; second = refl; third = refl }

-- a line without a fault keeps the turns within their limit
pub few_turns : (progress : Progress) (said : Line) → fault_of progress said ≡ None → progress.turns + turns_in said ≤ 1000000
few_turns progress said e =
    let p = passes (not (is_numbered progress.begun said)) (not (has_key said)) (nat_lt 1000000 (progress.turns + turns_in said)) e in
    let small : nat_lt 1000000 (progress.turns + turns_in said) ≡ false = p.third in
    grind (arith, nat_tests)

pub true_from : (b : Bool) → not b ≡ false → b ≡ true
true_from true e = refl
true_from false e = sym e
