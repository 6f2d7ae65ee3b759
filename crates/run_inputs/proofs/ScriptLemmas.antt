-- What lines come to, one after another.
use Rattle.std.proofs.Common.{ℕ, ◌+◌, ◌≡◌, ◌<◌, ◌≤◌, List, [], ◌∷◌, ◌++◌, length, arith, refl, sym, ap, ◌∙◌}
use Rattle.std.proofs.Common.{append_assoc, append-nil, length-append, subst}
use Rattle.std.specs.Prelude.{flat_map}
use Rattle.std.proofs.lemmas.Grind.{flat_map-append}
use Rattle.run_inputs.specs.declared.lines.Line.{Line}
use Rattle.run_inputs.specs.declared.lines.Line.TheVariants.{Head, Session, Turn, Tick, Sweep, End}
use Rattle.run_inputs.specs.declared.stages.Stage.TheVariants as stage
use Rattle.run_inputs.specs.declared.stages.Progress.{Progress}
use Rattle.run_inputs.specs.declared.scripts.Act.{Act}
use Rattle.run_inputs.specs.Texts.{lines_in}
use Rattle.run_inputs.specs.Script.{start, after, after_all, sessions_in, acts_in, IsSound, AreSound, IsScript}
use Rattle.run_inputs.proofs.LineLemmas.{few_turns}

-- one line more without a fault
sound_more : (progress : Progress) (front : List (List ℕ)) (said : List Line) (line : List ℕ) (last : Line)
    → AreSound progress front said → IsSound (after_all progress said) line last → AreSound progress (front ++ line ∷ []) (said ++ last ∷ [])
sound_more progress [] [] line last h k = (k, tt)
sound_more progress [] (x ∷ said) line last h k = absurd h
sound_more progress (l ∷ front) [] line last h k = absurd h
sound_more progress (l ∷ front) (x ∷ said) line last h k = (h.0, sound_more (after progress x) front said line last h.1 k)

after_more : (progress : Progress) (said : List Line) (last : Line) → after_all progress (said ++ last ∷ []) ≡ after (after_all progress said) last
after_more progress [] last = refl
after_more progress (x ∷ said) last = after_more (after progress x) said last

sessions_at_most : (said : Line) → sessions_in said ≤ 1
sessions_at_most (Head part number) = omega arith
sessions_at_most (Session number job) = omega arith
sessions_at_most (Turn number count) = omega arith
sessions_at_most (Tick ticks) = omega arith
sessions_at_most (Sweep count) = omega arith
sessions_at_most End = omega arith

-- so many lines were read without a fault, and the rest of the text is left
pub record HasRead (text : List ℕ) (acts : List Act) (progress : Progress) (number : ℕ) (rest : List ℕ) : Type 0 where
  pub front : List (List ℕ)
  pub said : List Line
  pub lines_are : lines_in text ≡ front ++ lines_in rest
  pub sound : AreSound start front said
  pub progress_is : after_all start said ≡ progress
  pub acts_are : acts ≡ flat_map acts_in said
  pub number_is : number ≡ length front
  pub begun : progress.begun ≤ number
  pub few : progress.turns ≤ 1000000
  pub size : number + length rest ≤ length text
  pub short : length text ≤ 16777216

pub read_none : (text : List ℕ) → length text ≤ 16777216 → HasRead text [] start 0 text
read_none text short = record {
  front = [];
  said = [];
  lines_are = refl;
  sound = tt;
  progress_is = refl;
  acts_are = refl;
  number_is = refl;
  begun = omega arith;
  few = omega arith;
  size = omega arith;
  short = short;
}

pub read_more : (text : List ℕ) (acts : List Act) (progress : Progress) (number : ℕ) (rest line behind : List ℕ) (said : Line)
    → HasRead text acts progress number rest → lines_in rest ≡ line ∷ lines_in behind → length behind < length rest → IsSound progress line said
    → HasRead text (acts ++ acts_in said) (after progress said) (number + 1) behind
read_more text acts progress number rest line behind said h cut less is =
    let one = sessions_at_most said in
    let was = h.begun in
    let size_was = h.size in
    record {
      front = h.front ++ line ∷ [];
      said = h.said ++ said ∷ [];
      lines_are = h.lines_are ∙ (ap (λ (ls : List (List ℕ)). h.front ++ ls) cut ∙ sym (append_assoc h.front (line ∷ []) (lines_in behind)));
      sound = sound_more start h.front h.said line said h.sound (subst (λ (p : Progress). IsSound p line said) (sym h.progress_is) is);
      progress_is = after_more start h.said said ∙ ap (λ (p : Progress). after p said) h.progress_is;
      acts_are = ap (λ (xs : List Act). xs ++ acts_in said) h.acts_are
          ∙ (ap (λ (xs : List Act). flat_map acts_in h.said ++ xs) (sym (append-nil (acts_in said))) ∙ sym (flat_map-append acts_in h.said (said ∷ [])));
      number_is = ap (λ (n : ℕ). n + 1) h.number_is ∙ sym (length-append h.front (line ∷ []));
      begun = omega arith;
      few = few_turns progress said is.none;
      size = omega arith;
      short = h.short;
    }

empty : (xs : List ℕ) → length xs ≡ 0 → xs ≡ []
empty [] e = refl
empty (x ∷ xs) e = absurd (omega arith)

-- the lines of a text that is read to its end
all_lines : (text : List ℕ) (acts : List Act) (progress : Progress) (number : ℕ) (rest : List ℕ) (h : HasRead text acts progress number rest)
    → length rest ≡ 0 → h.front ≡ lines_in text
all_lines text acts progress number rest h none =
    sym (h.lines_are ∙ (ap (λ (r : List ℕ). h.front ++ lines_in r) (empty rest none) ∙ append-nil h.front))

pub script_at : (text : List ℕ) (acts : List Act) (progress : Progress) (number : ℕ) (rest : List ℕ)
    → HasRead text acts progress number rest → length rest ≡ 0 → progress.stage ≡ stage.End → IsScript text progress.shape acts
script_at text acts progress number rest h none ended = record {
  short = h.short;
  said = h.said;
  sound = subst (λ (ls : List (List ℕ)). AreSound start ls h.said) (all_lines text acts progress number rest h none) h.sound;
  ended = ap (λ (p : Progress). p.stage) h.progress_is ∙ ended;
  shape_is = ap (λ (p : Progress). p.shape) (sym h.progress_is);
  acts_are = h.acts_are;
}
