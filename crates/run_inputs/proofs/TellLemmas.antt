-- A text says one script at most and has one fault at most, and never both.
use Rattle.std.proofs.Common.{ℕ, suc, ◌+◌, ◌≡◌, ◌<◌, ◌≤◌, List, [], ◌∷◌, ◌++◌, length, Some, None, arith, refl, sym, ap, ◌∙◌, subst}
use Rattle.std.specs.Prelude.{flat_map}
use Rattle.session_client.specs.declared.plans.Shape.{Shape}
use Rattle.run_inputs.specs.declared.lines.Line.{Line}
use Rattle.run_inputs.specs.declared.stages.Stage.TheVariants as stage
use Rattle.run_inputs.specs.declared.stages.Progress.{Progress}
use Rattle.run_inputs.specs.declared.faults.ScriptKind.{ScriptKind}
use Rattle.run_inputs.specs.declared.faults.ScriptKind.TheVariants as kind
use Rattle.run_inputs.specs.declared.scripts.Act.{Act}
use Rattle.run_inputs.specs.Texts.{lines_in, words_in}
use Rattle.run_inputs.specs.Script.{start, after, after_all, acts_in, fault_of, Says, MayStand, IsSound, AreSound, IsFaulty, IsScript}
use Rattle.run_inputs.specs.Script.{HasFault, HasNoEnd, IsFault, TextsTellScripts}
use Rattle.run_inputs.proofs.OnceLemmas.{line_once}

says_once : (progress : Progress) (line : List ℕ) (a b : Line) → Says progress line a → Says progress line b → a ≡ b
says_once progress line a b h k = line_once a b (words_in line) h.words k.words

-- how a line is faulty
data FaultyHow (progress : Progress) (line : List ℕ) (fault : ScriptKind) : Type 0 where
  by_length : fault ≡ kind.LongLine → 2048 < length line → FaultyHow progress line fault
  by_end : fault ≡ kind.AfterEnd → length line ≤ 2048 → progress.stage ≡ stage.End → FaultyHow progress line fault
  by_form : fault ≡ kind.Form → MayStand progress line → ((said : Line) → Says progress line said → ⊥) → FaultyHow progress line fault
  by_saying : MayStand progress line → (said : Line) → Says progress line said → fault_of progress said ≡ Some fault → FaultyHow progress line fault

how : (progress : Progress) (line : List ℕ) (fault : ScriptKind) → IsFaulty progress line fault → FaultyHow progress line fault
how progress line kind.LongLine h = by_length refl h
how progress line kind.AfterEnd h = by_end refl h.0 h.1
how progress line kind.Form h = by_form refl h.0 h.1
how progress line other h = by_saying h.0 h.1 h.2 h.3

kind_once : (progress : Progress) (line : List ℕ) (a b : ScriptKind) → FaultyHow progress line a → FaultyHow progress line b → a ≡ b
kind_once progress line a b (by_length e long) (by_length f long') = e ∙ sym f
kind_once progress line a b (by_length e long) (by_end f short ends) = absurd (omega arith)
kind_once progress line a b (by_length e long) (by_form f stands none) = let short = stands.short in absurd (omega arith)
kind_once progress line a b (by_length e long) (by_saying stands said says f) = let short = stands.short in absurd (omega arith)
kind_once progress line a b (by_end e short ends) (by_length f long) = absurd (omega arith)
kind_once progress line a b (by_end e short ends) (by_end f short' ends') = e ∙ sym f
kind_once progress line a b (by_end e short ends) (by_form f stands none) = absurd (stands.goes_on ends)
kind_once progress line a b (by_end e short ends) (by_saying stands said says f) = absurd (stands.goes_on ends)
kind_once progress line a b (by_form e stands none) (by_length f long) = let short = stands.short in absurd (omega arith)
kind_once progress line a b (by_form e stands none) (by_end f short ends) = absurd (stands.goes_on ends)
kind_once progress line a b (by_form e stands none) (by_form f stands' none') = e ∙ sym f
kind_once progress line a b (by_form e stands none) (by_saying stands' said says f) = absurd (none said says)
kind_once progress line a b (by_saying stands said says e) (by_length f long) = let short = stands.short in absurd (omega arith)
kind_once progress line a b (by_saying stands said says e) (by_end f short ends) = absurd (stands.goes_on ends)
kind_once progress line a b (by_saying stands said says e) (by_form f stands' none) = absurd (none said says)
kind_once progress line a b (by_saying stands said says e) (by_saying stands' said' says' f) =
    let same : said ≡ said' = says_once progress line said said' says says' in
    let faults : Some a ≡ Some b = sym e ∙ (ap (λ (s : Line). fault_of progress s) same ∙ f) in cc

-- a line without a fault isn't faulty
clash : (progress : Progress) (line : List ℕ) (said : Line) (fault : ScriptKind) → IsSound progress line said → FaultyHow progress line fault → ⊥
clash progress line said fault h (by_length e long) = let short = h.stands.short in omega arith
clash progress line said fault h (by_end e short ends) = h.stands.goes_on ends
clash progress line said fault h (by_form e stands none) = none said h.says
clash progress line said fault h (by_saying stands said' says e) =
    let same : said ≡ said' = says_once progress line said said' h.says says in
    let faults : None ≡ Some fault = sym h.none ∙ (ap (λ (s : Line). fault_of progress s) same ∙ e) in cc

-- lines without a fault say one list
sound_once : (progress : Progress) (lines : List (List ℕ)) (a b : List Line) → AreSound progress lines a → AreSound progress lines b → a ≡ b
sound_once progress [] [] [] h k = refl
sound_once progress [] [] (y ∷ b) h k = absurd k
sound_once progress [] (x ∷ a) b h k = absurd h
sound_once progress (line ∷ lines) [] b h k = absurd h
sound_once progress (line ∷ lines) (x ∷ a) [] h k = absurd k
sound_once progress (line ∷ lines) (x ∷ a) (y ∷ b) h k =
    let same : y ≡ x = says_once progress line y x k.0.says h.0.says in
    let later : AreSound (after progress x) lines b = subst (λ (s : Line). AreSound (after progress s) lines b) same k.1 in
    let rest : a ≡ b = sound_once (after progress x) lines a b h.1 later in
    ap (λ (s : Line). s ∷ a) (sym same) ∙ ap (λ (ss : List Line). y ∷ ss) rest

head_is : (a b : List ℕ) (as' bs : List (List ℕ)) → a ∷ as' ≡ b ∷ bs → (a ≡ b) × (as' ≡ bs)
head_is a b as' bs e = (cc, cc)

no_line : (a : List ℕ) (as' : List (List ℕ)) → [] ≡ a ∷ as' → ⊥
no_line a as' e = let lengths = ap (λ (ls : List (List ℕ)). length ls) e in omega arith

-- where lines are without a fault, none of them is faulty
none_faulty : (progress : Progress) (lines : List (List ℕ)) (said : List Line)
    (front : List (List ℕ)) (line : List ℕ) (behind : List (List ℕ)) (said' : List Line) (fault : ScriptKind)
    → AreSound progress lines said → lines ≡ front ++ line ∷ behind → AreSound progress front said' → IsFaulty (after_all progress said') line fault → ⊥
none_faulty progress [] said [] line behind said' fault h e k f = no_line line behind e
none_faulty progress [] said (l ∷ front) line behind said' fault h e k f = no_line l (front ++ line ∷ behind) e
none_faulty progress (x ∷ lines) [] front line behind said' fault h e k f = h
none_faulty progress (x ∷ lines) (s ∷ said) [] line behind [] fault h e k f =
    let same = (head_is x line lines behind e).0 in
    clash progress line s fault (subst (λ (l : List ℕ). IsSound progress l s) same h.0) (how progress line fault f)
none_faulty progress (x ∷ lines) (s ∷ said) [] line behind (t ∷ said') fault h e k f = k
none_faulty progress (x ∷ lines) (s ∷ said) (l ∷ front) line behind [] fault h e k f = k
none_faulty progress (x ∷ lines) (s ∷ said) (l ∷ front) line behind (t ∷ said') fault h e k f =
    let parts = head_is x l lines (front ++ line ∷ behind) e in
    let here : IsSound progress l s = subst (λ (y : List ℕ). IsSound progress y s) parts.0 h.0 in
    let same : s ≡ t = says_once progress l s t here.says k.0.says in
    let later : AreSound (after progress t) lines said = subst (λ (y : Line). AreSound (after progress y) lines said) same h.1 in
    none_faulty (after progress t) lines said front line behind said' fault later parts.1 k.1 f

-- the first faulty line is one
first_once : (progress : Progress) (front front' : List (List ℕ))
    (line line' : List ℕ) (behind behind' : List (List ℕ)) (said said' : List Line) (a b : ScriptKind)
    → front ++ line ∷ behind ≡ front' ++ line' ∷ behind' → AreSound progress front said → AreSound progress front' said'
    → IsFaulty (after_all progress said) line a → IsFaulty (after_all progress said') line' b → (length front ≡ length front') × (a ≡ b)
first_once progress [] [] line line' behind behind' [] [] a b e h k f g =
    let same = (head_is line line' behind behind' e).0 in
    (refl, kind_once progress line' a b (how progress line' a (subst (λ (l : List ℕ). IsFaulty progress l a) same f)) (how progress line' b g))
first_once progress [] [] line line' behind behind' (s ∷ said) said' a b e h k f g = absurd h
first_once progress [] [] line line' behind behind' [] (t ∷ said') a b e h k f g = absurd k
first_once progress [] (l' ∷ front') line line' behind behind' (s ∷ said) said' a b e h k f g = absurd h
first_once progress [] (l' ∷ front') line line' behind behind' [] [] a b e h k f g = absurd k
first_once progress [] (l' ∷ front') line line' behind behind' [] (t ∷ said') a b e h k f g =
    let same = (head_is line l' behind (front' ++ line' ∷ behind') e).0 in
    absurd (clash progress l' t a k.0 (how progress l' a (subst (λ (l : List ℕ). IsFaulty progress l a) same f)))
first_once progress (l ∷ front) [] line line' behind behind' said (t ∷ said') a b e h k f g = absurd k
first_once progress (l ∷ front) [] line line' behind behind' [] [] a b e h k f g = absurd h
first_once progress (l ∷ front) [] line line' behind behind' (s ∷ said) [] a b e h k f g =
    let same = (head_is l line' (front ++ line ∷ behind) behind' e).0 in
    absurd (clash progress l s b h.0 (how progress l b (subst (λ (x : List ℕ). IsFaulty progress x b) (sym same) g)))
first_once progress (l ∷ front) (l' ∷ front') line line' behind behind' [] said' a b e h k f g = absurd h
first_once progress (l ∷ front) (l' ∷ front') line line' behind behind' (s ∷ said) [] a b e h k f g = absurd k
first_once progress (l ∷ front) (l' ∷ front') line line' behind behind' (s ∷ said) (t ∷ said') a b e h k f g =
    let parts = head_is l l' (front ++ line ∷ behind) (front' ++ line' ∷ behind') e in
    let here : IsSound progress l' s = subst (λ (y : List ℕ). IsSound progress y s) parts.0 h.0 in
    let same : s ≡ t = says_once progress l' s t here.says k.0.says in
    let later : AreSound (after progress t) front said = subst (λ (y : Line). AreSound (after progress y) front said) same h.1 in
    let fault : IsFaulty (after_all (after progress t) said) line a = subst (λ (y : Line). IsFaulty (after_all (after progress y) said) line a) same f in
    let rest = first_once (after progress t) front front' line line' behind behind' said said' a b parts.1 later k.1 fault g in
    (ap (λ (n : ℕ). suc n) rest.0, rest.1)

-- how a text has a fault
data HasHow (text : List ℕ) (number : ℕ) (fault : ScriptKind) : Type 0 where
  in_whole : fault ≡ kind.LongText → 16777216 < length text → number ≡ 0 → HasHow text number fault
  in_line : HasFault text number fault → HasHow text number fault
  at_end : fault ≡ kind.NoEnd → HasNoEnd text number → HasHow text number fault

has_how : (text : List ℕ) (number : ℕ) (fault : ScriptKind) → IsFault text number fault → HasHow text number fault
has_how text number kind.LongText h = in_whole refl h.0 h.1
has_how text number kind.NoEnd h = at_end refl h
has_how text number other h = in_line h

line_and_end : (text : List ℕ) (number number' : ℕ) (fault : ScriptKind) → HasFault text number fault → HasNoEnd text number' → ⊥
line_and_end text number number' fault h k = none_faulty start (lines_in text) k.said h.front h.line h.behind h.said fault k.sound h.lines_are h.sound h.faulty

once : (text : List ℕ) (number number' : ℕ) (a b : ScriptKind) → HasHow text number a → HasHow text number' b → (number ≡ number') × (a ≡ b)
once text number number' a b (in_whole e long n) (in_whole f long' n') = (n ∙ sym n', e ∙ sym f)
once text number number' a b (in_whole e long n) (in_line k) = let short = k.short in absurd (omega arith)
once text number number' a b (in_whole e long n) (at_end f k) = let short = k.short in absurd (omega arith)
once text number number' a b (in_line h) (in_whole f long n) = let short = h.short in absurd (omega arith)
once text number number' a b (in_line h) (in_line k) =
    let lines = sym h.lines_are ∙ k.lines_are in
    let same = first_once start h.front k.front h.line k.line h.behind k.behind h.said k.said a b lines h.sound k.sound h.faulty k.faulty in
    (h.number_is ∙ (ap (λ (n : ℕ). n + 1) same.0 ∙ sym k.number_is), same.1)
once text number number' a b (in_line h) (at_end f k) = absurd (line_and_end text number number' a h k)
once text number number' a b (at_end e h) (in_whole f long n) = let short = h.short in absurd (omega arith)
once text number number' a b (at_end e h) (in_line k) = absurd (line_and_end text number' number b k h)
once text number number' a b (at_end e h) (at_end f k) = (h.number_is ∙ sym k.number_is, e ∙ sym f)

never : (text : List ℕ) (shape : Shape) (acts : List Act) (number : ℕ) (fault : ScriptKind) → IsScript text shape acts → HasHow text number fault → ⊥
never text shape acts number fault h (in_whole e long n) = let short = h.short in omega arith
never text shape acts number fault h (in_line k) =
    none_faulty start (lines_in text) h.said k.front k.line k.behind k.said fault h.sound k.lines_are k.sound k.faulty
never text shape acts number fault h (at_end e k) =
    let same = sound_once start (lines_in text) h.said k.said h.sound k.sound in
    k.goes_on (ap (λ (said : List Line). (after_all start said).stage) (sym same) ∙ h.ended)

pub texts_tell : TextsTellScripts
texts_tell = record {
  one_script = λ text shape shape' acts acts' h k.
      let same = sound_once start (lines_in text) h.said k.said h.sound k.sound in (
        h.shape_is ∙ (ap (λ (said : List Line). (after_all start said).shape) same ∙ sym k.shape_is),
        h.acts_are
            ∙ (ap (λ (said : List Line). flat_map acts_in said) same ∙ sym k.acts_are),
      );
  one_fault = λ text number number' fault fault' h k. once text number number' fault fault' (has_how text number fault h) (has_how text number' fault' k);
  never_both = λ text shape acts number fault h k. never text shape acts number fault h (has_how text number fault k);
}
