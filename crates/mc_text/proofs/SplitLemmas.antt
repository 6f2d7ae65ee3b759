-- How the first word is taken off a text, and when there is none.
use Rattle.std.proofs.Common.{ℕ, zero, suc, ◌+◌, ◌==◌, ◌≡◌, ◌<◌, ◌≤◌, Bool, true, false, not, cond, ltb, List, [], ◌∷◌, length, take, drop}
use Rattle.std.proofs.lemmas.Bool.{cases_order}
use Rattle.std.proofs.Common.{◌⊎◌, inl, inr, get_or, position, get_or-drop, Option, Some, None, is_some, add-zero, arith, refl, sym, ap, ◌∙◌}
use Rattle.std.specs.List.{position_or_len, All, slice_split}
use Rattle.std.specs.Prelude.{filter}
use Rattle.std.specs.Bool.{MatchBool}
use Rattle.std.proofs.lemmas.Bool.{false≢true}
use Rattle.std.proofs.lemmas.Bool.Decides.{nat_tests}
use Rattle.std.proofs.lemmas.List.{length-take, length-drop, drop_all}
use Rattle.std.proofs.lemmas.List.Elements.{All-from_get_or}
use Rattle.std.proofs.lemmas.List.Quantifiers.{position-Some}
use Rattle.std.proofs.lemmas.List.Splits.{slice_split_first, slice_split_none}
use Rattle.std.proofs.lemmas.List.Sums.{position_or_len_is, fails_before_first}
use Rattle.mc_text.specs.Words.{is_some_word, words_in}

-- whether a byte is a space, and whether it is none
abbrev pub is_space : ℕ → Bool
is_space byte = byte == 32

abbrev pub no_space : ℕ → Bool
no_space byte = not (byte == 32)

-- a space in front parts nothing
space_in_front : (bytes : List ℕ) → words_in (32 ∷ bytes) ≡ words_in bytes
space_in_front bytes = ap (λ (parts : List (List ℕ)). filter is_some_word parts) (slice_split_first is_space (32 ∷ bytes) 0 (omega arith))

-- nor do several
spaces_in_front : (n : ℕ) (text : List ℕ) → n ≤ length text → ((i : ℕ) → i < n → get_or text i 0 ≡ 32) → words_in text ≡ words_in (drop n text)
spaces_in_front zero text low all = refl
spaces_in_front (suc n) [] low all = absurd (omega arith)
spaces_in_front (suc n) (byte ∷ bytes) low all =
    let one : byte ≡ 32 = all 0 (omega arith) in
    let rest = spaces_in_front n bytes (omega arith) (λ i h. all (suc i) (omega arith)) in
    rw one (space_in_front bytes ∙ rest)

-- what a test that isn't passed says of a byte
is_the_space : (byte : ℕ) → no_space byte ≡ false → byte ≡ 32
is_the_space byte e = grind (arith, nat_tests)

-- a text in which each byte is a space
all_spaces : (text : List ℕ) → position no_space text ≡ None → (i : ℕ) → i < length text → get_or text i 0 ≡ 32
all_spaces text e i within =
    let over : length text ≤ position_or_len no_space text = past _ _ e in
    is_the_space _ (fails_before_first no_space text i 0 (omega arith))
  where
    past : (found len : ℕ) → cond (ltb found len) (Some found) None ≡ None → len ≤ found
    past found len e = grind (arith, nat_tests)

-- has no word
pub no_word : (text : List ℕ) → position no_space text ≡ None → words_in text ≡ []
no_word text e =
    spaces_in_front (length text) text (omega arith) (λ i h. all_spaces text e i h) ∙ ap words_in (drop_all (length text) text (omega arith))

-- the words of a text are those behind the spaces in front
from_first : (text : List ℕ) (from : ℕ) → position no_space text ≡ Some from → words_in text ≡ words_in (drop from text)
from_first text from e =
    let place = position-Some no_space text from 0 e in
    spaces_in_front from text (omega (arith, place.0)) (λ i h. is_the_space _ (place.2 i h))

-- the byte behind them is no space
first_byte : (text : List ℕ) (from : ℕ) → position no_space text ≡ Some from → no_space (get_or (drop from text) 0 0) ≡ true
first_byte text from e =
    let place = position-Some no_space text from 0 e in
    rw (get_or-drop from text 0 0, add-zero) place.1

-- a word that is cut off at a space
pub word_cut : (text : List ℕ) (from at : ℕ) → position no_space text ≡ Some from
    → position is_space (drop from text) ≡ Some at → words_in text ≡ take at (drop from text) ∷ words_in (drop (at + 1) (drop from text))
word_cut text from at e f =
    let place = position-Some is_space (drop from text) at 0 f in
    let first = position_or_len_is is_space (drop from text) at 0 (omega (arith, place.0)) place.2 (λ h. place.1) in
    let parts : slice_split is_space (drop from text) ≡ take at (drop from text) ∷ slice_split is_space (drop (at + 1) (drop from text)) =
    rw first at (slice_split_first is_space (drop from text) 0 (omega (arith, place.0, first))) in
    let some : 1 ≤ at = starts at (first_byte text from e) place.1 in
    let long : length (take at (drop from text)) ≡ at = omega (arith, length-take at (drop from text), place.0) in
    let kept : is_some_word (take at (drop from text)) ≡ true = grind (arith, nat_tests) in
    from_first text from e ∙ (ap (λ (ps : List (List ℕ)). filter is_some_word ps) parts ∙ rw kept refl)
  where
    starts : (at : ℕ) → no_space (get_or (drop from text) 0 0) ≡ true → is_space (get_or (drop from text) at 0) ≡ true → 1 ≤ at
    starts zero a b = grind (arith, nat_tests)
    starts (suc at) a b = omega arith

-- the last word
pub word_last : (text : List ℕ) (from : ℕ) → position no_space text ≡ Some from
    → position is_space (drop from text) ≡ None → words_in text ≡ drop from text ∷ []
word_last text from e f =
    let place = position-Some no_space text from 0 e in
    let over : length (drop from text) ≤ position_or_len is_space (drop from text) = past _ _ f in
    let none : All (λ x. is_space x ≡ false) (drop from text) =
    All-from_get_or (λ (x : ℕ). is_space x ≡ false) (drop from text) 0 (λ i h. fails_before_first is_space (drop from text) i 0 (omega arith)) in
    let long : 1 ≤ length (drop from text) = omega (arith, length-drop from text, place.0) in
    let kept : is_some_word (drop from text) ≡ true = grind (arith, nat_tests) in
    from_first text from e ∙ (ap (λ (ps : List (List ℕ)). filter is_some_word ps) (slice_split_none is_space (drop from text) none) ∙ rw kept refl)
  where
    past : (found len : ℕ) → cond (ltb found len) (Some found) None ≡ None → len ≤ found
    past found len e = grind (arith, nat_tests)

-- a text with a byte that is no space has a word
pub some_word : (text : List ℕ) (from : ℕ) → position no_space text ≡ Some from → words_in text ≡ [] → ⊥
some_word text from e none = cut (position is_space (drop from text)) refl
  where
    cut : (o : Option ℕ) → position is_space (drop from text) ≡ o → ⊥
    cut (Some at) f = let h = sym (word_cut text from at e f) ∙ none in let l = ap (λ (ws : List (List ℕ)). length ws) h in absurd (omega arith)
    cut None f = let h = sym (word_last text from e f) ∙ none in let l = ap (λ (ws : List (List ℕ)). length ws) h in absurd (omega arith)

-- whether a text has a word, by the search for its first byte
pub told_word : (text : List ℕ) (found : Option ℕ) (ended : Bool)
    → found ≡ position no_space text → is_some found ≡ not ended → MatchBool ended (words_in text ≡ []) (words_in text ≡ [] → ⊥)
told_word text None true e f = no_word text (sym e)
told_word text (Some from) false e f = some_word text from (sym e)
told_word text None false e f = absurd (false≢true f)
told_word text (Some from) true e f = absurd (false≢true (sym f))

-- no space stands before this place
abbrev pub NoneBefore : List ℕ → ℕ → Type 0
NoneBefore text at = (place : ℕ) → place < at → get_or text place 0 ≡ 32 → ⊥

-- a byte that isn't a space fails the test
is_none : (byte : ℕ) → (byte ≡ 32 → ⊥) → is_space byte ≡ false
is_none byte other = grind (arith, nat_tests)

-- the first space
pub space_found : (text : List ℕ) (at : ℕ) → at < length text → NoneBefore text at → get_or text at 0 ≡ 32 → Some at ≡ position is_space text
space_found text at within none byte = on _ (position_or_len_is is_space text at 0 (omega arith) (λ k h. is_none _ (none k h)) (λ h. rw byte refl))
  where
    on : (found : ℕ) → found ≡ at → Some at ≡ cond (ltb found (length text)) (Some found) None
    on found e = grind (arith, nat_tests)

-- a text in which there is none
pub no_space_found : (text : List ℕ) → NoneBefore text (length text) → None ≡ position is_space text
no_space_found text none = on _ (position_or_len_is is_space text (length text) 0 (omega arith) (λ k h. is_none _ (none k h)) (λ h. absurd (omega arith)))
  where
    on : (found : ℕ) → found ≡ length text → None ≡ cond (ltb found (length text)) (Some found) None
    on found e = grind (arith, nat_tests)

-- one byte more that is none
pub none_yet : (text : List ℕ) (at next : ℕ) → next ≡ at + 1 → NoneBefore text at → (get_or text at 0 ≡ 32 → ⊥) → NoneBefore text next
none_yet text at next e none other place below byte = by (cases_order place at)
  where
    by : (place ≡ at) ⊎ ((place < at) ⊎ (at < place)) → ⊥
    by (inl same) = other (rw same at byte)
    by (inr (inl low)) = none place low byte
    by (inr (inr high)) = absurd (omega arith)
