-- How a text is cut at a byte.
use Rattle.std.proofs.Common.{◌==◌, ◌+◌, ℕ, ◌≡◌, ◌<◌, ◌≤◌, Bool, false, cond, ltb, List, [], ◌∷◌, length, take, drop, position, Some, None}
use Rattle.std.proofs.Common.{arith, refl, ap, ◌∙◌}
use Rattle.std.specs.List.{position_or_len, All}
use Rattle.std.proofs.lemmas.Bool.Decides.{nat_tests}
use Rattle.std.proofs.lemmas.List.Elements.{All-from_get_or}
use Rattle.std.proofs.lemmas.List.Quantifiers.{position-Some}
use Rattle.std.proofs.lemmas.List.Splits.{slice_split_first, slice_split_none, length-slice_split}
use Rattle.std.proofs.lemmas.List.Sums.{position_or_len_is, fails_before_first}
use Rattle.run_inputs.specs.Texts.{parts_at, without_empty_last, lines_in}

abbrev is : ℕ → ℕ → Bool
is byte b = b == byte

-- a text that has the byte is cut there
pub cut_at : (byte : ℕ) (text : List ℕ) (at : ℕ) → position (is byte) text ≡ Some at
    → parts_at byte text ≡ take at text ∷ parts_at byte (drop (at + 1) text)
cut_at byte text at e =
    let place = position-Some (is byte) text at 0 e in
    let low : at ≤ length text = omega arith in
    let first : position_or_len (is byte) text ≡ at = position_or_len_is (is byte) text at 0 low place.2 (λ h. place.1) in
    rw first at (slice_split_first (is byte) text 0 (omega arith))

-- a text that hasn't the byte is one part
past : (found : ℕ) (len : ℕ) → cond (ltb found len) (Some found) None ≡ None → len ≤ found
past found len e = grind (arith, nat_tests)

pub cut_none : (byte : ℕ) (text : List ℕ) → position (is byte) text ≡ None → parts_at byte text ≡ text ∷ []
cut_none byte text e =
    let over : length text ≤ position_or_len (is byte) text = past _ _ e in
    let none : All (λ x. is byte x ≡ false) text =
    All-from_get_or (λ (x : ℕ). is byte x ≡ false) text 0 (λ i h. fails_before_first (is byte) text i 0 (omega arith)) in
    slice_split_none (is byte) text none

-- a part in front of others stays
pub in_front : (part : List ℕ) (parts : List (List ℕ)) → 0 < length parts → without_empty_last (part ∷ parts) ≡ part ∷ without_empty_last parts
in_front part [] h = absurd (omega arith)
in_front part (next ∷ parts) h = refl

-- the lines of a text that is cut at a line feed
pub lines_cut : (text line rest : List ℕ) → parts_at 10 text ≡ line ∷ parts_at 10 rest → lines_in text ≡ line ∷ lines_in rest
lines_cut text line rest e =
    ap without_empty_last e ∙ in_front line (parts_at 10 rest) (omega (arith, length-slice_split (is 10) rest))
