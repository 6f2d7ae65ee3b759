-- Numbers of up to 20 digits, read one digit after another.
use Rattle.std.proofs.Common.{ℕ, ◌+◌, ◌-◌, ◌*◌, ◌≡◌, ◌<◌, ◌≤◌, true, false, List, [], ◌∷◌, ◌++◌, length, take, drop, get_or, take-suc}
use Rattle.std.proofs.Common.{take_all, take-append-drop, arith, refl, sym, ap, ◌∙◌, add-one}
use Rattle.std.specs.List.{list_all}
use Rattle.std.specs.Prelude.{nat_le, ◌&&◌}
use Rattle.std.proofs.lemmas.Bool.{false≢true, and_parts}
use Rattle.std.proofs.lemmas.Bool.Decides.{nat_tests}
use Rattle.std.proofs.lemmas.List.Folds.{list_all_at, list_all-append}
use Rattle.rows_model.specs.Shift.{is_digit, number_from}
use Rattle.mc_text.specs.Words.{is_numeral, IsBelow}

-- digits, read after others
number_behind : (xs ys : List ℕ) (front : ℕ) → number_from front (xs ++ ys) ≡ number_from (number_from front xs) ys
number_behind [] ys front = refl
number_behind (x ∷ xs) ys front = number_behind xs ys (front * 10 + (x - 48))

-- digits behind a number make it no smaller
number_grows : (xs : List ℕ) (front : ℕ) → front ≤ number_from front xs
number_grows [] front = omega arith
number_grows (x ∷ xs) front = let h = number_grows xs (front * 10 + (x - 48)) in omega arith

-- one digit more
pub number_more : (word : List ℕ) (i : ℕ) → i < length word → number_from 0 (take (i + 1) word) ≡ number_from 0 (take i word) * 10 + (get_or word i 0 - 48)
number_more word i within =
    let cut : take (i + 1) word ≡ take i word ++ get_or word i 0 ∷ [] = rw add-one (take-suc word i 0 within) in
    ap (number_from 0) cut ∙ number_behind (take i word) (get_or word i 0 ∷ []) 0

-- the number of some of the digits isn't above that of all
pub number_low : (word : List ℕ) (i : ℕ) → number_from 0 (take i word) ≤ number_from 0 word
number_low word i =
    let whole : number_from 0 word ≡ number_from (number_from 0 (take i word)) (drop i word) =
    ap (number_from 0) (sym (take-append-drop i word)) ∙ number_behind (take i word) (drop i word) 0 in
    rw whole (number_grows (drop i word) (number_from 0 (take i word)))

-- one digit more is a digit
pub digits_more : (word : List ℕ) (i : ℕ) → i < length word → list_all is_digit (take i word) ≡ true
    → is_digit (get_or word i 0) ≡ true → list_all is_digit (take (i + 1) word) ≡ true
digits_more word i within all one =
    let cut : take (i + 1) word ≡ take i word ++ get_or word i 0 ∷ [] = rw add-one (take-suc word i 0 within) in
    ap (list_all is_digit) cut ∙ (list_all-append is_digit (take i word) (get_or word i 0 ∷ []) ∙ rw (all, one) refl)

-- the parts of the form of a number
pub numeral_parts : (word : List ℕ) → is_numeral word ≡ true → (1 ≤ length word) × (length word ≤ 20) × (list_all is_digit word ≡ true)
numeral_parts word e =
    let all : (nat_le 1 (length word) && nat_le (length word) 20) && list_all is_digit word ≡ true = e in
    let one = and_parts (nat_le 1 (length word) && nat_le (length word) 20) (list_all is_digit word) all in
    let two = and_parts (nat_le 1 (length word)) (nat_le (length word) 20) one.0 in
    let low : nat_le 1 (length word) ≡ true = two.0 in
    let high : nat_le (length word) 20 ≡ true = two.1 in
    (grind (arith, nat_tests), grind (arith, nat_tests), one.1)

-- a word of another length, or with a byte that is no digit, is no number
pub no_length : (word : List ℕ) → (1 ≤ length word → length word ≤ 20 → ⊥) → (limit number : ℕ) → IsBelow limit word number → ⊥
no_length word none limit number h = let p = numeral_parts word h.form in none p.0 p.1

pub no_digit : (word : List ℕ) (i : ℕ) → i < length word → is_digit (get_or word i 0) ≡ false → (limit number : ℕ) → IsBelow limit word number → ⊥
no_digit word i within off limit number h =
    let p = numeral_parts word h.form in
    false≢true (sym (list_all_at is_digit word i 0 within off) ∙ p.2)

-- nor one that grows too great
pub too_great : (word : List ℕ) (i limit number : ℕ) → limit ≤ number_from 0 (take i word) → IsBelow limit word number → ⊥
too_great word i limit number great h = let low = number_low word i in let v = h.value in let b = h.below in absurd (omega arith)

-- all digits were read
pub numeral_whole : (word : List ℕ) (i : ℕ) → length word ≤ i
    → 1 ≤ length word → length word ≤ 20 → list_all is_digit (take i word) ≡ true → is_numeral word ≡ true
numeral_whole word i over some few all =
    let whole : list_all is_digit word ≡ true = ap (list_all is_digit) (sym (take_all i word over)) ∙ all in
    let low : nat_le 1 (length word) ≡ true = grind (arith, nat_tests) in
    let high : nat_le (length word) 20 ≡ true = grind (arith, nat_tests) in
    rw (low, high, whole) refl
