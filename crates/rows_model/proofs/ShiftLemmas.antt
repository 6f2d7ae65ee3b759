-- Decimal texts and the numbers in them.
use Rattle.std.proofs.Common.{ℕ, zero, suc, ◌≡◌, ◌≢◌, ◌<◌, ◌≤◌, ◌^◌, Bool, true, false, List, [], ◌∷◌, length, get_or, decimal, Some, None}
use Rattle.std.proofs.Common.{Result, Ok, Err, refl, sym, ap, ◌∙◌, arith, rules, tests}
use Rattle.std.specs.List.{list_all}
use Rattle.std.specs.Prelude.{nat_lt, if◌then◌else◌, ◌&&◌}
use Rattle.std.specs.Result.{result_ok}
use Rattle.std.specs.Str.{IsUtf8}
use Rattle.std.specs.Str.Parse.{ParsesUnsigned}
use borrow.Author.Tests.{ltb-true}
use Rattle.std.proofs.lemmas.Bool.{and_parts, and_from, false≢true}
use Rattle.std.proofs.lemmas.Bool.Decides.{nat_tests}
use Rattle.std.proofs.lemmas.Str.{IsUtf8-from_ascii}
use Rattle.std.proofs.lemmas.Str.Parse.{IsNumeralModel, numerals_by_fold, parse_plain, digit_at}
use Rattle.std.proofs.lemmas.Fmt.{IsAscii-from_digits, digits_decimal, digits_value-decimal, decimal-digits_value, decimal_nonempty}
use Rattle.std.proofs.lemmas.Fmt.{first_decimal, decimal_digit}
use Rattle.rows_model.specs.Shift.{is_digit, number_from, is_number, number_in, NumbersAreDecimal}

abbrev all_digits : List ℕ → Bool
all_digits text = list_all is_digit text

own : IsNumeralModel (λ ds. all_digits ds ≡ true) (number_from 0)
own = numerals_by_fold _ (search rules) number_from (search rules)

-- a decimal is digits
pub decimal_digits : (n : ℕ) → n < 2 ^ 64 → all_digits (decimal n) ≡ true
decimal_digits n small = digits_decimal own n small

-- the number in a text, spelled out
pub number_in_is : (text : List ℕ) → number_in text ≡ (if is_number text && nat_lt (number_from 0 text) (2 ^ 64) then Some (number_from 0 text) else None)
unfolding number_in
number_in_is text = refl

-- a text that is written as no number holds none
none_from : (text : List ℕ) → is_number text ≡ false → number_in text ≡ None
none_from text e = rw (number_in_is text, e) refl

pub no_text : (text : List ℕ) → length text < 1 → number_in text ≡ None
no_text [] l = none_from [] refl
no_text (c ∷ cs) l = absurd (omega arith)

-- nor does one that begins with no digit
pub no_digit : (text : List ℕ) → 1 ≤ length text → is_digit (get_or text 0 0) ≡ false → number_in text ≡ None
no_digit [] l e = absurd (omega arith)
no_digit (c ∷ []) l e = none_from (c ∷ []) e
no_digit (c ∷ d ∷ cs) l e = none_from (c ∷ d ∷ cs) (rw e refl)

-- nor one of several bytes that begins below 1
pub low_first : (text : List ℕ) → 2 ≤ length text → get_or text 0 0 < 49 → number_in text ≡ None
low_first [] l low = absurd (omega arith)
low_first (c ∷ []) l low = absurd (omega arith)
low_first (c ∷ d ∷ cs) l low = none_from (c ∷ d ∷ cs) (grind (arith, nat_tests))

-- a 0 alone is a number
pub zero_alone : (text : List ℕ) → length text < 2 → 1 ≤ length text → get_or text 0 0 ≡ 48 → number_in text ≡ Some 0
zero_alone [] l m e = absurd (omega arith)
zero_alone (c ∷ []) l m e = rw (number_in_is (c ∷ []), e) refl
zero_alone (c ∷ d ∷ cs) l m e = absurd (omega arith)

-- a text that begins with one of 1 to 9 is written as a number where all are digits
plain : (text : List ℕ) → 1 ≤ length text → 49 ≤ get_or text 0 0 → get_or text 0 0 ≤ 57 → is_number text ≡ all_digits text
plain [] l low high = absurd (omega arith)
plain (c ∷ []) l low high = grind (arith, nat_tests)
plain (c ∷ d ∷ cs) l low high = grind (arith, nat_tests)

-- such a text of digits holds the number that they stand for
some_from : (text : List ℕ) → 1 ≤ length text → 49 ≤ get_or text 0 0
    → get_or text 0 0 ≤ 57 → all_digits text ≡ true → number_from 0 text < 2 ^ 64 → number_in text ≡ Some (number_from 0 text)
some_from text some low high digits small =
    let below : nat_lt (number_from 0 text) (2 ^ 64) ≡ true = search (rules, tests) in
    let both : (is_number text && nat_lt (number_from 0 text) (2 ^ 64)) ≡ true = and_from _ _ (plain text some low high ∙ digits) below in
    number_in_is text ∙ ap (λ (b : Bool). if b then Some (number_from 0 text) else None) both

nothing_from : (b : Bool) (n : ℕ) → (b ≡ true → ⊥) → (if b then Some n else None) ≡ None
nothing_from true n never = absurd (never refl)
nothing_from false n never = refl

nothing_by : (text : List ℕ) → 1 ≤ length text → 49 ≤ get_or text 0 0
    → get_or text 0 0 ≤ 57 → (all_digits text ≡ true → number_from 0 text < 2 ^ 64 → ⊥) → number_in text ≡ None
nothing_by text some low high never =
    number_in_is text
    ∙ nothing_from _ (number_from 0 text) (λ e.
    let parts = and_parts (is_number text) (nat_lt (number_from 0 text) (2 ^ 64)) e in
    let below : number_from 0 text < 2 ^ 64 = ltb-true _ _ parts.1 in
    never (sym (plain text some low high) ∙ parts.0) below)

-- what `parse` answers to such a text
pub number_parsed : {E : Type 0} (text : List ℕ) (r : Result ℕ E)
    → ParsesUnsigned 64 10 text r → 1 ≤ length text → 49 ≤ get_or text 0 0 → get_or text 0 0 ≤ 57 → result_ok r ≡ number_in text
number_parsed {E} text (Ok n) h some low high =
    let ne : get_or text 0 0 ≢ 43 = omega arith in
    let f = parse_plain own {E = E} 64 text (Ok n) h ne in
    ap (λ (k : ℕ). Some k) f.1 ∙ sym (some_from text some low high f.0.0 f.0.2)
number_parsed {E} text (Err e) h some low high =
    let ne : get_or text 0 0 ≢ 43 = omega arith in
    let f = parse_plain own {E = E} 64 text (Err e) h ne in
    sym (nothing_by text some low high (λ digits below. f (digits, omega arith, below)))

-- a text that isn't UTF-8 is no number
pub no_utf8 : (text : List ℕ) → 1 ≤ length text → 49 ≤ get_or text 0 0 → get_or text 0 0 ≤ 57 → (IsUtf8 text → ⊥) → number_in text ≡ None
no_utf8 text some low high none =
    nothing_by text some low high (λ digits below. none (IsUtf8-from_ascii text (IsAscii-from_digits text (own.to text digits))))

-- the decimal of a number is read as that number
pub number_in-decimal : (n : ℕ) → n < 2 ^ 64 → number_in (decimal n) ≡ Some n
number_in-decimal zero small =
    let zeros : decimal 0 ≡ 48 ∷ [] = decimal_digit 0 (omega arith) in
    rw zeros (zero_alone (48 ∷ []) (omega arith) (omega arith) refl)
number_in-decimal (suc n) small =
    let digits : all_digits (decimal (suc n)) ≡ true = digits_decimal own (suc n) small in
    let value : number_from 0 (decimal (suc n)) ≡ suc n = digits_value-decimal own (suc n) small in
    let some : 0 < length (decimal (suc n)) = decimal_nonempty (suc n) small in
    let first : 48 < get_or (decimal (suc n)) 0 0 = first_decimal (suc n) (omega arith) small in
    let high = digit_at (decimal (suc n)) 0 (own.to (decimal (suc n)) digits) some in
    let found : number_in (decimal (suc n)) ≡ Some (number_from 0 (decimal (suc n))) =
    some_from (decimal (suc n)) (omega arith) (omega arith) high.1 digits (omega arith) in
    found ∙ ap (λ (k : ℕ). Some k) value

-- what a test lets through has passed it
pub some_parts : (b : Bool) (v n : ℕ) → (if b then Some v else None) ≡ Some n → (b ≡ true) × (v ≡ n)
some_parts true v n e = (refl, cc)
some_parts false v n e = absurd cc

-- what is written as a number is digits, with no 0 in front of others
record IsPlain (text : List ℕ) : Type 0 where
  digits : all_digits text ≡ true
  some : 0 < length text
  alone : get_or text 0 0 ≡ 48 → length text ≡ 1

IsPlain-from_number : (text : List ℕ) → is_number text ≡ true → IsPlain text
IsPlain-from_number [] e = absurd (false≢true e)
IsPlain-from_number (c ∷ []) e = record { digits = rw e refl; some = omega arith; alone = λ _. refl }
IsPlain-from_number (c ∷ d ∷ cs) e = record {
  digits = grind (arith, nat_tests);
  some = omega arith;
  alone = λ z. absurd (false≢true (rw z at e));
}

-- a text in which a number is read is the decimal of that number
pub number_in-written : (text : List ℕ) (n : ℕ) → number_in text ≡ Some n → (text ≡ decimal n) × (n < 2 ^ 64)
number_in-written text n e =
    let parts = some_parts (is_number text && nat_lt (number_from 0 text) (2 ^ 64)) (number_from 0 text) n (sym (number_in_is text) ∙ e) in
    let tests_hold = and_parts (is_number text) (nat_lt (number_from 0 text) (2 ^ 64)) parts.0 in
    let below : number_from 0 text < 2 ^ 64 = ltb-true _ _ tests_hold.1 in
    let h = IsPlain-from_number text tests_hold.0 in
    let back : decimal (number_from 0 text) ≡ text = decimal-digits_value own text h.digits h.some h.alone below in
    (sym back ∙ ap decimal parts.1, omega (arith, parts.1))

pub numbers_are_decimal_is : NumbersAreDecimal
numbers_are_decimal_is = record {
  read = number_in-decimal;
  written = λ text n e. (number_in-written text n e).0;
  small = λ text n e. (number_in-written text n e).1;
}
