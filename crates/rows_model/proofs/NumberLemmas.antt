-- The digits of an id, and what parsing them answers.
use Rattle.std.proofs.Common.{ℕ, zero, suc, ◌≡◌, ◌≢◌, ◌<◌, ◌≤◌, ◌^◌, List, [], ◌∷◌, length, get_or, decimal, Option, Some, None}
use Rattle.std.proofs.Common.{MatchOption, IfSome, IfNone, Result, Ok, Err, arith, sym, ◌∙◌, ap}
use Rattle.std.specs.Result.{result_ok}
use Rattle.std.specs.Str.Parse.{AllDigits, ParsesUnsigned, digits_value}
use Rattle.std.specs.Str.{IsUtf8}
use Rattle.std.proofs.lemmas.Str.{IsUtf8-from_ascii}
use Rattle.std.proofs.lemmas.Str.Parse.{IsNumeralModel, numerals_by_value, tells_digits, digit_at, parse_plain}
use Rattle.std.proofs.lemmas.Fmt.{first_decimal, decimal_nonempty, digits_decimal, digits_value-decimal, decimal-digits_value, decimal_digit, IsAscii-decimal}
use Rattle.rows_model.specs.Number.{IsIdText, IsNoIdText}

own : IsNumeralModel (AllDigits 10) (digits_value 10)
own = numerals_by_value (AllDigits 10) tells_digits

-- the digits of an id begin with one of 1 to 9
pub first_of_id : (digits : List ℕ) (id : ℕ) → IsIdText digits id → (1 ≤ length digits) × (49 ≤ get_or digits 0 0) × (get_or digits 0 0 ≤ 57)
first_of_id digits id h =
    let small : id < 2 ^ 64 = omega (arith, h.id_below) in
    let some : 0 < length digits = rw h.written (decimal_nonempty id small) in
    let first : 48 < get_or digits 0 0 = rw h.written (first_decimal id h.id_from small) in
    let all : AllDigits 10 digits = rw h.written (digits_decimal own id small) in
    let place = digit_at digits 0 all some in
    (omega arith, omega arith, place.1)

-- they are text
pub IsUtf8-from_id : (digits : List ℕ) (id : ℕ) → IsIdText digits id → IsUtf8 digits
IsUtf8-from_id digits id h =
    let small : id < 2 ^ 64 = omega (arith, h.id_below) in
    rw h.written (IsUtf8-from_ascii (decimal id) (IsAscii-decimal id small))

-- a number whose digits don't begin with 0 isn't 0
not_zero : (digits : List ℕ) (n : ℕ) → 49 ≤ get_or digits 0 0 → decimal n ≡ digits → 1 ≤ n
not_zero digits zero first e =
    let zeros : decimal 0 ≡ 48 ∷ [] = decimal_digit 0 (omega arith) in
    let same : get_or digits 0 0 ≡ 48 = ap (λ (ds : List ℕ). get_or ds 0 0) (sym e ∙ zeros) in
    absurd (omega arith)
not_zero digits (suc n) first e = omega arith

-- what `parse` answers where the first byte is one of 1 to 9
pub id_parsed : {E : Type 0} (digits : List ℕ) (r : Result ℕ E) → ParsesUnsigned 32 10 digits r
    → 1 ≤ length digits → 49 ≤ get_or digits 0 0 → get_or digits 0 0 ≤ 57 → MatchOption (result_ok r) (IsNoIdText digits) (λ id. IsIdText digits id)
id_parsed {E} digits (Ok n) h some low high =
    let ne : get_or digits 0 0 ≢ 43 = omega arith in
    let f = parse_plain own {E = E} 32 digits (Ok n) h ne in
    let back : decimal (digits_value 10 digits) ≡ digits = decimal-digits_value own digits f.0.0 f.0.1 (λ z. absurd (omega arith)) (omega (arith, f.0.2)) in
    let e : decimal n ≡ digits = ap decimal f.1 ∙ back in
    record { id_from = not_zero digits n low e; id_below = omega (arith, f.0.2, f.1); written = sym e }
id_parsed {E} digits (Err e) h some low high =
    let ne : get_or digits 0 0 ≢ 43 = omega arith in
    let f = parse_plain own {E = E} 32 digits (Err e) h ne in
    λ id w.
    let small : id < 2 ^ 64 = omega (arith, w.id_below) in
    f (rw w.written (digits_decimal own id small), omega arith, rw (w.written, digits_value-decimal own id small) w.id_below)

-- its two halves
pub found_part : (digits : List ℕ) (o : Option ℕ) → MatchOption o (IsNoIdText digits) (λ id. IsIdText digits id) → IfSome o (λ id. IsIdText digits id)
found_part digits (Some id) h = h
found_part digits None h = tt

pub none_part : (digits : List ℕ) (o : Option ℕ) → MatchOption o (IsNoIdText digits) (λ id. IsIdText digits id) → IfNone o (IsNoIdText digits)
none_part digits (Some id) h = tt
none_part digits None h = h
