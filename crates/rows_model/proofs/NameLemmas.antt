-- Names, and their place at the front of 40 bytes.
use Rattle.std.proofs.Common.{ℕ, ◌+◌, ◌-◌, ◌<◌, ◌≤◌, ◌^◌, ◌≡◌, List, ◌∷◌, ◌++◌, length, take, drop, replicate, decimal, All, arith, ap, ◌∙◌}
use Rattle.std.proofs.Common.{add-one, take_at, drop_at, length-append}
use Rattle.std.proofs.lemmas.List.{drop-replicate, length-replicate}
use Rattle.std.proofs.lemmas.List.Elements.{All-cons, All-from_get_or}
use Rattle.std.specs.Str.Parse.{AllDigits}
use Rattle.std.proofs.lemmas.Str.Parse.{digit_at, numerals_by_value, tells_digits}
use Rattle.std.proofs.lemmas.Fmt.{digits_decimal, length-decimal-le}
use Rattle.rows_model.specs.Name.{IsName, IsNameByte, IsPaddedName}

-- a name that is written over the front of 40 zeros
pub filled_is : (text front zeros : List ℕ) → IsName text → front ≡ text
    → zeros ≡ replicate 40 0 → IsPaddedName (length text) (front ++ drop (length text) zeros)
filled_is text front zeros name e z =
    let n : length front ≡ length text = ap length e in
    let rest : drop (length text) zeros ≡ replicate (40 - length text) 0 =
    ap (λ (xs : List ℕ). drop (length text) xs) z ∙ drop-replicate (length text) 40 0 in
    let short : length text ≤ 40 = name.short in
    let r : length (drop (length text) zeros) ≡ 40 - length text =
    ap length rest ∙ length-replicate (40 - length text) 0 in
    record {
      full = omega (arith, length-append front (drop (length text) zeros));
      fits = short;
      zeros = drop_at front (drop (length text) zeros) (length text) n ∙ rest;
      name = rw (take_at front (drop (length text) zeros) (length text) n, e) name;
    }

-- a printable byte and a number are a name
pub IsName-numbered : (byte n : ℕ) → IsNameByte byte → n < 2 ^ 64 → IsName (byte ∷ decimal n)
IsName-numbered byte n printable small =
    let all : AllDigits 10 (decimal n) = digits_decimal (numerals_by_value (AllDigits 10) tells_digits) n small in
    let digits : All IsNameByte (decimal n) =
    All-from_get_or IsNameByte (decimal n) 0 (λ i l. let d = digit_at (decimal n) i all l in (omega (arith, d.0), omega (arith, d.1))) in
    let short : length (decimal n) ≤ 20 = length-decimal-le 20 n (omega arith) (omega arith) small in
    record {
      some = omega arith;
      short = omega arith;
      printable = All-cons IsNameByte byte (decimal n) printable digits;
    }

-- the same, as the front of a longer text
pub IsName-front : (byte n : ℕ) (digits front rest : List ℕ) → IsNameByte byte → n < 2 ^ 64
    → digits ≡ decimal n → front ≡ digits → IsName (take (length digits + 1) (byte ∷ (front ++ rest)))
IsName-front byte n digits front rest printable small d f =
    let whole : take (length digits + 1) (byte ∷ (front ++ rest)) ≡ byte ∷ decimal n =
    rw add-one (ap (λ (xs : List ℕ). byte ∷ xs) (take_at front rest (length digits) (ap length f) ∙ (f ∙ d))) in
    rw whole (IsName-numbered byte n printable small)
