use Rattle.std.specs.Prelude.{ℕ, ℤ, pos, negsuc, suc, ◌+◌, ◌-◌, ◌*◌, ◌%◌, ◌^◌, Bool, false, ◌==◌, ◌≡◌, ◌<◌, decimal, ◌&&◌, not, nat_le}
use Rattle.std.specs.Prelude.{nat_lt, if◌then◌else◌, List, [], ◌∷◌, Option, Some, None, option_map}
use Rattle.std.specs.List.{list_all}

-- whether a byte is a decimal digit
abbrev pub is_digit : ℕ → Bool
is_digit byte = nat_le 48 byte && nat_le byte 57

-- the number that digits stand for, after a number in front of them
abbrev pub number_from : ℕ → List ℕ → ℕ
number_from front [] = front
number_from front (digit ∷ digits) = number_from (front * 10 + (digit - 48)) digits

-- whether a text is digits, at least one, and no 0 in front of others
abbrev pub is_number : List ℕ → Bool
is_number [] = false
is_number (digit ∷ []) = is_digit digit
is_number (digit ∷ next ∷ digits) =
    is_digit digit && not (digit == 48) && list_all is_digit (next ∷ digits)

-- the number below 2^64 that a text is, written without leading zeros
unfoldable pub number_in : List ℕ → Option ℕ
number_in text =
    if is_number text && nat_lt (number_from 0 text) (2 ^ 64) then Some (number_from 0 text) else None

-- a number moved up, wrapping at 2^64, or down, stopping at 0
abbrev pub moved_by : ℤ → ℕ → ℕ
moved_by (pos by) n = (n + by) % 2 ^ 64
moved_by (negsuc by) n = n - suc by

-- the number in a text, moved; none where the text is no number
unfoldable pub shifted : List ℕ → ℤ → Option ℕ
shifted text by = option_map (moved_by by) (number_in text)

-- a text of a number is its decimal, and the decimal of each number below 2^64 is such a text
pub record NumbersAreDecimal : Type 0 where
  pub read : (n : ℕ) → n < 2 ^ 64 → number_in (decimal n) ≡ Some n
  pub written : (text : List ℕ) (n : ℕ) → number_in text ≡ Some n → text ≡ decimal n
  pub small : (text : List ℕ) (n : ℕ) → number_in text ≡ Some n → n < 2 ^ 64
