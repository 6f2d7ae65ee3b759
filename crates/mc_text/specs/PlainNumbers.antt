-- The number that an item is.
use Rattle.std.specs.Prelude.{ℕ, ◌^◌, ◌&&◌, nat_lt, if◌then◌else◌, List, Option, Some, None}
use Rattle.rows_model.specs.Shift.{number_from}
use Rattle.mc_text.specs.Words.{is_numeral}

-- the number that the bytes are, if they are 1 to 20 digits of one below 2^64; there may be zeros in front
abbrev pub plain_number : List ℕ → Option ℕ
plain_number bytes = if is_numeral bytes && nat_lt (number_from 0 bytes) (2 ^ 64) then Some (number_from 0 bytes) else None
