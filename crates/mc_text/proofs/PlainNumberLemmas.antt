-- The number that bytes are, as a relation and as a function.
use Rattle.std.proofs.Common.{ℕ, ◌≡◌, ◌<◌, ◌^◌, Bool, List, Option, Some, None, true, false, refl, arith}
use Rattle.std.specs.Prelude.{◌&&◌, nat_lt, if◌then◌else◌, IfSome, IfNone}
use Rattle.std.proofs.lemmas.Bool.Decides.{nat_tests}
use Rattle.rows_model.specs.Shift.{number_from}
use Rattle.mc_text.specs.Words.{is_numeral, IsNumber}
use Rattle.mc_text.specs.PlainNumbers.{plain_number}

-- where both tests pass, or one doesn't
number_where : (form : Bool) (n : ℕ) → form ≡ true → n < 2 ^ 64 → Some n ≡ if form && nat_lt n (2 ^ 64) then Some n else None
number_where form n is below = grind (arith, nat_tests, is, below)

none_where : (form : Bool) (n : ℕ) → (form ≡ true → n < 2 ^ 64 → ⊥) → None ≡ if form && nat_lt n (2 ^ 64) then Some n else None
none_where true n none = grind (arith, nat_tests, none refl)
none_where false n none = refl

pub plain_number_is : (bytes : List ℕ) (found : Option ℕ) → IfSome found (λ number. IsNumber bytes number)
    → IfNone found ((number : ℕ) → IsNumber bytes number → ⊥) → found ≡ plain_number bytes
plain_number_is bytes (Some number) h none = rw h.value (number_where (is_numeral bytes) (number_from 0 bytes) h.form (rw h.value at h.below))
plain_number_is bytes None h none =
    none_where (is_numeral bytes) (number_from 0 bytes) (λ form below. none (number_from 0 bytes) (record { form = form; value = refl; below = below }))
