-- The decimals of numbers of one digit and of two.
use Rattle.std.proofs.Common.{ℕ, ◌+◌, ◌/◌, ◌%◌, ◌≡◌, ◌<◌, ◌≤◌, List, [], ◌∷◌, ◌++◌, decimal, arith, ap, ◌∙◌}
use Rattle.std.proofs.lemmas.Fmt.{decimal_digit, decimal_step}

pub one_digit : (number : ℕ) → number < 10 → decimal number ≡ (48 + number) ∷ []
one_digit number small = decimal_digit number small

pub two_digits : (number : ℕ) → 10 ≤ number → number < 100 → decimal number ≡ (48 + number / 10) ∷ (48 + number % 10) ∷ []
two_digits number low high =
    decimal_step number low (omega arith)
    ∙ ap (λ (front : List ℕ). front ++ ((48 + number % 10) ∷ [])) (decimal_digit (number / 10) (omega arith))
