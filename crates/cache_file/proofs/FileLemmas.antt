-- What the file in memory needs of its lists.
use Rattle.std.proofs.Common.{ℕ, ◌≡◌, List, subst}
use Rattle.std.specs.Prelude.{Contains}

-- a list has a number, where equal ones do
pub contains_same : (xs ys : List ℕ) (m n : ℕ) → xs ≡ ys → m ≡ n → Contains xs m → Contains ys n
contains_same xs ys m n e f h = subst (λ (v : List ℕ). Contains v n) e (subst (λ (k : ℕ). Contains xs k) f h)
