-- A log and one more commit: the rows after so many of its commits, and which commit stands where.
use Rattle.std.proofs.Common.{ℕ, zero, suc, ◌+◌, ◌≡◌, ◌<◌, ◌≤◌, List, [], ◌∷◌, ◌++◌, length, take, Some, slice_get, refl, ap, ◌⊎◌, inl, inr, ⊎_elim, arith}
use Rattle.rows_model.specs.Rows.{Tables}
use Rattle.sql_keeper.specs.declared.stores.Commit.{Commit}
use Rattle.sql_keeper.specs.Log.{rows_after, state}

take-left : {X : Type 0} (xs ys : List X) (n : ℕ) → n ≤ length xs → take n (xs ++ ys) ≡ take n xs
take-left [] ys zero le = refl
take-left [] ys (suc n) le = absurd (omega arith)
take-left (x ∷ xs) ys zero le = refl
take-left (x ∷ xs) ys (suc n) le = ap (λ l. x ∷ l) (take-left xs ys n (omega arith))

take-whole : {X : Type 0} (xs : List X) → take (length xs) xs ≡ xs
take-whole [] = refl
take-whole (x ∷ xs) = ap (λ l. x ∷ l) (take-whole xs)

-- the rows after no more commits than a log holds are as they were
pub state-more : (opening : Tables) (log more : List Commit) (n : ℕ) → n ≤ length log → state opening (log ++ more) n ≡ state opening log n
state-more opening log more n le = ap (λ l. rows_after opening l) (take-left log more n le)

-- the rows after all the commits
pub state-whole : (opening : Tables) (log : List Commit) → state opening log (length log) ≡ rows_after opening log
state-whole opening log = ap (λ l. rows_after opening l) (take-whole log)

-- what stands at a place stands before the end
pub get-within : {X : Type 0} (xs : List X) (x : X) (i : ℕ) → slice_get xs i ≡ Some x → i < length xs
get-within [] x zero e = absurd cc
get-within [] x (suc i) e = absurd cc
get-within (y ∷ xs) x zero e = omega arith
get-within (y ∷ xs) x (suc i) e = let h = get-within xs x i e in omega (arith, h)

-- what stands at a place after one more stood there before, or is the new one at the end
pub get-pushed : {X : Type 0} (xs : List X) (y x : X) (i : ℕ) → slice_get (xs ++ y ∷ []) i ≡ Some x → (slice_get xs i ≡ Some x) ⊎ ((i ≡ length xs) × (y ≡ x))
get-pushed [] y x zero e = inr (refl, cc)
get-pushed [] y x (suc i) e = absurd cc
get-pushed (z ∷ xs) y x zero e = inl e
get-pushed (z ∷ xs) y x (suc i) e =
    ⊎_elim (λ h. inl h) (λ h. inr (let k = h.0 in omega (arith, k), h.1)) (get-pushed xs y x i e)

pub length-pushed : {X : Type 0} (xs : List X) (y : X) → length (xs ++ y ∷ []) ≡ length xs + 1
length-pushed [] y = refl
length-pushed (x ∷ xs) y = let h = length-pushed xs y in omega (arith, h)
