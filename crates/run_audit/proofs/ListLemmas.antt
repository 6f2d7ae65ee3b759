-- Tests, and places in lists.
use Rattle.std.proofs.Common.{◌≡◌, ℕ, zero, suc, ◌+◌, ◌<◌, ◌||◌, ◌&&◌, ◌⊎◌, inl, inr, Bool, true, false, List, [], ◌∷◌, ◌++◌, length, take}
use Rattle.std.proofs.Common.{reverse, get_or, slice_get, Some, refl, ap, ◌∙◌}
use Rattle.std.specs.List.{list_any}
use Rattle.std.proofs.lemmas.List.{take_more, reverse-append}

pub clash : {P : Type 0} {b : Bool} → b ≡ true → b ≡ false → P
clash at apart = cc

pub and_comm : (a b : Bool) → (a && b) ≡ (b && a)
and_comm true true = refl
and_comm true false = refl
and_comm false true = refl
and_comm false false = refl

pub or_comm : (a b : Bool) → (a || b) ≡ (b || a)
or_comm true true = refl
or_comm true false = refl
or_comm false true = refl
or_comm false false = refl

pub and_none : (a : Bool) → (a && false) ≡ false
and_none true = refl
and_none false = refl

pub or_true : (b : Bool) → (b || true) ≡ true
or_true true = refl
or_true false = refl

pub and_or : (a b c : Bool) → (a && (b || c)) ≡ ((a && b) || (a && c))
and_or true b c = refl
and_or false b c = refl

pub and_elim : (a b : Bool) → (a && b) ≡ true → (a ≡ true) × (b ≡ true)
and_elim true b e = (refl, e)
and_elim false b e = cc

-- the latest first, with one more
pub reverse-more : {X : Type 0} (xs : List X) (i : ℕ) (d : X) → i < length xs → reverse (take (i + 1) xs) ≡ get_or xs i d ∷ reverse (take i xs)
reverse-more xs i d in' = ap reverse (take_more xs i d in') ∙ reverse-append (take i xs) (get_or xs i d ∷ [])

-- a test of some element, in either order
pub any-push : {X : Type 0} (p : X → Bool) (xs : List X) (x : X) → list_any p (xs ++ x ∷ []) ≡ (p x || list_any p xs)
any-push p [] x = refl
any-push p (y ∷ ys) x = ap (λ b. p y || b) (any-push p ys x) ∙ swap (p y) (p x) (list_any p ys)
  where
    swap : (a b c : Bool) → (a || (b || c)) ≡ (b || (a || c))
    swap true true c = refl
    swap true false c = refl
    swap false b c = refl

-- where some element passes, and where one does
pub place-of : {X : Type 0} (p : X → Bool) (xs : List X) → list_any p xs ≡ true → (i : ℕ) × (x : X) × (slice_get xs i ≡ Some x) × (p x ≡ true)
place-of p [] some = cc
place-of p (x ∷ xs) some = by (p x) refl (place-of p xs)
  where
    by : (b : Bool) → p x ≡ b → (list_any p xs ≡ true → (i : ℕ) × (y : _) × (slice_get xs i ≡ Some y) × (p y ≡ true))
        → (i : ℕ) × (y : _) × (slice_get (x ∷ xs) i ≡ Some y) × (p y ≡ true)
    by true passes later = (0, x, refl, passes)
    by false fails later =
        let there : list_any p xs ≡ true = rw fails at some in
        let found = later there in
        (suc found.0, found.1, found.2, found.3)

pub any-at : {X : Type 0} (p : X → Bool) (xs : List X) (i : ℕ) (x : X) → slice_get xs i ≡ Some x → p x ≡ true → list_any p xs ≡ true
any-at p [] i x there passes = cc
any-at p (y ∷ ys) zero x there passes = let same : y ≡ x = cc in rw (ap p same, passes) refl
any-at p (y ∷ ys) (suc i) x there passes = rw (any-at p ys i x there passes) (or_true (p y))

-- what stands in a list with one more: an old one, or the last
pub push-place : {X : Type 0} (xs : List X) (y : X) (i : ℕ) (x : X) → slice_get (xs ++ y ∷ []) i ≡ Some x → (slice_get xs i ≡ Some x) ⊎ (y ≡ x)
push-place [] y zero x there = inr cc
push-place [] y (suc i) x there = cc
push-place (z ∷ xs) y zero x there = inl there
push-place (z ∷ xs) y (suc i) x there = push-place xs y i x there
