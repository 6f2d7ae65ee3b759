-- Lists in which one element was replaced, or taken out, or each was changed.
use Rattle.std.proofs.Common.{ℕ, zero, suc, ◌≡◌, ◌≢◌, ◌<◌, ◌≤◌, ◌+◌, Bool, true, List, [], ◌∷◌, map, set, Some, slice_get, refl, ap, subst}
use Rattle.std.proofs.Common.{inl, inr, ◌⊎◌, arith}
use Rattle.std.specs.List.{list_any, remove}
use Rattle.std.proofs.lemmas.Bool.{false≢true}
use Rattle.core_history.proofs.ListLemmas.{or_inl, or_inr, or_elim}

some_same : {X : Type 0} {a b : X} → Some a ≡ Some b → a ≡ b
some_same e = cc

-- what is found in a list in which one was replaced is that one, or was there
pub set-place : {X : Type 0} (xs : List X) (i j : ℕ) (x y : X) → slice_get (set xs i x) j ≡ Some y
    → ((j ≡ i) × (x ≡ y)) ⊎ ((j ≢ i) × (slice_get xs j ≡ Some y))
set-place [] i j x y e = absurd cc
set-place (z ∷ xs) zero zero x y e = inl (refl, some_same e)
set-place (z ∷ xs) zero (suc j) x y e = inr ((λ same. omega (arith, same)), e)
set-place (z ∷ xs) (suc i) zero x y e = inr ((λ same. omega (arith, same)), e)
set-place (z ∷ xs) (suc i) (suc j) x y e =
    elim (set-place xs i j x y e) [
      | inl here ↦ inl (ap suc here.0, here.1)
      | inr there ↦ inr ((λ same. there.0 (omega (arith, same))), there.1)
    ]

-- what is found in a list from which one was taken out was there, at another place
pub record WasAt {X : Type 0} (xs : List X) (i j : ℕ) (y : X) : Type 0 where
  pub place : ℕ
  pub at : slice_get xs place ≡ Some y
  pub is : ((j < i) × (place ≡ j)) ⊎ ((i ≤ j) × (place ≡ j + 1))

pub remove-place : {X : Type 0} (xs : List X) (i j : ℕ) (y : X) → slice_get (remove xs i) j ≡ Some y → WasAt xs i j y
remove-place [] zero j y e = absurd cc
remove-place [] (suc i) j y e = absurd cc
remove-place (z ∷ xs) zero j y e = record { place = suc j; at = e; is = inr (omega arith, omega arith) }
remove-place (z ∷ xs) (suc i) zero y e = record { place = 0; at = e; is = inl (omega arith, refl) }
remove-place (z ∷ xs) (suc i) (suc j) y e =
    let was = remove-place xs i j y e in
    record {
      place = suc was.place;
      at = was.at;
      is = elim was.is [
        | inl front ↦ inl (let a = front.0 in omega (arith, a), ap suc front.1)
        | inr back ↦ inr (let a = back.0 in omega (arith, a), let b = back.1 in omega (arith, b))
      ];
    }

-- such a place is another one, and no lower
pub was-other : {X : Type 0} (xs : List X) (i j : ℕ) (y : X) (was : WasAt xs i j y) → (was.place ≢ i) × (j ≤ was.place)
was-other xs i j y was =
    elim was.is [
      | inl front ↦ ((λ same. let a = front.0 in let b = front.1 in omega (arith, a, b, same)), let b = front.1 in omega (arith, b))
      | inr back ↦ ((λ same. let a = back.0 in let b = back.1 in omega (arith, a, b, same)), let b = back.1 in omega (arith, b))
    ]

pub was-one : {X : Type 0} (xs : List X) (i j k : ℕ) (y z : X) (a : WasAt xs i j y) (b : WasAt xs i k z) → a.place ≡ b.place → j ≡ k
was-one xs i j k y z a b same =
    elim a.is [
      | inl front ↦ elim b.is [
        | inl also ↦ let m = front.1 in let n = also.1 in omega (arith, m, n, same)
        | inr back ↦ let l = front.0 in let m = front.1 in let g = back.0 in let n = back.1 in absurd (omega (arith, l, m, g, n, same))
      ]
      | inr back ↦ elim b.is [
        | inl front ↦ let l = front.0 in let m = front.1 in let g = back.0 in let n = back.1 in absurd (omega (arith, l, m, g, n, same))
        | inr also ↦ let m = back.1 in let n = also.1 in omega (arith, m, n, same)
      ]
    ]

-- a list in which one was replaced passes a test that it passed, where the new one does if the old one did
pub any-set : {X : Type 0} (p : X → Bool) (xs : List X) (i : ℕ) (x y : X) → slice_get xs i ≡ Some y → (p y ≡ true → p x ≡ true)
    → list_any p xs ≡ true → list_any p (set xs i x) ≡ true
any-set p [] i x y at more h = h
any-set p (z ∷ xs) zero x y at more h =
    elim (or_elim (p z) (list_any p xs) h) [
      | inl here ↦ or_inl (p x) (list_any p xs) (more (subst (λ v. p v ≡ true) (some_same at) here))
      | inr there ↦ or_inr (p x) (list_any p xs) there
    ]
any-set p (z ∷ xs) (suc i) x y at more h =
    elim (or_elim (p z) (list_any p xs) h) [
      | inl here ↦ or_inl (p z) (list_any p (set xs i x)) here
      | inr there ↦ or_inr (p z) (list_any p (set xs i x)) (any-set p xs i x y at more there)
    ]

-- a list in which each was changed passes a test, where each that passed another passes it
pub any-changed : {X : Type 0} (p q : X → Bool) (f : X → X) (xs : List X) → ((x : X) → p x ≡ true → q (f x) ≡ true)
    → list_any p xs ≡ true → list_any q (map f xs) ≡ true
any-changed p q f [] more h = absurd (false≢true h)
any-changed p q f (x ∷ xs) more h =
    elim (or_elim (p x) (list_any p xs) h) [
      | inl here ↦ or_inl (q (f x)) (list_any q (map f xs)) (more x here)
      | inr there ↦ or_inr (q (f x)) (list_any q (map f xs)) (any-changed p q f xs more there)
    ]
