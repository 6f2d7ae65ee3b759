-- A list that rises strictly is the only order of its elements that never falls; and what a table of rows by rowid keeps.
use Rattle.std.proofs.Common.{◌≡◌, inl, inr, ℕ, suc, ◌<◌, ◌≤◌, Bool, true, false, List, [], ◌∷◌, map, length, get_or, refl, sym, ap, ap₂, ◌∙◌, subst, arith, true≢false, IsPermutation, ◌-◌}
use Rattle.std.specs.List.{AllByRecursion}
use Rattle.std.proofs.lemmas.Bool.{cases_lt}
use Rattle.std.proofs.lemmas.List.Elements.{recursion_from_All}
use Rattle.std.proofs.lemmas.List.Sorted.{length_permutation, IsPermutation-sym}
use Rattle.sqlite_trees.specs.Tree.{IsAscending}
use Rattle.sqlite_trees.proofs.ListLemmas.{all-permutation}
use Rattle.sqlite_rules.specs.Lists.{Has}
use Rattle.sqlite_rules.proofs.ListLemmas.{all_has, all_from}

-- the elements of a permutation are there
pub permuted_has : {X : Type 0} (xs ys : List X) (x : X) → IsPermutation xs ys → Has ys x → Has xs x
permuted_has xs ys x same = all_has (Has xs) ys x (all-permutation (Has xs) xs ys same (all_from (Has xs) xs (λ e h. h)))

module _ {X : Type 0} (lt : X → X → Bool) (same_level : (x : X) → lt x x ≡ false) where
  -- what is in a list and isn't its first is behind it
  behind : (y : X) (ys xs : List X) → AllByRecursion (λ z. z ≡ y → ⊥) xs → AllByRecursion (λ z. Has (y ∷ ys) z) xs → AllByRecursion (λ z. Has ys z) xs
  behind y ys [] others all = tt
  behind y ys (z ∷ xs) others all = (elim all.0 [ inl same ↦ absurd (others.0 same) | inr later ↦ later ], behind y ys xs others.1 all.1)

  -- what x stands below isn't y, where x doesn't stand below y
  none_is : (x y : X) (xs : List X) → lt x y ≡ false → AllByRecursion (λ z. lt x z ≡ true) xs → AllByRecursion (λ z. z ≡ y → ⊥) xs
  none_is x y [] h all = tt
  none_is x y (z ∷ xs) h all = (λ same. true≢false (sym all.0 ∙ ap (lt x) same ∙ h), none_is x y xs h all.1)

  pub only_order : (ys xs : List X) → IsAscending (λ x z. lt x z ≡ true) xs → IsAscending (λ y w. lt w y ≡ false) ys → AllByRecursion (λ z. Has ys z) xs
      → (length xs ≤ length ys) × (length xs ≡ length ys → ys ≡ xs)
  only_order [] [] rise level all = (omega arith, λ _. refl)
  only_order [] (x ∷ xs) rise level all = absurd all.0
  only_order (y ∷ ys) [] rise level all = (omega arith, λ e. absurd (omega (arith, e)))
  only_order (y ∷ ys) (x ∷ xs) rise level all = elim all.0 [
    | inl same ↦
        let others = none_is x y xs (subst (λ w. lt x w ≡ false) same (same_level x)) rise.0 in
        let rest = only_order ys xs rise.1 level.1 (behind y ys xs others all.1) in
        (omega (arith, rest.0), λ e. ap₂ ◌∷◌ (sym same) (rest.1 (omega (arith, e))))
    | inr later ↦
        let others = none_is x y xs (all_has (λ w. lt w y ≡ false) ys x level.0 later) rise.0 in
        let rest = only_order ys (x ∷ xs) rise level.1 (later, behind y ys xs others all.1) in
        (omega (arith, rest.0), λ e. absurd (omega (arith, e, rest.0)))
  ]

  -- a permutation that never falls of a list that rises is that list
  pub same_order : (xs ys : List X) → IsAscending (λ x z. lt x z ≡ true) xs → IsAscending (λ y w. lt w y ≡ false) ys → IsPermutation xs ys → ys ≡ xs
  same_order xs ys rise level same =
      (only_order ys xs rise level (all_from (Has ys) xs (λ z h. permuted_has ys xs z (IsPermutation-sym xs ys same) h))).1 (sym (length_permutation xs ys same))

-- a fact of each two places, by recursion
pub ascending_from : {X : Type 0} (R : X → X → Type 0) (xs : List X) → ((i j : ℕ) (d : X) → i < j → j < length xs → R (get_or xs i d) (get_or xs j d)) → IsAscending R xs
ascending_from R [] all = tt
ascending_from R (x ∷ xs) all = (
  recursion_from_All (R x) xs (λ k d low. all 0 (suc k) d (omega arith) (omega arith)),
  ascending_from R xs (λ i j d low high. all (suc i) (suc j) d (omega arith) (omega arith)),
)

-- a relation that holds of what is mapped
pub ascending_map : {X Y : Type 0} (R : Y → Y → Type 0) (f : X → Y) (xs : List X) → IsAscending (λ x z. R (f x) (f z)) xs → IsAscending R (map f xs)
ascending_map R f [] up = tt
ascending_map R f (x ∷ xs) up = (each xs up.0, ascending_map R f xs up.1)
  where
    each : (zs : List _) → AllByRecursion (λ z. R (f x) (f z)) zs → AllByRecursion (R (f x)) (map f zs)
    each [] all = tt
    each (z ∷ zs) all = (all.0, each zs all.1)

-- of a list in order, what holds of the last and of what stands before it holds of all
pub all_to_last : {X : Type 0} (R : X → X → Type 0) (Q : X → Type 0) (xs : List X) (last : X) → ((i j : ℕ) (d : X) → i < j → j < length xs → R (get_or xs i d) (get_or xs j d)) → 0 < length xs
    → ((d : X) → last ≡ get_or xs (length xs - 1) d) → Q last → ((x : X) → R x last → Q x) → (k : ℕ) (d : X) → k < length xs → Q (get_or xs k d)
all_to_last R Q xs last up some is here before k d within = elim (cases_lt k (length xs - 1)) [
  | inl earlier ↦ before (get_or xs k d) (subst (R (get_or xs k d)) (sym (is d)) (up k (length xs - 1) d earlier (omega (arith, some))))
  | inr end ↦
      let same : k ≡ length xs - 1 = omega (arith, end, within) in
      subst Q (is d ∙ ap (λ (i : ℕ). get_or xs i d) (sym same)) here
]
