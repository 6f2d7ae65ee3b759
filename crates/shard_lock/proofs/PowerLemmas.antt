-- So many numbers, the lowest first, of which the powers of two add up to one less than a power: they count from 0.
use Rattle.std.proofs.Common.{ℕ, zero, suc, ◌+◌, ◌-◌, ◌^◌, ◌≡◌, ◌≤◌, ◌<◌, List, [], ◌∷◌, length, map, sum_by, Some, slice_get, refl, sym, ap, ◌∙◌, arith}
use Rattle.std.proofs.Math.Nat.{two-pow-succ}
use Rattle.std.specs.Prelude.{Option, drop, get_or, is_some, unwrap_or}
use Rattle.std.specs.List.Sorted.{IsNonDecreasingBy}
use Rattle.std.proofs.lemmas.Bool.{false≢true}
use Rattle.std.proofs.lemmas.List.Sorted.{IsNonDecreasingBy-drop}
use Rattle.std.proofs.lemmas.List.{length-map}
use Rattle.std.proofs.lemmas.List.Sums.{sum_by-cons}

-- their powers of two, added up
abbrev powers : List ℕ → ℕ
powers [] = 0
powers (n ∷ ns) = 2 ^ n + powers ns

-- how many are 0
abbrev zeros : List ℕ → ℕ
zeros [] = 0
zeros (zero ∷ ns) = 1 + zeros ns
zeros (suc n ∷ ns) = zeros ns

-- the others, each less by one
abbrev lowered : List ℕ → List ℕ
lowered [] = []
lowered (zero ∷ ns) = lowered ns
lowered (suc n ∷ ns) = n ∷ lowered ns

length_lowered : (ns : List ℕ) → length ns ≡ zeros ns + length (lowered ns)
length_lowered [] = refl
length_lowered (zero ∷ ns) = let h = length_lowered ns in omega (arith, h)
length_lowered (suc n ∷ ns) = let h = length_lowered ns in omega (arith, h)

powers_lowered : (ns : List ℕ) → powers ns ≡ zeros ns + (powers (lowered ns) + powers (lowered ns))
powers_lowered [] = refl
powers_lowered (zero ∷ ns) = let h = powers_lowered ns in omega (arith, h)
powers_lowered (suc n ∷ ns) = let h = powers_lowered ns in let p = two-pow-succ n in omega (arith, h, p)

-- one less than a power, halved: the lowered ones come to one less than the power below, with half of the ones that are left
halves : (k : ℕ) (ns : List ℕ) (ones : ℕ) → powers ns + ones + 1 ≡ 2 ^ suc k
    → (m : ℕ) × (zeros ns + ones ≡ m + m + 1) × (powers (lowered ns) + m + 1 ≡ 2 ^ k)
halves k ns ones h =
    let s = powers_lowered ns in
    let p = two-pow-succ k in (
      2 ^ k - 1 - powers (lowered ns),
      omega (arith, h, s, p),
      omega (arith, h, s, p),
    )

-- it takes k powers of two at least, of which some may be ones, to come to one less than the k-th
fewest : (k : ℕ) (ns : List ℕ) (ones : ℕ) → powers ns + ones + 1 ≡ 2 ^ k → k ≤ length ns + ones
fewest zero ns ones h = omega arith
fewest (suc k) ns ones h =
    let half = halves k ns ones h in
    omega (arith, length_lowered ns, half.1, fewest k (lowered ns) half.0 half.2)

-- where just so many do, one of them is 0, and the others lowered do too
one_zero : (k : ℕ) (ns : List ℕ) → length ns ≡ suc k → powers ns + 1 ≡ 2 ^ suc k
    → (zeros ns ≡ 1) × (length (lowered ns) ≡ k) × (powers (lowered ns) + 1 ≡ 2 ^ k)
one_zero k ns many h =
    let half = halves k ns 0 (omega (arith, h)) in
    let l = length_lowered ns in
    let none : half.0 ≡ 0 = omega (arith, l, many, half.1, fewest k (lowered ns) half.0 half.2) in (
      omega (arith, half.1, none),
      omega (arith, l, many, half.1, none),
      omega (arith, half.2, none),
    )

-- each is at most the next, and the first is at least so much
abbrev Rises : ℕ → List ℕ → Type 0
Rises low [] = Unit {0}
Rises low (n ∷ ns) = (low ≤ n) × Rises n ns

-- of numbers above 0 none is 0
no_zero : (low : ℕ) (ns : List ℕ) → Rises (suc low) ns → zeros ns ≡ 0
no_zero low [] up = refl
no_zero low (zero ∷ ns) up = absurd (let h = up.0 in omega (arith, h))
no_zero low (suc n ∷ ns) up = no_zero n ns up.1

-- numbers of which none is 0 are those that are lowered, raised again
raised : (ns : List ℕ) → zeros ns ≡ 0 → map (λ n. suc n) (lowered ns) ≡ ns
raised [] none = refl
raised (zero ∷ ns) none = absurd (omega (arith, none))
raised (suc n ∷ ns) none = ap (λ (l : List ℕ). suc n ∷ l) (raised ns none)

-- and they still rise
lower : (low under : ℕ) (ns : List ℕ) → Rises low ns → zeros ns ≡ 0 → under ≤ low - 1 → Rises under (lowered ns)
lower low under [] up none less = tt
lower low under (zero ∷ ns) up none less = absurd (omega (arith, none))
lower low under (suc n ∷ ns) up none less = (let h = up.0 in omega (arith, h, less), lower (suc n) n ns up.1 none (omega arith))

-- so many numbers from this one on
abbrev from : ℕ → ℕ → List ℕ
from start zero = []
from start (suc k) = start ∷ from (suc start) k

raised_from : (k start : ℕ) → map (λ n. suc n) (from start k) ≡ from (suc start) k
raised_from zero start = refl
raised_from (suc k) start = ap (λ (l : List ℕ). suc start ∷ l) (raised_from k (suc start))

-- they count from 0
counts : (k : ℕ) (ns : List ℕ) → length ns ≡ k → powers ns + 1 ≡ 2 ^ k → Rises 0 ns → ns ≡ from 0 k
counts zero [] many h up = refl
counts zero (n ∷ ns) many h up = absurd (omega (arith, many))
counts (suc k) [] many h up = absurd (omega (arith, many))
counts (suc k) (zero ∷ ns) many h up =
    let one = one_zero k (zero ∷ ns) many h in
    let none : zeros ns ≡ 0 = let z = one.0 in omega (arith, z) in
    let is = counts k (lowered ns) one.1 one.2 (lower 0 0 ns up.1 none (omega arith)) in
    ap (λ (l : List ℕ). 0 ∷ l) (sym (raised ns none) ∙ ap (λ (l : List ℕ). map (λ n. suc n) l) is ∙ raised_from k 0)
counts (suc k) (suc n ∷ ns) many h up =
    let one = one_zero k (suc n ∷ ns) many h in
    let none : zeros ns ≡ 0 = no_zero n ns up.1 in
    absurd (let z = one.0 in omega (arith, z, none))

module _ {X : Type 0} (number : X → ℕ) where
  powers_of : (xs : List X) → sum_by (λ x. 2 ^ number x) xs ≡ powers (map number xs)
  powers_of [] = refl
  powers_of (x ∷ xs) = sum_by-cons (λ x. 2 ^ number x) x xs ∙ ap (λ (n : ℕ). 2 ^ number x + n) (powers_of xs)

  rises : (low : ℕ) (xs : List X) → ((d : X) → 0 < length xs → low ≤ number (get_or xs 0 d)) → IsNonDecreasingBy number xs → Rises low (map number xs)
  rises low [] least up = tt
  rises low (x ∷ xs) least up = (
    least x (omega arith),
    rises (number x) xs (λ d some. up 0 1 d (omega arith) (omega (arith, some))) (IsNonDecreasingBy-drop number 1 (x ∷ xs) up),
  )

  same : (one other : X) → Some one ≡ Some other → one ≡ other
  same one other e = ap (λ (o : Option X). unwrap_or o one) e

  at_from : (xs : List X) (start k : ℕ) → map number xs ≡ from start k → (place : ℕ) (x : X) → slice_get xs place ≡ Some x → number x ≡ start + place
  at_from [] start k is place x at = absurd (false≢true (ap (λ (o : Option X). is_some o) at))
  at_from (y ∷ ys) start zero is place x at = absurd (let h = ap (λ (l : List ℕ). length l) is in omega (arith, h))
  at_from (y ∷ ys) start (suc k) is zero x at =
      let h : number y ≡ start = ap (λ (l : List ℕ). get_or l 0 0) is in
      let e = ap number (same y x at) in omega (arith, h, e)
  at_from (y ∷ ys) start (suc k) is (suc place) x at =
      let h = at_from ys (suc start) k (ap (λ (l : List ℕ). drop 1 l) is) place x at in
      omega (arith, h)

  -- so many elements, the one with the lowest number first, of which the powers of two add up to one less than a power, have their places for their numbers
  pub are_placed : (xs : List X) → sum_by (λ x. 2 ^ number x) xs + 1 ≡ 2 ^ length xs → IsNonDecreasingBy number xs
      → (place : ℕ) (x : X) → slice_get xs place ≡ Some x → number x ≡ place
  are_placed xs h up place x at =
      let sum = powers_of xs in
      let many : length (map number xs) ≡ length xs = length-map xs number in
      let is = counts (length xs) (map number xs) many (omega (arith, h, sum)) (rises 0 xs (λ d some. omega arith) up) in
      let there = at_from xs 0 (length xs) is place x at in omega (arith, there)
