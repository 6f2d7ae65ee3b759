-- The value after a number of commits, by the versions of a key.
use Rattle.std.proofs.Common.{◌≡◌, ℕ, zero, suc, ◌+◌, ◌-◌, ◌<◌, ◌≤◌, ◌⊎◌, Bool, true, false, cond, List, [], ◌∷◌, ◌++◌, length, get_or}
use Rattle.std.proofs.Common.{Option, Some, None, refl, sym, ap, ◌∙◌, arith, ⊎_elim, All}
use Rattle.std.specs.Prelude.{nat_le}
use Rattle.std.specs.Option.{option_or}
use Rattle.std.proofs.lemmas.Bool.{cases_lt}
use Rattle.std.proofs.lemmas.Bool.Decides.{nat_tests}
use Rattle.std.proofs.lemmas.List.Elements.{All-head, All-tail, All-weaker, All-push, All-nil, All-get_or}
use Rattle.std.proofs.lemmas.List.Sorted.{IsNonDecreasingBy-push, IsNonDecreasingBy-short}
use Rattle.std.specs.List.Sorted.{IsPartitionPoint}
use Rattle.run_audit.specs.declared.answers.Version.{Version}
use Rattle.run_audit.specs.Answers.{version, value_at, AreVersions}

pub within : (a n : ℕ) → a ≤ n → nat_le a n ≡ true
within a n h = grind (arith, nat_tests)

past : (a n : ℕ) → n < a → nat_le a n ≡ false
past a n h = grind (arith, nat_tests)

-- with one version more
or-some : {X : Type 0} (b : Bool) (o : Option X) (x y : X) → option_or (cond b (Some x) o) (Some y) ≡ cond b (Some x) (option_or o (Some y))
or-some true o x y = refl
or-some false o x y = refl

one_more : {X : Type 0} (a b : Bool) (o : Option X) (x y : X)
    → cond a (option_or (cond b (Some x) o) (Some y)) (cond b (Some x) o) ≡ cond b (Some x) (cond a (option_or o (Some y)) o)
one_more true b o x y = or-some b o x y
one_more false b o x y = refl

pub value_at-push : (n : ℕ) (versions : List Version) (last : Version)
    → value_at n (versions ++ last ∷ []) ≡ cond (nat_le last.from n) (Some last.value) (value_at n versions)
value_at-push n [] last = refl
value_at-push n (one ∷ later) last =
    ap (λ o. cond (nat_le one.from n) (option_or o (Some one.value)) o) (value_at-push n later last)
    ∙ one_more (nat_le one.from n) (nat_le last.from n) (value_at n later) last.value one.value

-- after more commits than the last version is from
pub value_at-later : (count n : ℕ) (versions : List Version)
    → All (λ one. one.from ≤ count) versions → count ≤ n → value_at n versions ≡ value_at count versions
value_at-later count n [] few le = refl
value_at-later count n (one ∷ later) few le =
    let here : one.from ≤ count = All-head (λ v. v.from ≤ count) one later few in
    rw (
      within one.from n (omega (arith, here)),
      within one.from count here,
      value_at-later count n later (All-tail (λ v. v.from ≤ count) one later few) le,
    ) refl

-- where each is from more commits on there is no value
pub value_at-none : (n : ℕ) (versions : List Version) (d : Version)
    → ((k : ℕ) → k < length versions → n < (get_or versions k d).from) → value_at n versions ≡ None
value_at-none n [] d above = refl
value_at-none n (one ∷ later) d above =
    rw (past one.from n (above 0 (omega arith)), value_at-none n later d (λ k h. above (suc k) (omega arith))) refl

-- where the first ones are from so many, and the others from more, it is the last of the first
pub value_at-some : (n i : ℕ) (versions : List Version) (d : Version) → i < length versions
    → ((k : ℕ) → k ≤ i → (get_or versions k d).from ≤ n)
    → ((k : ℕ) → i < k → k < length versions → n < (get_or versions k d).from)
    → value_at n versions ≡ Some (get_or versions i d).value
value_at-some n i [] d in' front back = absurd (omega arith)
value_at-some n zero (one ∷ later) d in' front back =
    rw (within one.from n (front 0 (omega arith)), value_at-none n later d (λ k h. back (suc k) (omega arith) (omega arith))) refl
value_at-some n (suc i) (one ∷ later) d in' front back =
    rw (
      within one.from n (front 0 (omega arith)),
      value_at-some n i later d (omega arith) (λ k h. front (suc k) (omega arith)) (λ k low high. back (suc k) (omega arith) (omega arith)),
    ) refl

-- what a binary search finds
abbrev pub IsPoint : ℕ → List Version → ℕ → Type 0
IsPoint n versions i = IsPartitionPoint (λ one. nat_le one.from n ≡ true) (λ one. nat_le one.from n ≡ false) versions i

pub from-within : (a n : ℕ) → nat_le a n ≡ true → a ≤ n
from-within a n h = grind (arith, nat_tests)

from-past : (a n : ℕ) → nat_le a n ≡ false → n < a
from-past a n h = grind (arith, nat_tests)

pub value_at-point_none : (n : ℕ) (versions : List Version) → IsPoint n versions 0 → value_at n versions ≡ None
value_at-point_none n [] point = refl
value_at-point_none n (one ∷ later) point =
    value_at-none n (one ∷ later) one (λ k h. from-past (get_or (one ∷ later) k one).from n (point.1 k one (omega arith) h))

pub value_at-point_some : (n i : ℕ) (versions : List Version) (d : Version) → 0 < i → i ≤ length versions → IsPoint n versions i
    → value_at n versions ≡ Some (get_or versions (i - 1) d).value
value_at-point_some n i versions d some le point =
    value_at-some n (i - 1) versions d (omega arith)
    (λ k h. from-within (get_or versions k d).from n (point.0 k d (omega arith) (omega arith)))
    (λ k low high. from-past (get_or versions k d).from n (point.1 k d (omega arith) high))

-- ---- the versions of a key

-- one that tells the value before any commit
pub versions-first : (value : ℕ → List ℕ) → AreVersions value 0 (version 0 (value 0) ∷ [])
versions-first value = record {
  right = λ n le. (let none : n ≡ 0 = omega arith in rw none refl);
  in_turn = IsNonDecreasingBy-short (λ (one : Version). one.from) (version 0 (value 0) ∷ []) (omega arith);
  few = All-push (λ (one : Version). one.from ≤ 0) [] (version 0 (value 0)) (All-nil (λ (one : Version). one.from ≤ 0)) (omega arith);
}

raised : (count : ℕ) (versions : List Version) → All (λ one. one.from ≤ count) versions → All (λ one. one.from ≤ count + 1) versions
raised count versions few =
    All-weaker (λ (one : Version). one.from ≤ count) (λ (one : Version). one.from ≤ count + 1) (λ one le. omega (arith, le)) versions few

-- one more that tells the value after one more commit
pub versions-push : (old new : ℕ → List ℕ) (count : ℕ) (versions : List Version) → ((n : ℕ) → n ≤ count → new n ≡ old n)
    → AreVersions old count versions → AreVersions new (count + 1) (versions ++ version (count + 1) (new (count + 1)) ∷ [])
versions-push old new count versions same are = record {
  right = λ n le. value_at-push n versions (version (count + 1) (new (count + 1))) ∙ by n le (cases_lt n (count + 1));
  in_turn = IsNonDecreasingBy-push (λ (one : Version). one.from) versions (version (count + 1) (new (count + 1))) are.in_turn
      (λ d some. let le = All-get_or (λ (one : Version). one.from ≤ count) versions (length versions - 1) d (omega arith) are.few in omega (arith, le));
  few = All-push (λ (one : Version). one.from ≤ count + 1) versions (version (count + 1) (new (count + 1))) (raised count versions are.few) (omega arith);
}
  where
    by : (n : ℕ) → n ≤ count + 1 → (n < count + 1) ⊎ (count + 1 ≤ n) → cond (nat_le (count + 1) n) (Some (new (count + 1))) (value_at n versions) ≡ Some (new n)
    by n le = ⊎_elim
        (λ lt. rw (past (count + 1) n lt) (are.right n (omega arith) ∙ ap (λ v. Some v) (sym (same n (omega arith)))))
        (λ ge. let last : n ≡ count + 1 = omega arith in rw (within (count + 1) n ge) (ap (λ m. Some (new m)) (sym last)))

-- the same ones, where one more commit leaves the value
pub versions-stay : (old new : ℕ → List ℕ) (count : ℕ) (versions : List Version) → ((n : ℕ) → n ≤ count → new n ≡ old n)
    → new (count + 1) ≡ old count → AreVersions old count versions → AreVersions new (count + 1) versions
versions-stay old new count versions same last are = record {
  right = λ n le. by n le (cases_lt n (count + 1));
  in_turn = are.in_turn;
  few = raised count versions are.few;
}
  where
    by : (n : ℕ) → n ≤ count + 1 → (n < count + 1) ⊎ (count + 1 ≤ n) → value_at n versions ≡ Some (new n)
    by n le = ⊎_elim
        (λ lt. are.right n (omega arith) ∙ ap (λ v. Some v) (sym (same n (omega arith))))
        (λ ge. let at : count + 1 ≡ n = omega arith in
        value_at-later count n versions are.few (omega arith) ∙ are.right count (omega arith) ∙ ap (λ v. Some v) (sym last) ∙ ap (λ m. Some (new m)) at)
