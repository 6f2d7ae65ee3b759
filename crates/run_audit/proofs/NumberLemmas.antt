-- The number of the last commit that passes a test.
use Rattle.std.proofs.Common.{◌≡◌, ℕ, zero, suc, ◌+◌, ◌<◌, ◌≤◌, ◌||◌, max, Bool, true, false, cond, List, [], ◌∷◌, ◌++◌, length, slice_get}
use Rattle.std.proofs.Common.{Some, refl, ap, ◌∙◌, arith}
use Rattle.sql_keeper.specs.declared.stores.Commit.{Commit}
use Rattle.run_audit.specs.Numbers.{one_further, last_number}

-- behind one commit more
further-some : (passes : Bool) (n : ℕ) → 0 < n → one_further passes n ≡ n + 1
further-some passes zero some = absurd (omega arith)
further-some passes (suc n) some = omega arith

further-zero : (passes : Bool) → one_further passes 0 ≤ 1
further-zero true = omega arith
further-zero false = omega arith

further-cond : (passes here : Bool) (m n : ℕ) → one_further passes (cond here (m + 1) n) ≡ cond here (m + 2) (one_further passes n)
further-cond passes true m n = further-some passes (m + 1) (omega arith) ∙ omega arith
further-cond passes false m n = refl

-- with one commit more at the end
pub last-push : (test : Commit → Bool) (log : List Commit) (commit : Commit)
    → last_number test (log ++ commit ∷ []) ≡ cond (test commit) (length log + 1) (last_number test log)
last-push test [] commit = refl
last-push test (one ∷ log) commit =
    let counts : length log + 2 ≡ length (one ∷ log) + 1 = omega arith in
    ap (one_further (test one)) (last-push test log commit)
    ∙ further-cond (test one) (test commit) (length log) (last_number test log)
    ∙ ap (λ n. cond (test commit) n (last_number test (one ∷ log))) counts

-- where no commit passes
pub last-none : (test : Commit → Bool) (log : List Commit) → ((commit : Commit) → test commit ≡ false) → last_number test log ≡ 0
last-none test [] none = refl
last-none test (commit ∷ log) none = rw (last-none test log none, none commit) refl

-- two tests that agree
pub last-agree : (p q : Commit → Bool) (log : List Commit) → ((commit : Commit) → p commit ≡ q commit) → last_number p log ≡ last_number q log
last-agree p q [] same = refl
last-agree p q (commit ∷ log) same = λ i. one_further (same commit i) (last-agree p q log same i)

-- one of two tests
further-max : (a b : Bool) (m n : ℕ) → one_further (a || b) (max m n) ≡ max (one_further a m) (one_further b n)
further-max true true zero zero = refl
further-max true false zero zero = refl
further-max false true zero zero = refl
further-max false false zero zero = refl
further-max a b zero (suc n) =
    let more = further-some (a || b) (max 0 (suc n)) (omega arith) in
    let few = further-zero a in
    omega (arith, more, few)
further-max a b (suc m) zero =
    let more = further-some (a || b) (max (suc m) 0) (omega arith) in
    let few = further-zero b in
    omega (arith, more, few)
further-max a b (suc m) (suc n) =
    let more = further-some (a || b) (max (suc m) (suc n)) (omega arith) in
    omega (arith, more)

pub last-or : (p q : Commit → Bool) (log : List Commit) → last_number (λ commit. p commit || q commit) log ≡ max (last_number p log) (last_number q log)
last-or p q [] = refl
last-or p q (commit ∷ log) =
    ap (one_further (p commit || q commit)) (last-or p q log) ∙ further-max (p commit) (q commit) (last_number p log) (last_number q log)

-- a commit that passes has no greater number
further-passes : (n : ℕ) → 0 < one_further true n
further-passes zero = omega arith
further-passes (suc n) = omega arith

pub last-above : (test : Commit → Bool) (log : List Commit) (place : ℕ) (commit : Commit)
    → slice_get log place ≡ Some commit → test commit ≡ true → place < last_number test log
last-above test [] place commit there passes = cc
last-above test (one ∷ log) zero commit there passes =
    let same : one ≡ commit = cc in
    rw (ap test same, passes) (further-passes (last_number test log))
last-above test (one ∷ log) (suc place) commit there passes =
    let later = last-above test log place commit there passes in
    let more = further-some (test one) (last_number test log) (omega (arith, later)) in
    omega (arith, more, later)

-- and where some commit passes, the number is that of one
record HasLast (test : Commit → Bool) (log : List Commit) (number : ℕ) : Type 0 where
  place : ℕ
  commit : Commit
  there : slice_get log place ≡ Some commit
  passes : test commit ≡ true
  number_is : number ≡ place + 1

last-at : (test : Commit → Bool) (log : List Commit) → 0 < last_number test log → HasLast test log (last_number test log)
last-at test [] some = absurd (omega arith)
last-at test (one ∷ log) some = by (test one) (last_number test log) refl refl some (last-at test log)
  where
    by : (b : Bool) (n : ℕ) → test one ≡ b → last_number test log ≡ n → 0 < one_further (test one) (last_number test log)
        → (0 < last_number test log → HasLast test log (last_number test log)) → HasLast test (one ∷ log) (one_further (test one) (last_number test log))
    by true zero e f some' later = record { place = 0; commit = one; there = refl; passes = e; number_is = rw (e, f) refl }
    by false zero e f some' later = let none : 0 < 0 = rw (e, f) at some' in absurd (omega (arith, none))
    by b (suc n) e f some' later =
        let positive : 0 < last_number test log = omega (arith, f) in
        let h = later positive in
        let more = further-some (test one) (last_number test log) positive in
        record { place = suc h.place; commit = h.commit; there = h.there; passes = h.passes; number_is = omega (arith, more, h.number_is) }

-- so it is no greater than what is above the place of each that passes
pub last-below : (test : Commit → Bool) (log : List Commit) (bound : ℕ)
    → ((place : ℕ) (commit : Commit) → slice_get log place ≡ Some commit → test commit ≡ true → place < bound)
    → last_number test log ≤ bound
last-below test log bound above = by (last_number test log) refl
  where
    by : (n : ℕ) → last_number test log ≡ n → last_number test log ≤ bound
    by zero e = omega (arith, e)
    by (suc n) e =
        let h = last-at test log (omega (arith, e)) in
        let over = above h.place h.commit h.there h.passes in
        omega (arith, h.number_is, over)
