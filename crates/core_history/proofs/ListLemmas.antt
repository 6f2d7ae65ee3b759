-- Tests, counts and places of lists.
use Rattle.std.proofs.Common.{ℕ, zero, suc, ◌≡◌, ◌+◌, ◌≤◌, Bool, true, false, cond, ◌&&◌, ◌||◌, List, [], ◌∷◌, ◌++◌, length, filter, find}
use Rattle.std.proofs.Common.{count_by, reverse, Some, None, slice_get, refl, sym, ap, subst, ◌∙◌, inl, inr, ◌⊎◌, arith}
use Rattle.std.specs.List.{AllByRecursion, list_any}
use Rattle.std.proofs.lemmas.Bool.{cases_Bool, false≢true}
use Rattle.std.proofs.lemmas.List.Folds.{list_any-append}
use Rattle.std.proofs.lemmas.List.Sorted.{list_any-IsPermutation, IsPermutation-reverse}
use Rattle.std.proofs.lemmas.List.Sums.{sum_by-cons, sum_by-append}

pub choose : {X : Type 0} (P : X → Type 0) (b : Bool) (x y : X) → (b ≡ true → P x) → (b ≡ false → P y) → P (cond b x y)
choose P true x y p q = p refl
choose P false x y p q = q refl

pub or_inl : (a b : Bool) → a ≡ true → (a || b) ≡ true
or_inl true b h = refl
or_inl false b h = absurd (false≢true h)

pub or_inr : (a b : Bool) → b ≡ true → (a || b) ≡ true
or_inr true b h = refl
or_inr false b h = h

pub or_elim : (a b : Bool) → (a || b) ≡ true → (a ≡ true) ⊎ (b ≡ true)
or_elim true b h = inl refl
or_elim false b h = inr h

pub and_elim : (a b : Bool) → (a && b) ≡ true → (a ≡ true) × (b ≡ true)
and_elim true b h = (refl, h)
and_elim false b h = absurd (false≢true h)

pub and_intro : (a b : Bool) → a ≡ true → b ≡ true → (a && b) ≡ true
and_intro true b h k = k
and_intro false b h k = absurd (false≢true h)

pub not_both : {b : Bool} → b ≡ true → b ≡ false → ⊥
not_both h k = false≢true (sym k ∙ h)

pub not_true : (b : Bool) → (b ≡ true → ⊥) → b ≡ false
not_true true h = absurd (h refl)
not_true false h = refl

-- all that holds of each of two lists holds of them together
pub every-append : {X : Type 0} (P : X → Type 0) (xs ys : List X) → AllByRecursion P xs → AllByRecursion P ys → AllByRecursion P (xs ++ ys)
every-append P [] ys h k = k
every-append P (x ∷ xs) ys h k = (h.0, every-append P xs ys h.1 k)

pub every-weaker : {X : Type 0} (P Q : X → Type 0) (xs : List X) → ((x : X) → P x → Q x) → AllByRecursion P xs → AllByRecursion Q xs
every-weaker P Q [] f h = tt
every-weaker P Q (x ∷ xs) f h = (f x h.0, every-weaker P Q xs f h.1)

pub every-filter : {X : Type 0} (P : X → Type 0) (p : X → Bool) (xs : List X) → AllByRecursion P xs → AllByRecursion P (filter p xs)
every-filter P p [] h = tt
every-filter P p (x ∷ xs) h =
    choose (AllByRecursion P) (p x) (x ∷ filter p xs) (filter p xs) (λ e. (h.0, every-filter P p xs h.1)) (λ e. every-filter P p xs h.1)

pub every-any : {X : Type 0} (P : X → Type 0) (p : X → Bool) (xs : List X) → AllByRecursion P xs → list_any p xs ≡ true → (x : X) × P x × (p x ≡ true)
every-any P p [] h e = absurd (false≢true e)
every-any P p (x ∷ xs) h e =
    elim (or_elim (p x) (list_any p xs) e) [
      | inl here ↦ (x, h.0, here)
      | inr there ↦ every-any P p xs h.1 there
    ]

pub any-filter : {X : Type 0} (p q : X → Bool) (xs : List X)
    → AllByRecursion (λ x. p x ≡ true → q x ≡ true) xs → list_any p xs ≡ true → list_any p (filter q xs) ≡ true
any-filter p q [] h e = e
any-filter p q (x ∷ xs) h e =
    elim (or_elim (p x) (list_any p xs) e) [
      | inl here ↦ choose (λ l. list_any p l ≡ true) (q x) (x ∷ filter q xs)
          (filter q xs) (λ _. or_inl (p x) (list_any p (filter q xs)) here) (λ no_q. absurd (not_both (h.0 here) no_q))
      | inr there ↦ choose (λ l. list_any p l ≡ true) (q x) (x ∷ filter q xs)
          (filter q xs) (λ _. or_inr (p x) (list_any p (filter q xs)) (any-filter p q xs h.1 there)) (λ _. any-filter p q xs h.1 there)
    ]

pub any-front : {X : Type 0} (p : X → Bool) (xs ys : List X) → list_any p xs ≡ true → list_any p (xs ++ ys) ≡ true
any-front p xs ys h = list_any-append p xs ys ∙ or_inl (list_any p xs) (list_any p ys) h

pub any-back : {X : Type 0} (p : X → Bool) (xs ys : List X) → list_any p ys ≡ true → list_any p (xs ++ ys) ≡ true
any-back p xs ys h = list_any-append p xs ys ∙ or_inr (list_any p xs) (list_any p ys) h

pub any-weaker : {X : Type 0} (p q : X → Bool) (xs : List X) → ((x : X) → p x ≡ true → q x ≡ true) → list_any p xs ≡ true → list_any q xs ≡ true
any-weaker p q [] f h = h
any-weaker p q (x ∷ xs) f h =
    elim (or_elim (p x) (list_any p xs) h) [
      | inl here ↦ or_inl (q x) (list_any q xs) (f x here)
      | inr there ↦ or_inr (q x) (list_any q xs) (any-weaker p q xs f there)
    ]

-- what passes a test stands at a place
pub place_of : {X : Type 0} (p : X → Bool) (xs : List X) → list_any p xs ≡ true → (i : ℕ) × (x : X) × (slice_get xs i ≡ Some x) × (p x ≡ true)
place_of p [] h = absurd (false≢true h)
place_of p (x ∷ xs) h =
    elim (or_elim (p x) (list_any p xs) h) [
      | inl here ↦ (zero, x, refl, here)
      | inr there ↦ let found = place_of p xs there in (suc found.0, found.1, found.2, found.3)
    ]

pub any-at : {X : Type 0} (p : X → Bool) (xs : List X) (i : ℕ) (x : X) → slice_get xs i ≡ Some x → p x ≡ true → list_any p xs ≡ true
any-at p [] i x h e = cc
any-at p (y ∷ xs) zero x h e = or_inl (p y) (list_any p xs) (let same : y ≡ x = cc in subst (λ z. p z ≡ true) (sym same) e)
any-at p (y ∷ xs) (suc i) x h e = or_inr (p y) (list_any p xs) (any-at p xs i x h e)

-- the place of what is in a list with one more: an old one, or the end
pub push-place : {X : Type 0} (xs : List X) (y : X) (i : ℕ) (x : X)
    → slice_get (xs ++ y ∷ []) i ≡ Some x → (slice_get xs i ≡ Some x) ⊎ ((i ≡ length xs) × (y ≡ x))
push-place [] y zero x h = inr (refl, cc)
push-place [] y (suc i) x h = cc
push-place (z ∷ xs) y zero x h = inl h
push-place (z ∷ xs) y (suc i) x h =
    elim (push-place xs y i x h) [
      | inl old ↦ inl old
      | inr new ↦ inr (let e = new.0 in omega (arith, e), new.1)
    ]

-- what is in a list stands at its place where the list goes on
pub slice-front : {X : Type 0} (xs ys : List X) (i : ℕ) (x : X) → slice_get xs i ≡ Some x → slice_get (xs ++ ys) i ≡ Some x
slice-front [] ys i x h = cc
slice-front (z ∷ xs) ys zero x h = h
slice-front (z ∷ xs) ys (suc i) x h = slice-front xs ys i x h

-- what comes behind a list stands at the list's length
pub slice-last : {X : Type 0} (xs : List X) (y : X) → slice_get (xs ++ y ∷ []) (length xs) ≡ Some y
slice-last [] y = refl
slice-last (z ∷ xs) y = slice-last xs y

-- what is found in a list with one more that isn't sought was found before
pub find-front : {X : Type 0} (p : X → Bool) (xs : List X) (y x : X) → p y ≡ false → find p (xs ++ y ∷ []) ≡ Some x → find p xs ≡ Some x
find-front p [] y x none h = let empty : find p (y ∷ []) ≡ None = ap (λ b. cond b (Some y) None) none in cc
find-front p (z ∷ xs) y x none h = by (p z) (find-front p xs y x none) h
  where
    by : (b : Bool) → (find p (xs ++ y ∷ []) ≡ Some x → find p xs ≡ Some x)
        → cond b (Some z) (find p (xs ++ y ∷ [])) ≡ Some x → cond b (Some z) (find p xs) ≡ Some x
    by true rest h = h
    by false rest h = rest h

-- what is found passes the test, and has what each has
pub every-found : {X : Type 0} (P : X → Type 0) (p : X → Bool) (xs : List X) (x : X) → AllByRecursion P xs → find p xs ≡ Some x → P x × (p x ≡ true)
every-found P p [] x h e = cc
every-found P p (z ∷ xs) x h e = by (p z) refl (every-found P p xs x h.1) e
  where
    by : (b : Bool) → p z ≡ b → (find p xs ≡ Some x → P x × (p x ≡ true)) → cond b (Some z) (find p xs) ≡ Some x → P x × (p x ≡ true)
    by true is rest e = let same : z ≡ x = cc in subst (λ y. P y × (p y ≡ true)) same (h.0, is)
    by false is rest e = rest e

-- counts
abbrev pub tick : Bool → ℕ
tick true = 1
tick false = 0

pub count-cons : {X : Type 0} (p : X → Bool) (x : X) (xs : List X) → count_by p (x ∷ xs) ≡ tick (p x) + count_by p xs
count-cons p x xs = sum_by-cons (λ y. cond (p y) 1 0) x xs ∙ by (p x) (count_by p xs)
  where
    by : (b : Bool) (n : ℕ) → cond b 1 0 + n ≡ tick b + n
    by true n = refl
    by false n = refl

pub count-append : {X : Type 0} (p : X → Bool) (xs ys : List X) → count_by p (xs ++ ys) ≡ count_by p xs + count_by p ys
count-append p xs ys = sum_by-append (λ y. cond (p y) 1 0) xs ys

pub one_if : (b : Bool) → b ≡ true → tick b ≡ 1
one_if true h = refl
one_if false h = absurd (false≢true h)

pub zero_if : (b : Bool) → b ≡ false → tick b ≡ 0
zero_if true h = absurd (not_both refl h)
zero_if false h = refl

pub count-some : {X : Type 0} (p : X → Bool) (xs : List X) → list_any p xs ≡ true → 1 ≤ count_by p xs
count-some p [] h = absurd (false≢true h)
count-some p (x ∷ xs) h =
    elim (or_elim (p x) (list_any p xs) h) [
      | inl here ↦ omega (arith, count-cons p x xs, one_if (p x) here)
      | inr there ↦ omega (arith, count-cons p x xs, count-some p xs there)
    ]

pub some-count : {X : Type 0} (p : X → Bool) (xs : List X) → 1 ≤ count_by p xs → list_any p xs ≡ true
some-count p [] h = absurd (omega arith)
some-count p (x ∷ xs) h =
    elim (cases_Bool (p x)) [
      | inl here ↦ or_inl (p x) (list_any p xs) here
      | inr apart ↦ or_inr (p x) (list_any p xs) (some-count p xs (let e = count-cons p x xs in let z = zero_if (p x) apart in omega (arith, e, z)))
    ]

-- what passes at one place at most is counted once at most
pub count-once : {X : Type 0} (p : X → Bool) (xs : List X)
    → ((i j : ℕ) (x y : X) → slice_get xs i ≡ Some x → slice_get xs j ≡ Some y → p x ≡ true → p y ≡ true → i ≡ j) → count_by p xs ≤ 1
count-once p [] one = omega arith
count-once p (x ∷ xs) one =
    elim (cases_Bool (p x)) [
      | inl here ↦
          let no_more : list_any p xs ≡ false = not_true (list_any p xs) (λ more. let found = place_of p xs more in
          let e = one 0 (suc found.0) x found.1 refl found.2 here found.3 in absurd (omega (arith, e))) in
          elim (cases_Bool (list_any p xs)) [
            | inl more ↦ absurd (not_both more no_more)
            | inr none ↦ let z = count-none xs none in let e = count-cons p x xs in let k = one_if (p x) here in omega (arith, z, e, k)
          ]
      | inr apart ↦
          let rest = count-once p xs (λ i j a b h k ha hb. let e = one (suc i) (suc j) a b h k ha hb in omega (arith, e)) in
          let e = count-cons p x xs in let z = zero_if (p x) apart in omega (arith, rest, e, z)
    ]
  where
    count-none : (ys : List _) → list_any p ys ≡ false → count_by p ys ≡ 0
    count-none ys none =
        elim (cases_lt (count_by p ys)) [
          | inl zero_is ↦ zero_is
          | inr more ↦ absurd (not_both (some-count p ys more) none)
        ]
      where
        cases_lt : (n : ℕ) → (n ≡ 0) ⊎ (1 ≤ n)
        cases_lt zero = inl refl
        cases_lt (suc n) = inr (omega arith)

-- a test of a list turned around
pub any-reverse : {X : Type 0} (p : X → Bool) (xs : List X) → list_any p xs ≡ true → list_any p (reverse xs) ≡ true
any-reverse p xs h = sym (list_any-IsPermutation p xs (reverse xs) (IsPermutation-reverse xs)) ∙ h
