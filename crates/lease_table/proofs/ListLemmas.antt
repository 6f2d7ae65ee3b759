-- On lists: what a map that leaves elements out gives of a filtered list, and the first that passes.
use Rattle.std.proofs.Common.{◌≡◌, ℕ, suc, length, get_or, ◌<◌, ◌≤◌, ◌++◌, zero, set, take, drop, map, arith, Bool, true, false, not, Option, Some, None, List, [], ◌∷◌, ap, sym, refl, subst}
use Rattle.std.proofs.Common.{◌∙◌, find, filter, MatchOption}
use Rattle.std.specs.Bool.{⊤}
use Rattle.std.specs.Prelude.{◌&&◌, option_map}
use Rattle.std.proofs.lemmas.List.{get_or-map, length-map}
use Rattle.std.proofs.lemmas.List.Filters.{length-filter_both}
use Rattle.std.specs.List.{filter_map, cons_option, All, AllPairs, list_all}
use Rattle.std.proofs.lemmas.List.Elements.{All-head, All-tail, All-nil, All-cons}
use Rattle.lease_table.specs.Leases.{first}

-- one step: what the element gives and whether it is kept
filter_map-filter-step : {X Y : Type 0} (f : X → Option Y) (p : X → Bool) (t : Y → Bool) (x : X) (xs : List X) (o : Option Y) (kept : Bool) → f x ≡ o
    → p x ≡ kept → MatchOption o ⊤ (λ y. kept ≡ t y) → filter_map f (filter p xs) ≡ filter t (filter_map f xs)
    → filter_map f (filter p (x ∷ xs)) ≡ filter t (filter_map f (x ∷ xs))
filter_map-filter-step f p t x xs None true gives keeps agrees ih = rw (keeps, gives) ih
filter_map-filter-step f p t x xs None false gives keeps agrees ih = rw (keeps, gives) ih
filter_map-filter-step f p t x xs (Some y) true gives keeps agrees ih = rw (keeps, gives, ← agrees) (ap (λ ys. y ∷ ys) ih)
filter_map-filter-step f p t x xs (Some y) false gives keeps agrees ih = rw (keeps, gives, ← agrees) ih

-- where an element is kept as the test of what it gives says, the filter may come before or after
pub filter_map-filter : {X Y : Type 0} (f : X → Option Y) (p : X → Bool) (t : Y → Bool) (agrees : (x : X) → MatchOption (f x) ⊤ (λ y. p x ≡ t y)) (xs : List X)
    → filter_map f (filter p xs) ≡ filter t (filter_map f xs)
filter_map-filter f p t agrees [] = refl
filter_map-filter f p t agrees (x ∷ xs) =
    filter_map-filter-step f p t x xs _ _ refl refl (agrees x) (filter_map-filter f p t agrees xs)

-- a filter that keeps all
pub filter-all : {X : Type 0} (xs : List X) → filter (λ _. true) xs ≡ xs
filter-all [] = refl
filter-all (x ∷ xs) = ap (λ ys. x ∷ ys) (filter-all xs)

-- a filter that keeps none
pub filter-none : {X : Type 0} (xs : List X) → filter (λ _. false) xs ≡ []
filter-none [] = refl
filter-none (x ∷ xs) = filter-none xs

-- two maps that give the same of each element
pub filter_map-same : {X Y : Type 0} (f g : X → Option Y) (same : (x : X) → f x ≡ g x) (xs : List X) → filter_map f xs ≡ filter_map g xs
filter_map-same f g same [] = refl
filter_map-same f g same (x ∷ xs) = rw (same x) (ap (cons_option (g x)) (filter_map-same f g same xs))

-- one step of it
find-first-step : {X : Type 0} (p : X → Bool) (x : X) (xs : List X) (b : Bool)
    → p x ≡ b → find p xs ≡ first (filter p xs) → find p (x ∷ xs) ≡ first (filter p (x ∷ xs))
find-first-step p x xs true e ih = rw e refl
find-first-step p x xs false e ih = rw e ih

-- what is found is the first of what the filter keeps
pub find-first : {X : Type 0} (p : X → Bool) (xs : List X) → find p xs ≡ first (filter p xs)
find-first p [] = refl
find-first p (x ∷ xs) = find-first-step p x xs _ refl (find-first p xs)

-- a list with no first is empty
pub first-none : {X : Type 0} (xs : List X) → first xs ≡ None → xs ≡ []
first-none [] e = refl
first-none (x ∷ xs) e = cc

-- the first stands in the relation to all behind it
pub AllPairs-head : {X : Type 0} (R : X → X → Type 0) (x : X) (xs : List X) → AllPairs R (x ∷ xs) → All (R x) xs
AllPairs-head R x xs pairs = λ k d within. pairs 0 (suc k) d (omega arith) (omega arith)

-- the rest stand in the relation too
pub AllPairs-tail : {X : Type 0} (R : X → X → Type 0) (x : X) (xs : List X) → AllPairs R (x ∷ xs) → AllPairs R xs
AllPairs-tail R x xs pairs = λ i j d before within. pairs (suc i) (suc j) d (omega arith) (omega arith)

-- a test that each element passes
pub list_all-map : {X Y : Type 0} (p : Y → Bool) (f : X → Y) (xs : List X) → All (λ x. p (f x) ≡ true) xs → list_all p (map f xs) ≡ true
list_all-map p f [] each = refl
list_all-map p f (x ∷ xs) each =
    rw (All-head (λ y. p (f y) ≡ true) x xs each) (list_all-map p f xs (All-tail (λ y. p (f y) ≡ true) x xs each))

-- one step of what follows
find-none-step : {X : Type 0} (p : X → Bool) (x : X) (xs : List X) (b : Bool) → p x ≡ b → find p (x ∷ xs) ≡ None → (p x ≡ false) × (find p xs ≡ None)
find-none-step p x xs true e none = let some : find p (x ∷ xs) ≡ Some x = rw e refl in cc
find-none-step p x xs false e none = let rest : find p (x ∷ xs) ≡ find p xs = rw e refl in (e, sym rest ∙ none)

-- where nothing is found no element passes
pub find-none : {X : Type 0} (p : X → Bool) (xs : List X) → find p xs ≡ None → All (λ x. p x ≡ false) xs
find-none p [] none = All-nil (λ x. p x ≡ false)
find-none p (x ∷ xs) none =
    let here = find-none-step p x xs _ refl none in
    All-cons (λ y. p y ≡ false) x xs here.0 (find-none p xs here.1)

-- where no element passes, what doesn't pass is all
pub filter-not-all : {X : Type 0} (p : X → Bool) (xs : List X) → All (λ x. p x ≡ false) xs → filter (λ x. not (p x)) xs ≡ xs
filter-not-all p [] none = refl
filter-not-all p (x ∷ xs) none =
    rw (All-head (λ y. p y ≡ false) x xs none) (ap (λ ys. x ∷ ys) (filter-not-all p xs (All-tail (λ y. p y ≡ false) x xs none)))

-- two tests that pass together pass each
and-both : (a b : Bool) → (a && b) ≡ true → (a ≡ true) × (b ≡ true)
and-both true b e = (refl, e)
and-both false b e = cc

-- each element passes a test that all pass
pub All-from_list_all : {X Y : Type 0} (p : Y → Bool) (f : X → Y) (xs : List X) → list_all p (map f xs) ≡ true → All (λ x. p (f x) ≡ true) xs
All-from_list_all p f [] e = All-nil (λ x. p (f x) ≡ true)
All-from_list_all p f (x ∷ xs) e =
    let both = and-both (p (f x)) (list_all p (map f xs)) e in
    All-cons (λ y. p (f y) ≡ true) x xs both.0 (All-from_list_all p f xs both.1)

-- what a filter keeps is no longer
pub length-filter-le : {X : Type 0} (p : X → Bool) (xs : List X) → length (filter p xs) ≤ length xs
length-filter-le p xs = omega (arith, length-filter_both p (λ x. not (p x)) (λ _. refl) xs)

-- ---- what is found among elements

pub find-cons_true : {X : Type 0} (p : X → Bool) (x : X) (xs : List X) → p x ≡ true → find p (x ∷ xs) ≡ Some x
find-cons_true p x xs e = rw e refl

pub find-cons_false : {X : Type 0} (p : X → Bool) (x : X) (xs : List X) → p x ≡ false → find p (x ∷ xs) ≡ find p xs
find-cons_false p x xs e = rw e refl

-- what is found passes
pub find-passes : {X : Type 0} (p : X → Bool) (xs : List X) (x : X) → find p xs ≡ Some x → p x ≡ true
find-passes p [] x found = cc
find-passes p (y ∷ ys) x found = by_test (find-passes p ys x) (p y) refl
  where
    by_test : (find p ys ≡ Some x → p x ≡ true) → (b : Bool) → p y ≡ b → p x ≡ true
    by_test rest true e =
        let here = find-cons_true p y ys e in
        let same : y ≡ x = cc in
        ap p (sym same) ∙ e
    by_test rest false e = rest (sym (find-cons_false p y ys e) ∙ found)

-- where none passes nothing is found
pub find-no : {X : Type 0} (p : X → Bool) (xs : List X) → All (λ x. p x ≡ false) xs → find p xs ≡ None
find-no p [] none = refl
find-no p (x ∷ xs) none =
    find-cons_false p x xs (All-head (λ y. p y ≡ false) x xs none) ∙ find-no p xs (All-tail (λ y. p y ≡ false) x xs none)

-- what is found stays so where others are left out
pub find-filter : {X : Type 0} (p t : X → Bool) (xs : List X) → ((x : X) → p x ≡ true → t x ≡ true) → find p (filter t xs) ≡ find p xs
find-filter p t [] keeps = refl
find-filter p t (x ∷ xs) keeps = by_tests (find-filter p t xs keeps) (p x) (t x) refl refl
  where
    by_tests : find p (filter t xs) ≡ find p xs → (b k : Bool) → p x ≡ b → t x ≡ k → find p (filter t (x ∷ xs)) ≡ find p (x ∷ xs)
    by_tests rest true true e f = rw (f, e) refl
    by_tests rest true false e f = let kept = keeps x e in cc
    by_tests rest false true e f = rw (f, e) rest
    by_tests rest false false e f = rw (f, e) rest

-- what is found among changed elements, where the change leaves the test
pub find-map : {X : Type 0} (p : X → Bool) (f : X → X) → ((x : X) → p (f x) ≡ p x) → (xs : List X) → find p (map f xs) ≡ option_map f (find p xs)
find-map p f same [] = refl
find-map p f same (x ∷ xs) = by_test (find-map p f same xs) (p x) refl
  where
    by_test : find p (map f xs) ≡ option_map f (find p xs) → (b : Bool) → p x ≡ b → find p (map f (x ∷ xs)) ≡ option_map f (find p (x ∷ xs))
    by_test rest true e =
        find-cons_true p (f x) (map f xs) (same x ∙ e) ∙ ap (option_map f) (sym (find-cons_true p x xs e))
    by_test rest false e =
        find-cons_false p (f x) (map f xs) (same x ∙ e) ∙ rest ∙ ap (option_map f) (sym (find-cons_false p x xs e))

-- a change of each element that keeps a relation
pub AllPairs-map : {X : Type 0} (R : X → X → Type 0) (f : X → X) → ((x y : X) → R x y → R (f x) (f y)) → (xs : List X) → AllPairs R xs → AllPairs R (map f xs)
AllPairs-map R f keeps xs pairs = λ i j d before within.
    let inside : j < length xs = omega (arith, length-map xs f) in
    let a = get_or-map f xs i d d (omega arith) in
    let b = get_or-map f xs j d d inside in
    subst (λ x. R x (get_or (map f xs) j d)) (sym a) (subst (λ y. R (f (get_or xs i d)) y) (sym b) (keeps (get_or xs i d) (get_or xs j d) (pairs i j d before inside)))

-- one element more is changed, where those in front of it are
pub set-map_next : {X : Type 0} (f : X → X) (xs : List X) (i : ℕ) (d : X) → i < length xs
    → set (map f (take i xs) ++ drop i xs) i (f (get_or (map f (take i xs) ++ drop i xs) i d)) ≡ map f (take (suc i) xs) ++ drop (suc i) xs
set-map_next f [] i d within = absurd (omega arith)
set-map_next f (x ∷ xs) zero d within = refl
set-map_next f (x ∷ xs) (suc i) d within = ap (λ rest. f x ∷ rest) (set-map_next f xs i d (omega arith))
