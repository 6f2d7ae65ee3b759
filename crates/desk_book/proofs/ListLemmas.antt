-- What holds of each of a list, or of one, and lists with one more, one less or one changed.
use Rattle.std.proofs.Common.{ℕ, zero, suc, ◌≡◌, ◌+◌, ◌<◌, Bool, true, false, ◌&&◌, List, [], ◌∷◌, ◌++◌, ◌-◌, length, take, drop, set, Some, slice_get}
use Rattle.std.proofs.Common.{get_or, refl, sym, ap, subst, ◌∙◌, ◌⊎◌, inl, inr, arith}
use Rattle.std.specs.List.{AllByRecursion, Any, remove}
use Rattle.std.specs.Prelude.{◌≤◌, IsTrue, IfOk, ◌↔◌, Result, Ok, Err}
use Rattle.std.proofs.lemmas.Bool.{false≢true}
use Rattle.std.proofs.lemmas.Option.{same_Some, none-some}

pub each-push : {X : Type 0} (P : X → Type 0) (xs : List X) (y : X) → AllByRecursion P xs → P y → AllByRecursion P (xs ++ y ∷ [])
each-push P [] y h p = (p, tt)
each-push P (x ∷ xs) y h p = (h.0, each-push P xs y h.1 p)

pub each-remove : {X : Type 0} (P : X → Type 0) (xs : List X) (i : ℕ) → AllByRecursion P xs → AllByRecursion P (remove xs i)
each-remove P [] zero h = tt
each-remove P [] (suc i) h = tt
each-remove P (x ∷ xs) zero h = h.1
each-remove P (x ∷ xs) (suc i) h = (h.0, each-remove P xs i h.1)

pub each-set : {X : Type 0} (P : X → Type 0) (xs : List X) (i : ℕ) (y : X) → AllByRecursion P xs → P y → AllByRecursion P (set xs i y)
each-set P [] i y h p = tt
each-set P (x ∷ xs) zero y h p = (p, h.1)
each-set P (x ∷ xs) (suc i) y h p = (h.0, each-set P xs i y h.1 p)

pub each-at : {X : Type 0} (P : X → Type 0) (xs : List X) (i : ℕ) (x : X) → slice_get xs i ≡ Some x → AllByRecursion P xs → P x
each-at P [] i x e h = absurd (none-some x e)
each-at P (y ∷ xs) zero x e h = subst P (same_Some y x e) h.0
each-at P (y ∷ xs) (suc i) x e h = each-at P xs i x e h.1

pub each-weaker : {X : Type 0} (P Q : X → Type 0) (xs : List X) → ((x : X) → P x → Q x) → AllByRecursion P xs → AllByRecursion Q xs
each-weaker P Q [] f h = tt
each-weaker P Q (x ∷ xs) f h = (f x h.0, each-weaker P Q xs f h.1)

-- the end of a list that begins at one of its elements
pub drop_at : {X : Type 0} (xs : List X) (n : ℕ) (x : X) → slice_get xs n ≡ Some x → drop n xs ≡ x ∷ drop (suc n) xs
drop_at [] n x e = absurd (none-some x e)
drop_at (y ∷ xs) zero x e = ap (λ z. z ∷ xs) (same_Some y x e)
drop_at (y ∷ xs) (suc n) x e = drop_at xs n x e

-- something holds of an element where it holds of the first or of a later one
pub any-here : {X : Type 0} (P : X → Type 0) (x : X) (xs : List X) → P x → Any P (x ∷ xs)
any-here P x xs p = (0, x, omega arith, refl, p)

pub any-later : {X : Type 0} (P : X → Type 0) (x : X) (xs : List X) → Any P xs → Any P (x ∷ xs)
any-later P x xs h = (suc h.0, h.1, (let less = h.2 in omega (arith, less)), h.3, h.4)

pub any-none : {X : Type 0} (P : X → Type 0) → Any P [] → ⊥
any-none P h = let less = h.2 in omega (arith, less)

pub any-cases : {X : Type 0} (P : X → Type 0) (x : X) (xs : List X) → Any P (x ∷ xs) → P x ⊎ Any P xs
any-cases {X} P x xs h = by h.0 h.1 h.2 h.3 h.4
  where
    by : (k : ℕ) (y : X) → k < length (x ∷ xs) → get_or (x ∷ xs) k y ≡ y → P y → P x ⊎ Any P xs
    by zero y less at p = inl (subst P (sym at) p)
    by (suc k) y less at p = inr (k, y, omega (arith, less), at, p)

pub both : (a b : Bool) → a ≡ true → b ≡ true → (a && b) ≡ true
both true b h k = k
both false b h k = absurd (false≢true h)

pub not_true : (b : Bool) → (b ≡ true → ⊥) → b ≡ false
not_true true h = absurd (h refl)
not_true false h = refl

take_all : {X : Type 0} (xs : List X) → take (length xs) xs ≡ xs
take_all [] = refl
take_all (x ∷ xs) = ap (λ l. x ∷ l) (take_all xs)

-- where something doesn't hold of the first, it holds of one exactly where it holds of a later one
pub any_skip : {X : Type 0} (P : X → Type 0) (xs : List X) (x : X) → 1 ≤ length xs → x ≡ get_or xs 0 x → (P x → ⊥) → (b : Bool)
    → (IsTrue b ↔ Any P (take (length xs - 1) (drop 1 xs))) → (IsTrue b ↔ Any P xs)
any_skip P [] x some same fails b h = absurd (omega (arith, some))
any_skip P (y ∷ ys) x some same fails b h =
    let rest : take (length (y ∷ ys) - 1) ys ≡ ys = ap (λ n. take n ys) (omega arith) ∙ take_all ys in
    let later : IsTrue b ↔ Any P ys = subst (λ l. IsTrue b ↔ Any P l) rest h in (
      λ t. any-later P y ys (later.0 t),
      λ any. elim (any-cases P y ys any) [ inl p ↦ absurd (fails (subst P (sym same) p)) | inr more ↦ later.1 more ],
    )

-- what is known of an answer, where there is one, gives more
pub ok_gives : {T E : Type 0} (P Q : T → Type 0) (r : Result T E) → ((x : T) → P x → Q x) → IfOk r P → IfOk r Q
ok_gives P Q (Ok x) f h = f x h
ok_gives P Q (Err e) f h = tt
