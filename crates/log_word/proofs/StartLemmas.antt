-- Lists that are starts of others, the longer of two, and members of lists.
use Rattle.std.proofs.Common.{◌≡◌, ◌<◌, ◌≤◌, cond, List, [], ◌∷◌, ◌++◌, length, Bool, true, false, ◌||◌, true≢false}
use Rattle.std.proofs.Common.{refl, sym, ap, ◌∙◌, subst, inl, inr, ⊎_elim, arith, length-append, append_assoc, append-nil, lt-ltb, le-ltb}
use Rattle.std.proofs.lemmas.Bool.{cases_lt}
use Rattle.std.specs.List.{list_any, AllByRecursion}
use Rattle.log_word.specs.Lists.{IsStart, Among, longer}

module _ {A : Type 0} where
  pub start_same : (xs : List A) → IsStart xs xs
  start_same xs = ([], refl)

  pub start_is : (xs ys : List A) → xs ≡ ys → IsStart xs ys
  start_is xs ys e = ([], sym e)

  pub start_none : (xs : List A) → IsStart [] xs
  start_none xs = (xs, sym (append-nil xs))

  pub start_one : (x : A) (xs : List A) → IsStart xs (x ∷ xs)
  start_one x xs = (x ∷ [], refl)

  pub start_trans : (xs ys zs : List A) → IsStart xs ys → IsStart ys zs → IsStart xs zs
  start_trans xs ys zs t u = (u.0 ++ t.0, u.1 ∙ ap (λ l. u.0 ++ l) t.1 ∙ sym (append_assoc u.0 t.0 xs))

  start_is_shorter : (xs ys : List A) → IsStart xs ys → length xs ≤ length ys
  start_is_shorter xs ys t = let e : length ys ≡ length (t.0 ++ xs) = ap length t.1 in omega (arith, e, length-append t.0 xs)

  abbrev rest : List A → List A
  rest [] = []
  rest (x ∷ xs) = xs

  between : (m n xs ys : List A) → m ++ xs ≡ n ++ ys → length xs ≤ length ys → IsStart xs ys
  between m [] xs ys e h = (m, sym e)
  between [] (y ∷ n) xs ys e h =
      let l : length xs ≡ length ((y ∷ n) ++ ys) = ap length e in absurd (omega (arith, l, length-append (y ∷ n) ys))
  between (x ∷ m) (y ∷ n) xs ys e h = between m n xs ys (ap rest e) h

  -- of two starts of one list the shorter is a start of the other
  starts_compare : (xs ys zs : List A) → IsStart xs zs → IsStart ys zs → length xs ≤ length ys → IsStart xs ys
  starts_compare xs ys zs t u h = between t.0 u.0 xs ys (sym t.1 ∙ u.1) h

  -- what holds of the second where it is longer, and else of the first, holds of the longer
  pub longer_elim : (P : List A → Type 0) (xs ys : List A) → (length xs < length ys → P ys) → (length ys ≤ length xs → P xs) → P (longer xs ys)
  longer_elim P xs ys other one =
      ⊎_elim
      (λ (h : length xs < length ys). subst (λ b. P (cond b ys xs)) (sym (lt-ltb (length xs) (length ys) h)) (other h))
      (λ (h : length ys ≤ length xs). subst (λ b. P (cond b ys xs)) (sym (le-ltb (length xs) (length ys) h)) (one h))
      (cases_lt (length xs) (length ys))

  pub longer_is_start : (xs ys zs : List A) → IsStart xs zs → IsStart ys zs → IsStart (longer xs ys) zs
  longer_is_start xs ys zs t u = longer_elim (λ l. IsStart l zs) xs ys (λ _. u) (λ _. t)

  pub first_starts_longer : (xs ys zs : List A) → IsStart xs zs → IsStart ys zs → IsStart xs (longer xs ys)
  first_starts_longer xs ys zs t u =
      longer_elim (λ l. IsStart xs l) xs ys (λ h. starts_compare xs ys zs t u (omega arith)) (λ _. start_same xs)

  pub second_starts_longer : (xs ys zs : List A) → IsStart xs zs → IsStart ys zs → IsStart ys (longer xs ys)
  second_starts_longer xs ys zs t u =
      longer_elim (λ l. IsStart ys l) xs ys (λ _. start_same ys) (λ h. starts_compare ys xs zs u t h)

  -- who has seen all gains nothing
  pub longer_is_whole : (xs ys : List A) → IsStart ys xs → longer xs ys ≡ xs
  longer_is_whole xs ys t =
      let h : length ys ≤ length xs = start_is_shorter ys xs t in
      longer_elim (λ l. l ≡ xs) xs ys (λ k. absurd (omega (arith, h, k))) (λ _. refl)

  pub longer_from_none : (ys : List A) → longer [] ys ≡ ys
  longer_from_none [] = refl
  longer_from_none (y ∷ ys) = longer_elim (λ l. l ≡ y ∷ ys) [] (y ∷ ys) (λ _. refl) (λ h. absurd (omega arith))

  pub longer_of_none : (xs : List A) → longer xs [] ≡ xs
  longer_of_none xs = longer_elim (λ l. l ≡ xs) xs [] (λ h. absurd (omega arith)) (λ _. refl)

  -- a test that passes goes on to pass
  any_more : (p : A → Bool) (more xs : List A) → list_any p xs ≡ true → list_any p (more ++ xs) ≡ true
  any_more p [] xs h = h
  any_more p (x ∷ more) xs h = either (p x) (any_more p more xs h)
    where
      either : (b : Bool) → list_any p (more ++ xs) ≡ true → (b || list_any p (more ++ xs)) ≡ true
      either true e = refl
      either false e = e

  pub any_goes_on : (p : A → Bool) (xs ys : List A) → IsStart xs ys → list_any p xs ≡ true → list_any p ys ≡ true
  any_goes_on p xs ys t h = subst (λ l. list_any p l ≡ true) (sym t.1) (any_more p t.0 xs h)

  -- what holds of each, and so something else of each
  pub all_mono : {P Q : A → Type 0} → ((x : A) → P x → Q x) → (xs : List A) → AllByRecursion P xs → AllByRecursion Q xs
  all_mono f [] h = tt
  all_mono f (x ∷ xs) h = (f x h.0, all_mono f xs h.1)

  -- what holds of each holds of a member
  pub all_among : (P : A → Type 0) (xs : List A) (x : A) → AllByRecursion P xs → Among x xs → P x
  all_among P [] x h among = elim among [ ]
  all_among P (y ∷ xs) x h (inl e) = subst P e h.0
  all_among P (y ∷ xs) x h (inr among) = all_among P xs x h.1 among

  -- where a test passes, a member passes it
  pub any_among : (p : A → Bool) (xs : List A) → list_any p xs ≡ true → (x : A) × Among x xs × (p x ≡ true)
  any_among p [] e = absurd (true≢false (sym e))
  any_among p (x ∷ xs) e = by (p x) refl e (λ h. any_among p xs h)
    where
      by : (b : Bool) → p x ≡ b → (b || list_any p xs) ≡ true → (list_any p xs ≡ true → (y : A) × Among y xs × (p y ≡ true)) → (y : A) × Among y (x ∷ xs) × (p y ≡ true)
      by true is h more = (x, inl refl, is)
      by false is h more = let t = more h in (t.0, inr t.1, t.2)
