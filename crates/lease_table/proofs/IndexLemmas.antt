-- What the index lists, as terms come and go.
use Rattle.std.proofs.Common.{◌≡◌, ℕ, ◌+◌, ◌<◌, ◌≤◌, Bool, true, false, not, Option, Some, None, List, [], ◌∷◌, sym, refl, ◌∙◌, ap, subst, inl, inr, filter}
use Rattle.std.proofs.Common.{find, length, arith, is_some, IfSome}
use Rattle.std.specs.Prelude.{◌⊎◌, ◌==◌, ◌||◌, nat_le}
use Rattle.std.specs.List.{list_any}
use Rattle.std.specs.List.Sorted.{IsPermutation}
use Rattle.std.specs.BinaryHeap.{heap_items}
use Rattle.std.specs.declared.cmp.Reverse.{Reverse}
use Rattle.std.proofs.lemmas.Bool.{and_parts, and_from, or_cases, or_left, or_right, eqb-true, eq-eqb, leb-true, le-leb, false≢true}
use Rattle.std.proofs.lemmas.List.Sorted.{list_any-IsPermutation, length_permutation}
use Rattle.std.proofs.lemmas.Map.Views.{any-filter_same}
use Rattle.std.proofs.lemmas.Option.{IfSome_then}
use Rattle.rows_model.specs.declared.keys.QKey.{QKey}
use Rattle.rows_model.specs.Key.{same_key}
use Rattle.rows_model.proofs.SameKey.{same_key-true, same_key-refl}
use Rattle.lease_table.specs.declared.records.Quar.{Quar}
use Rattle.lease_table.specs.declared.index.Term.{Term}
use Rattle.lease_table.specs.declared.index.Found.{Found}
use Rattle.lease_table.specs.declared.index.Index.{Index}
use Rattle.lease_table.specs.Leases.{has_token}
use Rattle.lease_table.specs.Index.{is_same, is_later, is_found, listed_in, is_listed, ListsEach, IsSound, HasRoom, KeepsEach}
use Rattle.lease_table.specs.Index.{KeepsOthers}
use Rattle.lease_table.proofs.ListLemmas.{length-filter-le}

-- ---- keys and tokens that are the same

pub is_same-true : (key : QKey) (token : ℕ) (k : QKey) (t : ℕ) → is_same key token k t ≡ true → (key ≡ k) × (t ≡ token)
is_same-true key token k t e =
    let parts = and_parts (same_key key k) (t == token) e in
    (same_key-true key k parts.0, eqb-true t token parts.1)

pub is_same-itself : (key : QKey) (token : ℕ) → is_same key token key token ≡ true
is_same-itself key token = and_from (same_key key key) (token == token) (same_key-refl key) (eq-eqb token token refl)

pub is_same-from : (key : QKey) (token : ℕ) (k : QKey) (t : ℕ) → key ≡ k → t ≡ token → is_same key token k t ≡ true
is_same-from key token k t keys tokens =
    and_from (same_key key k) (t == token) (subst (λ (x : QKey). same_key key x ≡ true) keys (same_key-refl key)) (eq-eqb t token tokens)

-- what is the same as one that isn't the same as another isn't either
pub is_same-apart : (key : QKey) (token : ℕ) (other : QKey) (its : ℕ) (k : QKey) (t : ℕ)
    → is_same other its key token ≡ false → is_same other its k t ≡ true → is_same key token k t ≡ false
is_same-apart key token other its k t apart same = by_test (is_same key token k t) refl
  where
    by_test : (b : Bool) → is_same key token k t ≡ b → b ≡ false
    by_test false e = refl
    by_test true e =
        let a = is_same-true other its k t same in
        let b = is_same-true key token k t e in
        sym (is_same-from other its key token (a.0 ∙ sym b.0) (sym b.1 ∙ a.1)) ∙ apart

-- ---- a list that some element of which passes a test

module _ {X : Type 0} (p : X → Bool) where
  -- with one element more, some still does
  any-more : (x : X) (xs ys : List X) → IsPermutation (x ∷ xs) ys → list_any p xs ≡ true → list_any p ys ≡ true
  any-more x xs ys same some =
      sym (list_any-IsPermutation p (x ∷ xs) ys same) ∙ or_right (p x) (list_any p xs) some

  -- and where that one passes
  any-new : (x : X) (xs ys : List X) → IsPermutation (x ∷ xs) ys → p x ≡ true → list_any p ys ≡ true
  any-new x xs ys same passes =
      sym (list_any-IsPermutation p (x ∷ xs) ys same) ∙ or_left (p x) (list_any p xs) passes

  -- with one element less, it was that one or some still does
  any-less : (x : X) (xs ys : List X) → IsPermutation xs (x ∷ ys) → list_any p xs ≡ true → (p x ≡ true) ⊎ (list_any p ys ≡ true)
  any-less x xs ys same some =
      or_cases (p x) (list_any p ys) (sym (list_any-IsPermutation p xs (x ∷ ys) same) ∙ some)

  -- where the one that is left out doesn't pass, some still does
  any-left : (x : X) (xs ys : List X) → IsPermutation xs (x ∷ ys) → p x ≡ false → list_any p xs ≡ true → list_any p ys ≡ true
  any-left x xs ys same fails some = by_case (any-less x xs ys same some)
    where
      by_case : (p x ≡ true) ⊎ (list_any p ys ≡ true) → list_any p ys ≡ true
      by_case (inl passes) = absurd (false≢true (sym fails ∙ passes))
      by_case (inr rest) = rest

  -- a filter that keeps what passes
  any-kept : (test : X → Bool) (xs ys : List X) → ((x : X) → p x ≡ true → test x ≡ true)
      → IsPermutation (filter test xs) ys → list_any p xs ≡ true → list_any p ys ≡ true
  any-kept test xs ys keeps same some =
      sym (list_any-IsPermutation p (filter test xs) ys same) ∙ any-filter_same p test true keeps xs ∙ some

-- a weaker test
any-weaker : {X : Type 0} (p q : X → Bool) → ((x : X) → p x ≡ true → q x ≡ true) → (xs : List X) → list_any p xs ≡ true → list_any q xs ≡ true
any-weaker p q weaker [] some = some
any-weaker p q weaker (x ∷ xs) some = by_case (any-weaker p q weaker xs) (or_cases (p x) (list_any p xs) some)
  where
    by_case : (list_any p xs ≡ true → list_any q xs ≡ true) → (p x ≡ true) ⊎ (list_any p xs ≡ true) → list_any q (x ∷ xs) ≡ true
    by_case later (inl passes) = or_left (q x) (list_any q xs) (weaker x passes)
    by_case later (inr rest) = or_right (q x) (list_any q xs) (later rest)

-- a filter that leaves out what passes leaves fewer
filter-shorter : {X : Type 0} (p : X → Bool) (xs : List X) → list_any p xs ≡ true → length (filter (λ x. not (p x)) xs) < length xs
filter-shorter p [] some = absurd (false≢true some)
filter-shorter p (x ∷ xs) some = by_test (filter-shorter p xs) (p x) refl
  where
    by_test : (list_any p xs ≡ true → length (filter (λ y. not (p y)) xs) < length xs) → (b : Bool) → p x ≡ b
        → length (filter (λ y. not (p y)) (x ∷ xs)) < length (x ∷ xs)
    by_test later true e = rw e (omega (arith, length-filter-le (λ y. not (p y)) xs))
    by_test later false e =
        let rest : list_any p xs ≡ true = ap (λ b. b || list_any p xs) (sym e) ∙ some in
        let fewer = later rest in
        rw e (omega arith)

-- ---- what is listed in two lists

module _ (key : QKey) (token deadline : ℕ) where
  by_either : (later nexts : List (Reverse Term)) (found finds : List (Reverse Found))
      → (list_any (is_later key token deadline) later ≡ true → listed_in key token deadline nexts finds ≡ true)
      → (list_any (is_found key token) found ≡ true → listed_in key token deadline nexts finds ≡ true)
      → listed_in key token deadline later found ≡ true → listed_in key token deadline nexts finds ≡ true
  by_either later nexts found finds left right listed = by_case (or_cases _ _ listed)
    where
      by_case : (list_any (is_later key token deadline) later ≡ true) ⊎ (list_any (is_found key token) found ≡ true)
          → listed_in key token deadline nexts finds ≡ true
      by_case (inl h) = left h
      by_case (inr h) = right h

  -- it is among the terms, or it is found
  among-later : (later : List (Reverse Term)) (found : List (Reverse Found))
      → list_any (is_later key token deadline) later ≡ true → listed_in key token deadline later found ≡ true
  among-later later found h = or_left _ _ h

  among-found : (later : List (Reverse Term)) (found : List (Reverse Found))
      → list_any (is_found key token) found ≡ true → listed_in key token deadline later found ≡ true
  among-found later found h = or_right _ _ h

  -- a term more
  listed-put : (x : Reverse Term) (later nexts : List (Reverse Term)) (found : List (Reverse Found))
      → IsPermutation (x ∷ later) nexts → listed_in key token deadline later found ≡ true → listed_in key token deadline nexts found ≡ true
  listed-put x later nexts found more listed =
      by_either later nexts found found (λ h. among-later nexts found (any-more (is_later key token deadline) x later nexts more h))
      (λ h. among-found nexts found h) listed

  -- a term whose time has come
  listed-moved : (x : Reverse Term) (y : Reverse Found) (later nexts : List (Reverse Term)) (found finds : List (Reverse Found))
      → x.0.key ≡ y.0.key → x.0.token ≡ y.0.token → IsPermutation later (x ∷ nexts) → IsPermutation (y ∷ found) finds
      → listed_in key token deadline later found ≡ true → listed_in key token deadline nexts finds ≡ true
  listed-moved x y later nexts found finds keys tokens less more listed =
      by_either later nexts found finds (λ h. by_case (any-less (is_later key token deadline) x later nexts less h))
      (λ h. among-found nexts finds (any-more (is_found key token) y found finds more h)) listed
    where
      by_case : (is_later key token deadline x ≡ true) ⊎ (list_any (is_later key token deadline) nexts ≡ true)
          → listed_in key token deadline nexts finds ≡ true
      by_case (inl its) =
          let same = and_parts (is_same key token x.0.key x.0.token) (nat_le x.0.deadline deadline) its in
          let here = is_same-true key token x.0.key x.0.token same.0 in
          among-found nexts finds (any-new (is_found key token) y found finds more
          (is_same-from key token y.0.key y.0.token (here.0 ∙ keys) (sym tokens ∙ here.1)))
      by_case (inr rest) = among-later nexts finds rest

  -- another's is found no longer
  listed-forgot : (y : Reverse Found) (later : List (Reverse Term)) (found finds : List (Reverse Found))
      → is_found key token y ≡ false → IsPermutation found (y ∷ finds)
      → listed_in key token deadline later found ≡ true → listed_in key token deadline later finds ≡ true
  listed-forgot y later found finds apart less listed =
      by_either later later found finds (λ h. among-later later finds h)
      (λ h. among-found later finds (any-left (is_found key token) y found finds less apart h)) listed

  -- filters that keep what is of this key and this token
  listed-kept : (stays : QKey → ℕ → Bool) (later nexts : List (Reverse Term)) (found finds : List (Reverse Found))
      → ((k : QKey) (t : ℕ) → is_same key token k t ≡ true → stays k t ≡ true)
      → IsPermutation (filter (λ x. stays x.0.key x.0.token) later) nexts
      → IsPermutation (filter (λ y. stays y.0.key y.0.token) found) finds
      → listed_in key token deadline later found ≡ true → listed_in key token deadline nexts finds ≡ true
  listed-kept stays later nexts found finds keeps terms others listed =
      by_either later nexts found finds
      (λ h. among-later nexts finds (any-kept (is_later key token deadline) (λ x. stays x.0.key x.0.token) later nexts
      (λ x its. keeps x.0.key x.0.token (and_parts (is_same key token x.0.key x.0.token) (nat_le x.0.deadline deadline) its).0) terms h))
      (λ h. among-found nexts finds (any-kept (is_found key token) (λ y. stays y.0.key y.0.token) found finds
      (λ y its. keeps y.0.key y.0.token its) others h)) listed

-- filters that leave out a key and a token leave fewer
listed-fewer : (key : QKey) (token was : ℕ) (later nexts : List (Reverse Term)) (found finds : List (Reverse Found))
    → IsPermutation (filter (λ x. not (is_same key token x.0.key x.0.token)) later) nexts
    → IsPermutation (filter (λ y. not (is_same key token y.0.key y.0.token)) found) finds
    → listed_in key token was later found ≡ true → length nexts + length finds < length later + length found
listed-fewer key token was later nexts found finds terms others listed = by_case (or_cases _ _ listed)
  where
    nexts_are : length nexts ≡ length (filter (λ x. not (is_same key token x.0.key x.0.token)) later)
    nexts_are = length_permutation _ nexts terms

    finds_are : length finds ≡ length (filter (λ y. not (is_same key token y.0.key y.0.token)) found)
    finds_are = length_permutation _ finds others

    by_case : (list_any (is_later key token was) later ≡ true) ⊎ (list_any (is_found key token) found ≡ true)
        → length nexts + length finds < length later + length found
    by_case (inl h) =
        let some = any-weaker (is_later key token was) (λ x. is_same key token x.0.key x.0.token)
        (λ x its. (and_parts (is_same key token x.0.key x.0.token) (nat_le x.0.deadline was) its).0) later h in
        let fewer = filter-shorter (λ (x : Reverse Term). is_same key token x.0.key x.0.token) later some in
        let rest = length-filter-le (λ (y : Reverse Found). not (is_same key token y.0.key y.0.token)) found in
        omega (arith, nexts_are, finds_are)
    by_case (inr h) =
        let fewer = filter-shorter (λ (y : Reverse Found). is_same key token y.0.key y.0.token) found h in
        let rest = length-filter-le (λ (x : Reverse Term). not (is_same key token x.0.key x.0.token)) later in
        omega (arith, nexts_are, finds_are)

-- a term lists its own quarantine
pub is_later-itself : (term : Term) → is_later term.key term.token term.deadline (record { 0 = term }) ≡ true
is_later-itself term =
    and_from (is_same term.key term.token term.key term.token) (nat_le term.deadline term.deadline)
    (is_same-itself term.key term.token) (le-leb term.deadline term.deadline (omega arith))

-- what is listed is listed for any later deadline
is_later-weaker : (key : QKey) (token was deadline : ℕ) → was ≤ deadline → (x : Reverse Term)
    → is_later key token was x ≡ true → is_later key token deadline x ≡ true
is_later-weaker key token was deadline le x its =
    let parts = and_parts (is_same key token x.0.key x.0.token) (nat_le x.0.deadline was) its in
    let before = leb-true x.0.deadline was parts.1 in
    and_from (is_same key token x.0.key x.0.token) (nat_le x.0.deadline deadline) parts.0 (le-leb x.0.deadline deadline (omega arith))

pub listed-later : (key : QKey) (token was deadline : ℕ) (index : Index) → was ≤ deadline
    → is_listed key token was index ≡ true → is_listed key token deadline index ≡ true
listed-later key token was deadline index le listed = by_case (or_cases _ _ listed)
  where
    by_case : (list_any (is_later key token was) (heap_items index.later) ≡ true) ⊎ (list_any (is_found key token) (heap_items index.found) ≡ true)
        → is_listed key token deadline index ≡ true
    by_case (inl h) =
        among-later key token deadline (heap_items index.later) (heap_items index.found)
        (any-weaker (is_later key token was) (is_later key token deadline) (is_later-weaker key token was deadline le) (heap_items index.later) h)
    by_case (inr h) = among-found key token deadline (heap_items index.later) (heap_items index.found) h

-- ---- of the index

pub KeepsEach-same : (old new : Index) → heap_items new.later ≡ heap_items old.later → heap_items new.found ≡ heap_items old.found → KeepsEach old new
KeepsEach-same old new terms others = record {
  each = λ key token deadline listed. subst (λ xs. listed_in key token deadline xs (heap_items new.found) ≡ true) (sym terms)
      (subst (λ ys. listed_in key token deadline (heap_items old.later) ys ≡ true) (sym others) listed);
}

pub KeepsEach-then : (old mid new : Index) → KeepsEach old mid → KeepsEach mid new → KeepsEach old new
KeepsEach-then old mid new before after = record {
  each = λ key token deadline listed. after.each key token deadline (before.each key token deadline listed);
}

pub KeepsEach-put : (x : Reverse Term) (old new : Index) → IsPermutation (x ∷ heap_items old.later) (heap_items new.later)
    → heap_items new.found ≡ heap_items old.found → KeepsEach old new
KeepsEach-put x old new more same = record {
  each = λ key token deadline listed. subst (λ ys. listed_in key token deadline (heap_items new.later) ys ≡ true) (sym same)
      (listed-put key token deadline x (heap_items old.later) (heap_items new.later) (heap_items old.found) more listed);
}

pub KeepsEach-moved : (x : Reverse Term) (y : Reverse Found) (old new : Index) → x.0.key ≡ y.0.key → x.0.token ≡ y.0.token
    → IsPermutation (heap_items old.later) (x ∷ heap_items new.later) → IsPermutation (y ∷ heap_items old.found) (heap_items new.found) → KeepsEach old new
KeepsEach-moved x y old new keys tokens less more = record {
  each = λ key token deadline listed. listed-moved key token deadline x y (heap_items old.later) (heap_items new.later)
      (heap_items old.found) (heap_items new.found) keys tokens less more listed;
}

-- a term that was put is listed
pub listed-put_itself : (term : Term) (old : List (Reverse Term)) (new : Index) → IsPermutation (record { 0 = term } ∷ old) (heap_items new.later)
    → is_listed term.key term.token term.deadline new ≡ true
listed-put_itself term old new more =
    among-later term.key term.token term.deadline (heap_items new.later) (heap_items new.found)
    (any-new (is_later term.key term.token term.deadline) (record { 0 = term }) old (heap_items new.later) more (is_later-itself term))

pub KeepsOthers-forgot : (y : Reverse Found) (old new : Index) → heap_items new.later ≡ heap_items old.later
    → IsPermutation (heap_items old.found) (y ∷ heap_items new.found) → KeepsOthers y.0.key y.0.token old new
KeepsOthers-forgot y old new same less = record {
  each = λ other its deadline apart listed. subst (λ xs. listed_in other its deadline xs (heap_items new.found) ≡ true) (sym same)
      (listed-forgot other its deadline y (heap_items old.later) (heap_items old.found) (heap_items new.found) apart less listed);
}

-- what has a key and a token is left out
pub KeepsOthers-terms : (key : QKey) (token : ℕ) (old new : Index)
    → IsPermutation (filter (λ x. not (is_same key token x.0.key x.0.token)) (heap_items old.later)) (heap_items new.later)
    → IsPermutation (filter (λ y. not (is_same key token y.0.key y.0.token)) (heap_items old.found)) (heap_items new.found)
    → KeepsOthers key token old new
KeepsOthers-terms key token old new terms others = record {
  each = λ other its deadline apart listed. listed-kept other its deadline (λ k t. not (is_same key token k t)) (heap_items old.later)
      (heap_items new.later) (heap_items old.found) (heap_items new.found)
      (λ k t same. ap not (is_same-apart key token other its k t apart same)) terms others listed;
}

-- the number of what is listed is the length of the lists
pub HasRoom-fewer : (key : QKey) (token was : ℕ) (old new : Index) → IsSound old
    → IsPermutation (filter (λ x. not (is_same key token x.0.key x.0.token)) (heap_items old.later)) (heap_items new.later)
    → IsPermutation (filter (λ y. not (is_same key token y.0.key y.0.token)) (heap_items old.found)) (heap_items new.found)
    → new.later.data.cap ≡ old.later.data.cap → new.found.data.cap ≡ old.found.data.cap
    → is_listed key token was old ≡ true → HasRoom new
HasRoom-fewer key token was old new sound terms others later_cap found_cap listed =
    let fewer = listed-fewer key token was (heap_items old.later) (heap_items new.later) (heap_items old.found) (heap_items new.found) terms others listed in
    let later_room = sound.later_room in
    let found_room = sound.found_room in
    record {
      later_more = omega (arith, old.later.data.ok.0, old.found.data.ok.0, new.later.data.ok.0, new.found.data.ok.0);
      found_more = omega (arith, old.later.data.ok.0, old.found.data.ok.0, new.later.data.ok.0, new.found.data.ok.0);
    }

-- ---- what is listed of what stands

pub ListsEach-keeps : (standing : QKey → List Quar) (old new : Index) → KeepsEach old new → ListsEach standing old → ListsEach standing new
ListsEach-keeps standing old new keeps lists =
    λ key token. IfSome_then (find (has_token token) (standing key)) (lists key token) (λ quar listed. keeps.each key token quar.deadline listed)

-- what holds of what is found, where finding it is a premise
IfSome-found : {X : Type 0} (o : Option X) (P Q : X → Type 0) → IfSome o P → ((x : X) → o ≡ Some x → P x → Q x) → IfSome o Q
IfSome-found None P Q h step = tt
IfSome-found (Some x) P Q h step = step x refl h

-- what is found is there
pub found-some : {X : Type 0} (o : Option X) (x : X) → o ≡ Some x → is_some o ≡ true
found-some o x e = ap is_some e

-- what doesn't stand is left out
pub ListsEach-ended : (standing : QKey → List Quar) (old new : Index)
    → IsPermutation (filter (λ x. is_some (find (has_token x.0.token) (standing x.0.key))) (heap_items old.later)) (heap_items new.later)
    → IsPermutation (filter (λ y. is_some (find (has_token y.0.token) (standing y.0.key))) (heap_items old.found)) (heap_items new.found)
    → ListsEach standing old → ListsEach standing new
ListsEach-ended standing old new terms others lists =
    λ key token. IfSome-found (find (has_token token) (standing key)) _ _ (lists key token) (λ quar stands listed. listed-kept key token quar.deadline
    (λ k t. is_some (find (has_token t) (standing k))) (heap_items old.later) (heap_items new.later) (heap_items old.found) (heap_items new.found)
    (still key token quar stands) terms others listed)
  where
    still : (key : QKey) (token : ℕ) (quar : Quar) → find (has_token token) (standing key) ≡ Some quar
        → (k : QKey) (t : ℕ) → is_same key token k t ≡ true → is_some (find (has_token t) (standing k)) ≡ true
    still key token quar stands k t same =
        let one = is_same-true key token k t same in
        (λ i. is_some (find (has_token (one.1 i)) (standing (sym one.0 i)))) ∙ found-some _ quar stands

-- one is found no longer, which doesn't stand
pub ListsEach-forgot : (standing : QKey → List Quar) (key : QKey) (token : ℕ) (old new : Index) → find (has_token token) (standing key) ≡ None
    → KeepsOthers key token old new → ListsEach standing old → ListsEach standing new
ListsEach-forgot standing key token old new gone keeps lists =
    λ k t. IfSome-found (find (has_token t) (standing k)) _ _ (lists k t) (λ quar stands listed. keeps.each k t quar.deadline
    (apart k t quar stands (is_same k t key token) refl) listed)
  where
    apart : (k : QKey) (t : ℕ) (quar : Quar) → find (has_token t) (standing k) ≡ Some quar → (b : Bool) → is_same k t key token ≡ b → b ≡ false
    apart k t quar stands false e = refl
    apart k t quar stands true e =
        let one = is_same-true k t key token e in
        let none : None ≡ Some quar = sym gone ∙ (λ i. find (has_token (one.1 i)) (standing (sym one.0 i))) ∙ stands in
        absurd (cc)

-- one is found no longer, and its quarantine is listed by its deadline
pub ListsEach-again : (standing : QKey → List Quar) (key : QKey) (token : ℕ) (quar : Quar) (old mid new : Index)
    → find (has_token token) (standing key) ≡ Some quar → KeepsOthers key token old mid → KeepsEach mid new
    → is_listed key token quar.deadline new ≡ true → ListsEach standing old → ListsEach standing new
ListsEach-again standing key token quar old mid new stands forgot put listed lists =
    λ k t. IfSome-found (find (has_token t) (standing k)) _ _ (lists k t) (λ q there before. by_test k t q there before (is_same k t key token) refl)
  where
    by_test : (k : QKey) (t : ℕ) (q : Quar) → find (has_token t) (standing k) ≡ Some q → is_listed k t q.deadline old ≡ true
        → (b : Bool) → is_same k t key token ≡ b → is_listed k t q.deadline new ≡ true
    by_test k t q there before false e = put.each k t q.deadline (forgot.each k t q.deadline e before)
    by_test k t q there before true e =
        let one = is_same-true k t key token e in
        let both : Some quar ≡ Some q = sym stands ∙ (λ i. find (has_token (one.1 i)) (standing (sym one.0 i))) ∙ there in
        let its : quar ≡ q = cc in
        (λ i. is_listed (one.0 i) (sym one.1 i) (sym its i).deadline new) ∙ listed
