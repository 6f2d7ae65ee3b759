-- The list of entries: what is looked up, left, replaced and promoted, and that a sound table stays sound.
use Rattle.std.proofs.Common.{◌≡◌, ◌≢◌, ℕ, suc, ◌+◌, ◌||◌, is_some, ◌≤◌, Bool, true, false, cond, not, Option, Some, None, option_map, List}
use Rattle.std.proofs.Common.{[], ◌∷◌, ◌++◌, length, ◌<◌, filter, find, length-append, refl, sym, ap, subst, ◌∙◌, inl, inr, arith}
use Rattle.std.specs.Option.{option_or, option_to_list}
use Rattle.std.proofs.lemmas.List.{append-nil}
use Rattle.std.specs.List.{list_any}
use Rattle.std.proofs.lemmas.Bool.{cases_Bool, cond_both, false≢true}
use Rattle.rows_model.specs.declared.keys.QKey.{QKey}
use Rattle.rows_model.specs.Key.{same_key}
use Rattle.entry_table.specs.Entries.{Item, lookup, without, replaced, keys, DistinctKeys, Table, IsSound, promoted}
use Rattle.rows_model.proofs.SameKey.{same_key-true, same_key-refl, same_key-swap}

-- what a look-up finds: at a list of an entry and more
picked : (b : Bool) (e : Item) (rest : Option Item) → option_map {U = List ℕ × ℕ} (λ (x : Item). (x.1, x.2)) (cond b (Some e) rest)
    ≡ cond b (Some (e.1, e.2)) (option_map {U = List ℕ × ℕ} (λ (x : Item). (x.1, x.2)) rest)
picked true e rest = refl
picked false e rest = refl

pub lookup-nil : (q : QKey) → lookup q [] ≡ None
unfolding lookup
lookup-nil q = refl

pub lookup-cons : (q : QKey) (e : Item) (list : List Item) → lookup q (e ∷ list) ≡ cond (same_key e.0 q) (Some (e.1, e.2)) (lookup q list)
unfolding lookup
lookup-cons q e list = picked (same_key e.0 q) e (find (λ (x : Item). same_key x.0 q) list)

pub without-nil : (k : QKey) → without k [] ≡ []
unfolding without
without-nil k = refl

pub without-cons : (k : QKey) (e : Item) (list : List Item) → without k (e ∷ list) ≡ cond (same_key e.0 k) (without k list) (e ∷ without k list)
unfolding without
without-cons k e list =
    elim (same_key e.0 k) as (λ b. cond (not b) (e ∷ without k list) (without k list)
    ≡ cond b (without k list) (e ∷ without k list)) [ true ↦ refl | false ↦ refl ]

pub replaced-nil : (k : QKey) (v : List ℕ) (s : ℕ) → replaced k v s [] ≡ []
unfolding replaced
replaced-nil k v s = refl

pub replaced-cons : (k : QKey) (v : List ℕ) (s : ℕ) (e : Item) (list : List Item)
    → replaced k v s (e ∷ list) ≡ cond (same_key e.0 k) (e.0, v, s) e ∷ replaced k v s list
unfolding replaced
replaced-cons k v s e list = refl

pub keys-nil : keys [] ≡ []
unfolding keys
keys-nil = refl

pub keys-cons : (e : Item) (list : List Item) → keys (e ∷ list) ≡ e.0 ∷ keys list
unfolding keys
keys-cons e list = refl

-- looked up after a removal
lookup-without-step : (k q : QKey) (e : Item) (list : List Item)
    → lookup q (without k list) ≡ cond (same_key k q) None (lookup q list) → lookup q (without k (e ∷ list)) ≡ cond (same_key k q) None (lookup q (e ∷ list))
lookup-without-step k q e list rest = grind (arith, lookup-cons, without-cons, same_key-true, same_key-refl)

cond_same : {A : Type 0} (b : Bool) (x : A) → x ≡ cond b x x
cond_same true x = refl
cond_same false x = refl

pub lookup-without : (k q : QKey) (list : List Item) → lookup q (without k list) ≡ cond (same_key k q) None (lookup q list)
lookup-without k q [] = rw (without-nil, lookup-nil) (cond_same (same_key k q) None)
lookup-without k q (e ∷ list) = lookup-without-step k q e list (lookup-without k q list)

-- a look-up of the key that was put in front, or of another one
pub lookup-put : (k q : QKey) (v : List ℕ) (s : ℕ) (list : List Item)
    → lookup q ((k, v, s) ∷ without k list) ≡ cond (same_key k q) (Some (v, s)) (lookup q list)
lookup-put k q v s list = grind (arith, lookup-cons q (k, v, s) (without k list), lookup-without k q list)

absent-without-step : (k : QKey) (e : Item) (list : List Item)
    → (lookup k list ≡ None → without k list ≡ list) → lookup k (e ∷ list) ≡ None → without k (e ∷ list) ≡ e ∷ list
absent-without-step k e list rest h = grind (arith, lookup-cons, without-cons, rest)

-- where a key isn't there, nothing is removed
pub without-absent : (k : QKey) (list : List Item) → lookup k list ≡ None → without k list ≡ list
without-absent k [] h = without-nil k
without-absent k (e ∷ list) h = absent-without-step k e list (without-absent k list) h

lookup-append-step : (q : QKey) (e : Item) (xs ys : List Item)
    → lookup q (xs ++ ys) ≡ option_or (lookup q xs) (lookup q ys) → lookup q (e ∷ (xs ++ ys)) ≡ option_or (lookup q (e ∷ xs)) (lookup q ys)
lookup-append-step q e xs ys rest = grind (arith, lookup-cons)

pub lookup-append : (q : QKey) (xs ys : List Item) → lookup q (xs ++ ys) ≡ option_or (lookup q xs) (lookup q ys)
lookup-append q [] ys = rw lookup-nil refl
lookup-append q (e ∷ xs) ys = lookup-append-step q e xs ys (lookup-append q xs ys)

-- a key that isn't in the whole is in neither part
pub absent-parts : (q : QKey) (xs ys : List Item) → lookup q (xs ++ ys) ≡ None → (lookup q xs ≡ None) × (lookup q ys ≡ None)
absent-parts q xs ys h = split (lookup q xs) (lookup q ys) (sym (lookup-append q xs ys) ∙ h)
  where
    split : (a b : Option (List ℕ × ℕ)) → option_or a b ≡ None → (a ≡ None) × (b ≡ None)
    split None b e = (refl, e)
    split (Some x) b e = absurd (cc)

without-append-step : (k : QKey) (e : Item) (xs ys : List Item)
    → without k (xs ++ ys) ≡ without k xs ++ without k ys → without k (e ∷ (xs ++ ys)) ≡ without k (e ∷ xs) ++ without k ys
without-append-step k e xs ys rest = grind (arith, without-cons)

pub without-append : (k : QKey) (xs ys : List Item) → without k (xs ++ ys) ≡ without k xs ++ without k ys
without-append k [] ys = rw without-nil refl
without-append k (e ∷ xs) ys = without-append-step k e xs ys (without-append k xs ys)

replaced-append-step : (k : QKey) (v : List ℕ) (s : ℕ) (e : Item) (xs ys : List Item)
    → replaced k v s (xs ++ ys) ≡ replaced k v s xs ++ replaced k v s ys → replaced k v s (e ∷ (xs ++ ys)) ≡ replaced k v s (e ∷ xs) ++ replaced k v s ys
replaced-append-step k v s e xs ys rest =
    rw (replaced-cons k v s e (xs ++ ys), replaced-cons k v s e xs) (ap (λ (l : List Item). cond (same_key e.0 k) (e.0, v, s) e ∷ l) rest)

pub replaced-append : (k : QKey) (v : List ℕ) (s : ℕ) (xs ys : List Item) → replaced k v s (xs ++ ys) ≡ replaced k v s xs ++ replaced k v s ys
replaced-append k v s [] ys = rw replaced-nil refl
replaced-append k v s (e ∷ xs) ys = replaced-append-step k v s e xs ys (replaced-append k v s xs ys)

absent-replaced-step : (k : QKey) (v : List ℕ) (s : ℕ) (e : Item) (list : List Item)
    → (lookup k list ≡ None → replaced k v s list ≡ list) → lookup k (e ∷ list) ≡ None → replaced k v s (e ∷ list) ≡ e ∷ list
absent-replaced-step k v s e list rest h = grind (arith, lookup-cons, replaced-cons, rest)

-- where a key isn't there, nothing is replaced
pub replaced-absent : (k : QKey) (v : List ℕ) (s : ℕ) (list : List Item) → lookup k list ≡ None → replaced k v s list ≡ list
replaced-absent k v s [] h = replaced-nil k v s
replaced-absent k v s (e ∷ list) h = absent-replaced-step k v s e list (replaced-absent k v s list) h

-- of an entry and more, where the entry has the key that is replaced, and where it hasn't
lookup-replaced-hit : (k q : QKey) (v : List ℕ) (s : ℕ) (e : Item) (list : List Item) → same_key e.0 k ≡ true
    → lookup q (replaced k v s list) ≡ cond (same_key k q) (option_map (λ _. (v, s)) (lookup q list)) (lookup q list)
    → lookup q (replaced k v s (e ∷ list)) ≡ cond (same_key k q) (option_map (λ _. (v, s)) (lookup q (e ∷ list))) (lookup q (e ∷ list))
lookup-replaced-hit k q v s e list hit rest =
    let same : e.0 ≡ k = same_key-true e.0 k hit in
    let tests : same_key e.0 q ≡ same_key k q = ap (λ (x : QKey). same_key x q) same in
    let shape : replaced k v s (e ∷ list) ≡ (e.0, v, s) ∷ replaced k v s list = grind (arith, replaced-cons k v s e list) in
    rw (shape, lookup-cons q (e.0, v, s) (replaced k v s list), lookup-cons q e list, rest, tests) (by_test (same_key k q) (lookup q list))
  where
    by_test : (b : Bool) (r : Option (List ℕ × ℕ)) → cond b (Some (v, s)) (cond b (option_map (λ _. (v, s)) r) r)
        ≡ cond b (option_map (λ _. (v, s)) (cond b (Some (e.1, e.2)) r)) (cond b (Some (e.1, e.2)) r)
    by_test true r = refl
    by_test false r = refl

lookup-replaced-miss : (k q : QKey) (v : List ℕ) (s : ℕ) (e : Item) (list : List Item) → same_key e.0 k ≡ false
    → lookup q (replaced k v s list) ≡ cond (same_key k q) (option_map (λ _. (v, s)) (lookup q list)) (lookup q list)
    → lookup q (replaced k v s (e ∷ list)) ≡ cond (same_key k q) (option_map (λ _. (v, s)) (lookup q (e ∷ list))) (lookup q (e ∷ list))
lookup-replaced-miss k q v s e list miss rest =
    let shape : replaced k v s (e ∷ list) ≡ e ∷ replaced k v s list = grind (arith, replaced-cons k v s e list) in
    rw (shape, lookup-cons q e (replaced k v s list), lookup-cons q e list, rest) (by_test (same_key e.0 q) (same_key k q) (lookup q list) apart)
  where
    apart : same_key e.0 q ≡ true → same_key k q ≡ false
    apart h = ap (λ (x : QKey). same_key k x) (sym (same_key-true e.0 q h)) ∙ (same_key-swap k e.0 ∙ miss)

    by_test : (a b : Bool) (r : Option (List ℕ × ℕ)) → (a ≡ true → b ≡ false) → cond a (Some (e.1, e.2)) (cond b (option_map (λ _. (v, s)) r) r)
        ≡ cond b (option_map (λ _. (v, s)) (cond a (Some (e.1, e.2)) r)) (cond a (Some (e.1, e.2)) r)
    by_test true true r h = absurd (false≢true (sym (h refl)))
    by_test true false r h = refl
    by_test false b r h = refl

lookup-replaced-step : (k q : QKey) (v : List ℕ) (s : ℕ) (e : Item) (list : List Item)
    → lookup q (replaced k v s list) ≡ cond (same_key k q) (option_map (λ _. (v, s)) (lookup q list)) (lookup q list)
    → lookup q (replaced k v s (e ∷ list)) ≡ cond (same_key k q) (option_map (λ _. (v, s)) (lookup q (e ∷ list))) (lookup q (e ∷ list))
lookup-replaced-step k q v s e list rest =
    elim (cases_Bool (same_key e.0 k)) [ inl hit ↦ lookup-replaced-hit k q v s e list hit rest | inr miss ↦ lookup-replaced-miss k q v s e list miss rest ]

-- a look-up after the value of a key was replaced
pub lookup-replaced : (k q : QKey) (v : List ℕ) (s : ℕ) (list : List Item)
    → lookup q (replaced k v s list) ≡ cond (same_key k q) (option_map (λ _. (v, s)) (lookup q list)) (lookup q list)
lookup-replaced k q v s [] = rw (replaced-nil, lookup-nil) (cond_same (same_key k q) None)
lookup-replaced k q v s (e ∷ list) = lookup-replaced-step k q v s e list (lookup-replaced k q v s list)

-- what stands round the entry of a key, where no two entries have one key
apart_first : (a : Item) (front : List Item) (e : Item) (back : List Item) (q : QKey)
    → same_key e.0 q ≡ true → lookup a.0 (front ++ e ∷ back) ≡ None → lookup q front ≡ None → lookup q (a ∷ front) ≡ None
apart_first a front e back q hit fresh absent =
    elim (cases_Bool (same_key a.0 q)) [ inl same ↦ absurd (cc (sym fresh ∙ found same)) | inr miss ↦ rw (lookup-cons, miss) absent ]
  where
    found : same_key a.0 q ≡ true → lookup a.0 (front ++ e ∷ back) ≡ Some (e.1, e.2)
    found same =
        let at : a.0 ≡ q = same_key-true a.0 q same in
        rw (at, lookup-append q front (e ∷ back), absent, lookup-cons q e back, hit) refl

pub apart_from : (front : List Item) (e : Item) (back : List Item) (q : QKey)
    → same_key e.0 q ≡ true → DistinctKeys (front ++ e ∷ back) → (lookup q front ≡ None) × (lookup q back ≡ None)
apart_from [] e back q hit distinct = (lookup-nil q, ap (λ (x : QKey). lookup x back) (sym (same_key-true e.0 q hit)) ∙ distinct.0)
apart_from (a ∷ front) e back q hit distinct =
    let rest = apart_from front e back q hit distinct.1 in
    (apart_first a front e back q hit distinct.0 rest.0, rest.1)

-- DistinctKeys of parts
pub DistinctKeys-front : (xs ys : List Item) → DistinctKeys (xs ++ ys) → DistinctKeys xs
DistinctKeys-front [] ys h = tt
DistinctKeys-front (e ∷ xs) ys h = ((absent-parts e.0 xs ys h.0).0, DistinctKeys-front xs ys h.1)

still_absent : (k : QKey) (e : Item) (list : List Item) → lookup e.0 list ≡ None → lookup e.0 (without k list) ≡ None
still_absent k e list h = rw (lookup-without k e.0 list, h) (sym (cond_same (same_key k e.0) None))

removed : (k : QKey) (list : List Item) → lookup k (without k list) ≡ None
removed k list = rw (lookup-without k k list, same_key-refl k) refl

unfound : (k : QKey) (v : List ℕ) (s : ℕ) (e : Item) (list : List Item) → lookup e.0 list ≡ None → lookup e.0 (replaced k v s list) ≡ None
unfound k v s e list h = rw (lookup-replaced k e.0 v s list, h) (sym (cond_same (same_key k e.0) None))

pub DistinctKeys-without : (k : QKey) (list : List Item) → DistinctKeys list → DistinctKeys (without k list)
DistinctKeys-without k [] h = rw without-nil tt
DistinctKeys-without k (e ∷ list) h =
    rw without-cons
    (cond_both (same_key e.0 k) (without k list) (e ∷ without k list) DistinctKeys
    (λ _. DistinctKeys-without k list h.1) (λ _. (still_absent k e list h.0, DistinctKeys-without k list h.1)))

-- an entry in front of the others keeps the keys distinct
pub DistinctKeys-put : (k : QKey) (v : List ℕ) (s : ℕ) (list : List Item) → DistinctKeys list → DistinctKeys ((k, v, s) ∷ without k list)
DistinctKeys-put k v s list h = (removed k list, DistinctKeys-without k list h)

pub DistinctKeys-replaced : (k : QKey) (v : List ℕ) (s : ℕ) (list : List Item) → DistinctKeys list → DistinctKeys (replaced k v s list)
DistinctKeys-replaced k v s [] h = rw replaced-nil tt
DistinctKeys-replaced k v s (e ∷ list) h =
    rw replaced-cons
    (cond_both (same_key e.0 k) (e.0, v, s) e (λ (x : Item). DistinctKeys (x ∷ replaced k v s list))
    (λ _. (unfound k v s e list h.0, DistinctKeys-replaced k v s list h.1)) (λ _. (unfound k v s e list h.0, DistinctKeys-replaced k v s list h.1)))

-- a list that was split at the entry of a key
pub lookup-split : (q : QKey) (front : List Item) (e : Item) (back : List Item)
    → lookup q front ≡ None → same_key e.0 q ≡ true → lookup q (front ++ e ∷ back) ≡ Some (e.1, e.2)
lookup-split q front e back absent hit = grind (arith, lookup-append q front (e ∷ back), lookup-cons q e back)

pub without-split : (q : QKey) (front : List Item) (e : Item) (back : List Item)
    → lookup q front ≡ None → lookup q back ≡ None → same_key e.0 q ≡ true → without q (front ++ e ∷ back) ≡ front ++ back
without-split q front e back absent behind hit =
    grind (arith, without-append q front (e ∷ back), without-cons q e back, without-absent q front absent, without-absent q back behind)

pub replaced-split : (q : QKey) (v : List ℕ) (s : ℕ) (front : List Item) (e : Item) (back : List Item)
    → lookup q front ≡ None → lookup q back ≡ None → same_key e.0 q ≡ true → replaced q v s (front ++ e ∷ back) ≡ front ++ (e.0, v, s) ∷ back
replaced-split q v s front e back absent behind hit =
    grind (arith, replaced-append q v s front (e ∷ back), replaced-cons q v s e back, replaced-absent q v s front absent, replaced-absent q v s back behind)

-- the last entry that was dropped
pub lookup-init : (q : QKey) (init : List Item) (last : Item)
    → DistinctKeys (init ++ last ∷ []) → lookup q init ≡ cond (same_key last.0 q) None (lookup q (init ++ last ∷ []))
lookup-init q init last distinct =
    elim (cases_Bool (same_key last.0 q)) [
      | inl hit ↦ rw hit ((apart_from init last [] q hit distinct).0)
      | inr miss ↦ rw (miss, lookup-append q init (last ∷ []), lookup-cons q last [], miss, lookup-nil) (or_none (lookup q init))
    ]
  where
    or_none : (o : Option (List ℕ × ℕ)) → o ≡ option_or o None
    or_none None = refl
    or_none (Some x) = refl

-- lengths
pub length-without : (k : QKey) (list : List Item) → length (without k list) ≤ length list
length-without k [] = rw without-nil (omega arith)
length-without k (e ∷ list) =
    let rest : length (without k list) ≤ length list = length-without k list in
    rw without-cons
    (cond_both (same_key e.0 k) (without k list) (e ∷ without k list) (λ (l : List Item). length l ≤ length (e ∷ list)) (λ _. omega arith) (λ _. omega arith))

length-found-step : (k : QKey) (e : Item) (list : List Item) → (lookup k list ≢ None → length (without k list) + 1 ≡ length list)
    → lookup e.0 list ≡ None → lookup k (e ∷ list) ≢ None → length (without k (e ∷ list)) + 1 ≡ length (e ∷ list)
length-found-step k e list rest fresh there =
    elim (cases_Bool (same_key e.0 k)) [ inl hit ↦ at_hit hit | inr miss ↦ at_miss miss ]
  where
    at_hit : same_key e.0 k ≡ true → length (without k (e ∷ list)) + 1 ≡ length (e ∷ list)
    at_hit hit =
        let gone : without k list ≡ list = without-absent k list (ap (λ (x : QKey). lookup x list) (sym (same_key-true e.0 k hit)) ∙ fresh) in
        rw (without-cons, hit, gone) (omega arith)

    at_miss : same_key e.0 k ≡ false → length (without k (e ∷ list)) + 1 ≡ length (e ∷ list)
    at_miss miss =
        let shorter : length (without k list) + 1 ≡ length list = rest (λ h. there (rw (lookup-cons, miss) h)) in
        rw (without-cons, miss) (omega arith)

pub length-without-found : (k : QKey) (list : List Item) → DistinctKeys list → lookup k list ≢ None → length (without k list) + 1 ≡ length list
length-without-found k [] distinct there = absurd (there (lookup-nil k))
length-without-found k (e ∷ list) distinct there = length-found-step k e list (length-without-found k list distinct.1) distinct.0 there

pub length-replaced : (k : QKey) (v : List ℕ) (s : ℕ) (list : List Item) → length (replaced k v s list) ≡ length list
length-replaced k v s [] = rw replaced-nil refl
length-replaced k v s (e ∷ list) = rw replaced-cons (ap suc (length-replaced k v s list))

-- keys
keys-without-step : (k : QKey) (e : Item) (list : List Item)
    → keys (without k list) ≡ filter (λ q. not (same_key q k)) (keys list) → keys (without k (e ∷ list)) ≡ filter (λ q. not (same_key q k)) (keys (e ∷ list))
keys-without-step k e list rest = rw (without-cons, keys-cons e list) (by_test (same_key e.0 k))
  where
    by_test : (b : Bool) → keys (cond b (without k list) (e ∷ without k list))
        ≡ cond (not b) (e.0 ∷ filter (λ q. not (same_key q k)) (keys list)) (filter (λ q. not (same_key q k)) (keys list))
    by_test true = rest
    by_test false = keys-cons e (without k list) ∙ ap (λ (l : List QKey). e.0 ∷ l) rest

pub keys-without : (k : QKey) (list : List Item) → keys (without k list) ≡ filter (λ q. not (same_key q k)) (keys list)
keys-without k [] = rw (without-nil, keys-nil) refl
keys-without k (e ∷ list) = keys-without-step k e list (keys-without k list)

pub keys-replaced : (k : QKey) (v : List ℕ) (s : ℕ) (list : List Item) → keys (replaced k v s list) ≡ keys list
keys-replaced k v s [] = rw replaced-nil refl
keys-replaced k v s (e ∷ list) = rw (replaced-cons, keys-cons e list) (by_test (same_key e.0 k) (keys-replaced k v s list))
  where
    by_test : (b : Bool) → keys (replaced k v s list) ≡ keys list → keys (cond b (e.0, v, s) e ∷ replaced k v s list) ≡ e.0 ∷ keys list
    by_test true rest = keys-cons (e.0, v, s) (replaced k v s list) ∙ ap (λ (l : List QKey). e.0 ∷ l) rest
    by_test false rest = keys-cons e (replaced k v s list) ∙ ap (λ (l : List QKey). e.0 ∷ l) rest

-- a key has an entry exactly where it is one of the keys
pub is_some-lookup : (q : QKey) (list : List Item) → is_some (lookup q list) ≡ list_any (λ k. same_key k q) (keys list)
is_some-lookup q [] = rw (lookup-nil, keys-nil) refl
is_some-lookup q (e ∷ list) = rw (lookup-cons, keys-cons) (by_test (same_key e.0 q) (is_some-lookup q list))
  where
    by_test : (b : Bool) → is_some (lookup q list) ≡ list_any (λ k. same_key k q) (keys list)
        → is_some (cond b (Some (e.1, e.2)) (lookup q list)) ≡ (b || list_any (λ k. same_key k q) (keys list))
    by_test true h = refl
    by_test false h = h

-- what stays sound
pub IsSound-without : (k : QKey) (room : ℕ) (list : List Item)
    → IsSound (record { room = room; list = list }) → IsSound (record { room = room; list = without k list })
IsSound-without k room list h =
    let shorter : length (without k list) ≤ length list = length-without k list in
    record { roomy = h.roomy; within = omega (arith, h.within); distinct = DistinctKeys-without k list h.distinct }

pub IsSound-replaced : (k : QKey) (v : List ℕ) (s : ℕ) (room : ℕ) (list : List Item)
    → IsSound (record { room = room; list = list }) → IsSound (record { room = room; list = replaced k v s list })
IsSound-replaced k v s room list h =
    let same : length (replaced k v s list) ≡ length list = length-replaced k v s list in
    record { roomy = h.roomy; within = omega (arith, h.within); distinct = DistinctKeys-replaced k v s list h.distinct }

-- with the entry of a key that is there in front
pub IsSound-put : (k : QKey) (v : List ℕ) (s : ℕ) (room : ℕ) (list : List Item)
    → lookup k list ≢ None → IsSound (record { room = room; list = list }) → IsSound (record { room = room; list = (k, v, s) ∷ without k list })
IsSound-put k v s room list there h =
    let shorter : length (without k list) + 1 ≡ length list = length-without-found k list h.distinct there in
    record { roomy = h.roomy; within = omega (arith, h.within); distinct = DistinctKeys-put k v s list h.distinct }

-- with a new key in front, where there is room
pub IsSound-added : (k : QKey) (v : List ℕ) (s : ℕ) (room : ℕ) (list : List Item)
    → lookup k list ≡ None → length list < room → IsSound (record { room = room; list = list }) → IsSound (record { room = room; list = (k, v, s) ∷ list })
IsSound-added k v s room list absent fits h =
    record { roomy = h.roomy; within = omega (arith, fits); distinct = (absent, h.distinct) }

-- with a new key in front, and less the last entry
pub IsSound-pushed : (k : QKey) (v : List ℕ) (s : ℕ) (room : ℕ) (init : List Item) (last : Item)
    → lookup k (init ++ last ∷ []) ≡ None → IsSound (record { room = room; list = init ++ last ∷ [] })
    → IsSound (record { room = room; list = (k, v, s) ∷ init })
IsSound-pushed k v s room init last absent h =
    let longer : length (init ++ last ∷ []) ≡ length init + 1 = length-append init (last ∷ []) in
    record {
      roomy = h.roomy;
      within = omega (arith, h.within);
      distinct = ((absent-parts k init (last ∷ []) absent).0, DistinctKeys-front init (last ∷ []) h.distinct);
    }

-- the table with an entry brought to the front
pub promoted-absent : (k : QKey) (t : Table) → lookup k t.list ≡ None → promoted k t ≡ t
unfolding promoted
promoted-absent k t absent = rw absent refl

pub promoted-found : (k : QKey) (t : Table) (v : List ℕ) (s : ℕ)
    → lookup k t.list ≡ Some (v, s) → promoted k t ≡ record t { list = (k, v, s) ∷ without k t.list }
unfolding promoted
promoted-found k t v s there = rw there refl

-- no look-up is changed by bringing an entry to the front
pub lookup-promoted : (k q : QKey) (t : Table) → lookup q (promoted k t).list ≡ lookup q t.list
lookup-promoted k q t = by_entry (lookup k t.list) refl
  where
    by_entry : (o : Option (List ℕ × ℕ)) → lookup k t.list ≡ o → lookup q (promoted k t).list ≡ lookup q t.list
    by_entry None absent = ap (λ (u : Table). lookup q u.list) (promoted-absent k t absent)
    by_entry (Some f) there = ap (λ (u : Table). lookup q u.list) (promoted-found k t f.0 f.1 there)
        ∙ (lookup-put k q f.0 f.1 t.list ∙ by_test (same_key k q) refl)
      where
        by_test : (b : Bool) → same_key k q ≡ b → cond b (Some (f.0, f.1)) (lookup q t.list) ≡ lookup q t.list
        by_test true same = sym there ∙ ap (λ (x : QKey). lookup x t.list) (same_key-true k q same)
        by_test false apart = refl

-- bringing an entry to the front leaves the table sound
pub IsSound-promoted : (k : QKey) (t : Table) → IsSound t → IsSound (promoted k t)
IsSound-promoted k t h = by_entry (lookup k t.list) refl
  where
    by_entry : (o : Option (List ℕ × ℕ)) → lookup k t.list ≡ o → IsSound (promoted k t)
    by_entry None absent = subst IsSound (sym (promoted-absent k t absent)) h
    by_entry (Some f) there = subst IsSound (sym (promoted-found k t f.0 f.1 there)) (IsSound-put k f.0 f.1 t.room t.list (λ e. none_is (sym there ∙ e)) h)
      where
        none_is : Some f ≡ None → ⊥
        none_is e = cc

pub keys-append : (xs ys : List Item) → keys (xs ++ ys) ≡ keys xs ++ keys ys
keys-append [] ys = rw keys-nil refl
keys-append (e ∷ xs) ys = rw (keys-cons e xs, keys-cons e (xs ++ ys)) (ap (λ (l : List QKey). e.0 ∷ l) (keys-append xs ys))

pub length-keys : (list : List Item) → length (keys list) ≡ length list
length-keys [] = rw keys-nil refl
length-keys (e ∷ list) = rw keys-cons (ap suc (length-keys list))

-- what `put` leaves, where it dropped nothing
pub put-kept : (new list : List Item) → new ++ option_to_list None ≡ list → new ≡ list
put-kept new list h = sym (append-nil new) ∙ h

-- and where it dropped the last entry
pub put-dropped : (new : List Item) (last e : Item) (old : List Item)
    → new ++ option_to_list (Some last) ≡ e ∷ old → 0 < length old → (init : List Item) × (new ≡ e ∷ init) × (old ≡ init ++ last ∷ [])
put-dropped [] last e old h some = absurd (none_left (ap length h))
  where
    none_left : length (last ∷ []) ≡ length (e ∷ old) → ⊥
    none_left h = omega (arith, h, some)
put-dropped (f ∷ new) last e old h some = (new, first, sym rest)
  where
    first : f ∷ new ≡ e ∷ new
    first = cc

    rest : new ++ last ∷ [] ≡ old
    rest = cc

-- a look-up after a new key was put and the last entry dropped
pub lookup-put_dropping : (k q : QKey) (v : List ℕ) (s : ℕ) (init : List Item) (last : Item) → DistinctKeys (init ++ last ∷ [])
    → lookup q ((k, v, s) ∷ init) ≡ cond (same_key k q) (Some (v, s)) (cond (same_key last.0 q) None (lookup q (init ++ last ∷ [])))
lookup-put_dropping k q v s init last distinct =
    lookup-cons q (k, v, s) init ∙ ap (λ (o : Option (List ℕ × ℕ)). cond (same_key k q) (Some (v, s)) o) (lookup-init q init last distinct)
