-- What `push` leaves in the cache and answers, against what `put` owes.
use Rattle.std.proofs.Common.{◌≡◌, ℕ, zero, suc, ◌+◌, ◌-◌, ◌<◌, ◌≤◌, ◌↔◌, Bool, true, false, cond, Option, Some, None, IsSome, IsNone}
use Rattle.std.proofs.Common.{is_some, option_map, List, [], ◌∷◌, ◌++◌, length, take, refl, sym, ap, subst, ◌∙◌, arith}
use Rattle.std.specs.Option.{option_to_list, option_map_or}
use Rattle.std.specs.List.{slice_get}
use Rattle.std.specs.Map as kept
use Rattle.std.proofs.lemmas.List.{append-nil, take_all}
use Rattle.std.proofs.lemmas.Bool.{false≢true}
use Rattle.lru.specs.LruCache as lru
use Rattle.rows_model.specs.declared.keys.QKey.{QKey}
use Rattle.rows_model.specs.Key.{same_key}
use Rattle.rows_model.proofs.SameKey.{same_key-refl}
use Rattle.entry_table.specs.declared.table.Held.{Held}
use Rattle.entry_table.specs.Entries.{Item, Table, IsSound, lookup, without}
use Rattle.entry_table.specs.Kept.{held_item, shown_all, shown_table, dropped_for}
use Rattle.entry_table.proofs.EntriesLemmas.{lookup-cons, without-absent, absent-parts, IsSound-put, IsSound-added, IsSound-pushed}
use Rattle.entry_table.proofs.KeptLemmas.{eq, value_of, shown_all-nil, shown_all-cons, shown_all-append, length-shown_all, lookup-entry}
use Rattle.entry_table.proofs.KeptLemmas.{lookup-shown_all, key-lookup_entry, shown_all-front, table_of}

-- what `put` owes of the table before it and after it, and of what it drops
pub record IsPut (k : QKey) (w : Held) (old new : Table) (dropped : Option Item) : Type 0 where
  pub list : new.list ++ option_to_list dropped ≡ (k, w.value, w.stamp) ∷ without k old.list
  pub drops : IsSome dropped ↔ (IsNone (lookup k old.list) × (length old.list ≡ old.room))
  pub sound : IsSound new

-- a list of at most one more than n, at its place n
last_split : {X : Type 0} (xs : List X) (n : ℕ) (x : X) → slice_get xs n ≡ Some x → length xs ≤ n + 1 → xs ≡ take n xs ++ x ∷ []
last_split [] n x at within = absurd (cc)
last_split (y ∷ []) zero x at within = ap (λ z. z ∷ []) (same at)
  where
    same : Some y ≡ Some x → y ≡ x
    same e = cc
last_split (y ∷ z ∷ xs) zero x at within = absurd (omega (arith, within))
last_split (y ∷ xs) (suc n) x at within = ap (λ l. y ∷ l) (last_split xs n x at (omega (arith, within)))

last_within : {X : Type 0} (xs : List X) (n : ℕ) (x : X) → slice_get xs n ≡ Some x → n < length xs
last_within [] n x at = absurd (cc)
last_within (y ∷ xs) zero x at = omega arith
last_within (y ∷ xs) (suc n) x at = omega (arith, last_within xs n x at)

past_end : {X : Type 0} (xs : List X) (n : ℕ) → slice_get xs n ≡ None → length xs ≤ n
past_end [] n at = omega arith
past_end (y ∷ xs) zero at = absurd (cc)
past_end (y ∷ xs) (suc n) at = omega (arith, past_end xs n at)

absent-one : (k : QKey) (e : Item) → lookup k (e ∷ []) ≡ None → same_key e.0 k ≡ false
absent-one k e absent = by_test (same_key e.0 k) (sym (lookup-cons k e []) ∙ absent)
  where
    by_test : (b : Bool) → cond b (Some (e.1, e.2)) (lookup k []) ≡ None → b ≡ false
    by_test true h = absurd (cc)
    by_test false h = refl

-- the key's own pair isn't dropped, and another one is
shows_own : (k : QKey) (old : Held) → dropped_for k (Some (k, old)) ≡ None
shows_own k old = rw (same_key-refl k) refl

shows_other : (k : QKey) (e : QKey × Held) → same_key e.0 k ≡ false → dropped_for k (Some e) ≡ Some (held_item e)
shows_other k e other = rw other refl

-- the entries with one more behind them
shown_all-last : (init : List (QKey × Held)) (last : QKey × Held) → shown_all (init ++ last ∷ []) ≡ shown_all init ++ held_item last ∷ []
shown_all-last init last = shown_all-append init (last ∷ [])
    ∙ ap (λ (l : List Item). shown_all init ++ l) (shown_all-cons last [] ∙ ap (λ (l : List Item). held_item last ∷ l) shown_all-nil)

-- where the key is there, its pair goes to the front
own : (k : QKey) (w : Held) (room : ℕ) (es : List (QKey × Held)) (e : QKey × Held) → kept.lookup_entry (eq k) es ≡ Some e
    → IsSound (table_of room (shown_all es))
    → IsPut k w (table_of room (shown_all es)) (table_of room (shown_all ((e.0, w) ∷ kept.remove_entry (eq k) es))) None
own k w room es e at sound =
    let front = shown_all-front k (e.0, w) es (key-lookup_entry k es e at) sound.distinct in
    let there : lookup k (shown_all es) ≡ Some (value_of e) = lookup-shown_all k es ∙ ap (option_map value_of) at in
    record {
      list = append-nil _ ∙ front;
      drops = ((λ h. absurd (false≢true h)), (λ h. absurd (found there h.0)));
      sound = subst (λ (l : List Item). IsSound (table_of room l))
          (sym front) (IsSound-put k w.value w.stamp room (shown_all es) (λ h. some_none (sym there ∙ h)) sound);
    }
  where
    some_none : {v : List ℕ × ℕ} → Some v ≡ None → ⊥
    some_none h = cc

    found : {v : List ℕ × ℕ} → lookup k (shown_all es) ≡ Some v → IsNone (lookup k (shown_all es)) → ⊥
    found there none = false≢true (sym none ∙ ap is_there there)
      where
        is_there : Option (List ℕ × ℕ) → Bool
        is_there None = false
        is_there (Some x) = true

-- the look-up of a key that isn't there, before a last entry and at it
absent-last : (k : QKey) (init : List (QKey × Held)) (last : QKey × Held)
    → lookup k (shown_all (init ++ last ∷ [])) ≡ None → (lookup k (shown_all init ++ held_item last ∷ []) ≡ None) × (same_key last.0 k ≡ false)
absent-last k init last absent =
    let whole : lookup k (shown_all init ++ held_item last ∷ []) ≡ None = ap (lookup k) (sym (shown_all-last init last)) ∙ absent in
    (whole, absent-one k (held_item last) (absent-parts k (shown_all init) (held_item last ∷ []) whole).1)

-- a key that isn't there, where the cache is full and drops its last entry
evicting : (k : QKey) (w : Held) (room : ℕ) (init : List (QKey × Held)) (last : QKey × Held) → lookup k (shown_all (init ++ last ∷ [])) ≡ None
    → length (init ++ last ∷ []) ≡ room → IsSound (table_of room (shown_all (init ++ last ∷ [])))
    → IsPut k w (table_of room (shown_all (init ++ last ∷ []))) (table_of room (shown_all ((k, w) ∷ init))) (Some (held_item last))
evicting k w room init last absent full sound =
    let split = shown_all-last init last in
    let front = shown_all-cons (k, w) init in
    record {
      list = ap (λ (l : List Item). l ++ held_item last ∷ []) front ∙ (ap (λ (l : List Item). (k, w.value, w.stamp) ∷ l) (sym split)
          ∙ ap (λ (l : List Item). (k, w.value, w.stamp) ∷ l) (sym (without-absent k (shown_all (init ++ last ∷ [])) absent)));
      drops = ((λ _. (ap is_some absent, length-shown_all (init ++ last ∷ []) ∙ full)), (λ _. refl));
      sound = subst (λ (l : List Item). IsSound (table_of room l)) (sym front)
          (IsSound-pushed k w.value w.stamp room (shown_all init) (held_item last)
          (absent-last k init last absent).0 (subst (λ (l : List Item). IsSound (table_of room l)) split sound));
    }

-- a key that isn't there, where there is room
adding : (k : QKey) (w : Held) (room : ℕ) (es : List (QKey × Held)) → lookup k (shown_all es) ≡ None
    → length es < room → IsSound (table_of room (shown_all es)) → IsPut k w (table_of room (shown_all es)) (table_of room (shown_all ((k, w) ∷ es))) None
adding k w room es absent fits sound =
    let front = shown_all-cons (k, w) es in
    let shorter : length (shown_all es) < room = subst (λ (n : ℕ). n < room) (sym (length-shown_all es)) fits in
    record {
      list = append-nil _ ∙ (front ∙ ap (λ (l : List Item). (k, w.value, w.stamp) ∷ l) (sym (without-absent k (shown_all es) absent)));
      drops = ((λ h. absurd (false≢true h)), (λ h. absurd (omega (arith, h.1, shorter))));
      sound = subst (λ (l : List Item). IsSound (table_of room l)) (sym front) (IsSound-added k w.value w.stamp room (shown_all es) absent shorter sound);
    }

-- a key that isn't there, by what stands at the cache's last place
at_last : (k : QKey) (w : Held) (room : ℕ) (es : List (QKey × Held)) (o : Option (QKey × Held)) → slice_get es (room - 1) ≡ o → lookup k (shown_all es) ≡ None
    → IsSound (table_of room (shown_all es))
    → IsPut k w (table_of room (shown_all es)) (table_of room (shown_all ((k, w) ∷ take (room - 1) es))) (dropped_for k o)
at_last k w room es None at absent sound =
    let past : length es ≤ room - 1 = past_end es (room - 1) at in
    let fits : length es < room = omega (arith, past, sound.roomy) in
    subst (λ (l : List (QKey × Held)). IsPut k w (table_of room (shown_all es)) (table_of room (shown_all ((k, w) ∷ l))) None)
    (sym (take_all (room - 1) es past)) (adding k w room es absent fits sound)
at_last k w room es (Some last) at absent sound =
    let within : length es ≤ room = subst (λ (n : ℕ). n ≤ room) (length-shown_all es) sound.within in
    let reached : room - 1 < length es = last_within es (room - 1) last at in
    let full : length es ≡ room = omega (arith, within, reached, sound.roomy) in
    let split : es ≡ take (room - 1) es ++ last ∷ [] = last_split es (room - 1) last at (omega (arith, full, sound.roomy)) in
    let as_split = subst (λ (l : List (QKey × Held)). (lookup k (shown_all l) ≡ None)
    × (length l ≡ room) × IsSound (table_of room (shown_all l))) split (absent, full, sound) in
    let put = evicting k w room (take (room - 1) es) last as_split.0 as_split.1 as_split.2 in
    let other : same_key last.0 k ≡ false = (absent-last k (take (room - 1) es) last as_split.0).1 in
    let shows : dropped_for k (Some last) ≡ Some (held_item last) = shows_other k last other in
    subst (λ (d : Option Item). IsPut k w (table_of room (shown_all es)) (table_of room (shown_all ((k, w) ∷ take (room - 1) es))) d) (sym shows)
    (subst (λ (l : List (QKey × Held)). IsPut k w (table_of room (shown_all l)) (table_of room (shown_all ((k, w) ∷ take (room - 1) es))) (Some (held_item last)))
    (sym split) put)

-- what `push` leaves and answers is what `put` owes
pub IsPut-push : (k : QKey) (w : Held) (c : lru.LruCache QKey Held)
    → IsSound (shown_table c)
    → IsPut k w (shown_table c) (shown_table (lru.lru_cache (lru.put_entries eq c k w) c.cap)) (dropped_for k (lru.displaced eq c k w))
IsPut-push k w c sound =
    subst (λ (o : Option Held). IsPut k w (shown_table c) (shown_table (lru.lru_cache (lru.put_entries eq c k w) c.cap))
    (dropped_for k (option_map_or (λ old. Some (k, old)) o (slice_get c.entries (c.cap - 1)))))
    (sym (lookup-entry k c.entries)) (by_entry (kept.lookup_entry (eq k) c.entries) refl)
  where
    by_entry : (o : Option (QKey × Held)) → kept.lookup_entry (eq k) c.entries ≡ o
        → IsPut k w (shown_table c)
        (shown_table (lru.lru_cache (option_map_or (λ e. (e.0, w) ∷ kept.remove_entry (eq k) c.entries) o ((k, w) ∷ take (c.cap - 1) c.entries)) c.cap))
        (dropped_for k (option_map_or (λ old. Some (k, old)) (option_map (λ (e : QKey × Held). e.1) o) (slice_get c.entries (c.cap - 1))))
    by_entry None at = at_last k w c.cap c.entries (slice_get c.entries (c.cap - 1)) refl (lookup-shown_all k c.entries ∙ ap (option_map value_of) at) sound
    by_entry (Some e) at =
        subst (λ (d : Option Item). IsPut k w (shown_table c) (table_of c.cap (shown_all ((e.0, w) ∷ kept.remove_entry (eq k) c.entries))) d)
        (sym (shows_own k e.1)) (own k w c.cap c.entries e at sound)
