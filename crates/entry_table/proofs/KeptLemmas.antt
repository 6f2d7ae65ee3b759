-- The pairs that the cache keeps against the list that callers see.
use Rattle.std.proofs.Common.{◌≡◌, ℕ, Bool, true, false, cond, Option, Some, None, is_some, option_map, List, [], ◌∷◌, ◌++◌, length, map, slice_get, refl, sym, ap, ◌∙◌, rules}
use Rattle.std.specs.Option.{option_map_or}
use Rattle.std.specs.Map as kept
use Rattle.std.proofs.lemmas.List.{length-map, map-append}
use Rattle.lru.specs.LruCache as lru
use Rattle.lru.proofs.CallerLemmas.{Contains-lookup_entry}
use Rattle.rows_model.specs.declared.keys.QKey.{QKey}
use Rattle.rows_model.specs.Key.{same_key}
use Rattle.rows_model.specs.contracts.keys.QKeyPartialEq.TheImpl.{eq-value}
use Rattle.rows_model.proofs.SameKey.{same_key-true, same_key-refl, same_key-swap}
use Rattle.entry_table.specs.declared.table.Held.{Held}
use Rattle.entry_table.specs.Entries.{Item, Table, DistinctKeys, lookup, without, replaced, promoted}
use Rattle.entry_table.specs.Kept.{held_item, shown_all, shown_table}
use Rattle.entry_table.proofs.EntriesLemmas.{lookup-nil, lookup-cons, without-nil, without-cons, without-absent, replaced-nil}
use Rattle.entry_table.proofs.EntriesLemmas.{replaced-cons, replaced-absent, promoted-absent, promoted-found}

-- the equality of keys by which the cache finds them
abbrev pub eq : QKey → QKey → Bool
eq = eq-value.it

-- what a look-up finds of a pair
abbrev pub value_of : QKey × Held → List ℕ × ℕ
value_of e = (e.1.value, e.1.stamp)

-- the cache tells keys apart as the list does
pub eq-same_key : (k q : QKey) → eq k q ≡ same_key q k
eq-same_key k q = by_parts ∙ same_key-swap k q
  where
    by_parts : eq k q ≡ same_key k q
    by_parts = search rules

pub eq-true : (k q : QKey) → eq k q ≡ true → q ≡ k
eq-true k q h = same_key-true q k (sym (eq-same_key k q) ∙ h)

pub shown_all-nil : shown_all [] ≡ []
unfolding shown_all
shown_all-nil = refl

pub shown_all-cons : (e : QKey × Held) (es : List (QKey × Held)) → shown_all (e ∷ es) ≡ held_item e ∷ shown_all es
unfolding shown_all
shown_all-cons e es = refl

pub shown_all-append : (xs ys : List (QKey × Held)) → shown_all (xs ++ ys) ≡ shown_all xs ++ shown_all ys
unfolding shown_all
shown_all-append xs ys = rw map-append refl

pub length-shown_all : (es : List (QKey × Held)) → length (shown_all es) ≡ length es
unfolding shown_all
length-shown_all es = length-map es held_item

-- the value that the cache finds is that of the pair that it finds
pub lookup-entry : (k : QKey) (es : List (QKey × Held)) → kept.lookup (eq k) es ≡ option_map (λ e. e.1) (kept.lookup_entry (eq k) es)
lookup-entry k [] = refl
lookup-entry k (e ∷ es) = by_test (eq k e.0) (lookup-entry k es)
  where
    by_test : (b : Bool) → kept.lookup (eq k) es ≡ option_map (λ e. e.1) (kept.lookup_entry (eq k) es)
        → cond b (Some e.1) (kept.lookup (eq k) es) ≡ option_map (λ (x : QKey × Held). x.1) (cond b (Some e) (kept.lookup_entry (eq k) es))
    by_test true h = refl
    by_test false h = h

-- a look-up in the list finds what the cache finds
pub lookup-shown_all : (k : QKey) (es : List (QKey × Held)) → lookup k (shown_all es) ≡ option_map value_of (kept.lookup_entry (eq k) es)
lookup-shown_all k [] = rw (shown_all-nil, lookup-nil) refl
lookup-shown_all k (e ∷ es) =
    rw (shown_all-cons, lookup-cons k (held_item e) (shown_all es), ← eq-same_key k e.0) (by_test (eq k e.0) (lookup-shown_all k es))
  where
    by_test : (b : Bool) → lookup k (shown_all es) ≡ option_map value_of (kept.lookup_entry (eq k) es)
        → cond b (Some (e.1.value, e.1.stamp)) (lookup k (shown_all es)) ≡ option_map value_of (cond b (Some e) (kept.lookup_entry (eq k) es))
    by_test true h = refl
    by_test false h = h

-- and its value alone
pub lookup-value : (k : QKey) (es : List (QKey × Held)) → lookup k (shown_all es) ≡ option_map (λ h. (h.value, h.stamp)) (kept.lookup (eq k) es)
lookup-value k es = lookup-shown_all k es
    ∙ (by_entry (kept.lookup_entry (eq k) es) ∙ ap (option_map (λ (h : Held). (h.value, h.stamp))) (sym (lookup-entry k es)))
  where
    by_entry : (o : Option (QKey × Held)) → option_map value_of o ≡ option_map (λ (h : Held). (h.value, h.stamp)) (option_map (λ (e : QKey × Held). e.1) o)
    by_entry None = refl
    by_entry (Some e) = refl

pub is_some-map : {A B : Type 0} (f : A → B) (o : Option A) → is_some (option_map f o) ≡ is_some o
is_some-map f None = refl
is_some-map f (Some x) = refl

-- what the cache finds has the key
pub key-lookup_entry : (k : QKey) (es : List (QKey × Held)) (e : QKey × Held) → kept.lookup_entry (eq k) es ≡ Some e → e.0 ≡ k
key-lookup_entry k es e h = eq-true k e.0 (Contains-lookup_entry (eq k) es e h).1

-- what the cache shows once a key was removed
pub without-shown_all : (k : QKey) (es : List (QKey × Held)) → DistinctKeys (shown_all es) → without k (shown_all es) ≡ shown_all (kept.remove_entry (eq k) es)
without-shown_all k [] h = rw (shown_all-nil, without-nil) refl
without-shown_all k (e ∷ es) h =
    let apart = rw shown_all-cons at h in
    rw (shown_all-cons e es, without-cons k (held_item e) (shown_all es), ← eq-same_key k e.0) (by_test (eq k e.0) refl apart.0 (without-shown_all k es apart.1))
  where
    by_test : (b : Bool) → eq k e.0 ≡ b → lookup e.0 (shown_all es) ≡ None → without k (shown_all es) ≡ shown_all (kept.remove_entry (eq k) es)
        → cond b (without k (shown_all es)) (held_item e ∷ without k (shown_all es)) ≡ shown_all (cond b es (e ∷ kept.remove_entry (eq k) es))
    by_test true hit fresh rest = without-absent k (shown_all es) (ap (λ (x : QKey). lookup x (shown_all es)) (sym (eq-true k e.0 hit)) ∙ fresh)
    by_test false miss fresh rest = ap (λ (l : List Item). held_item e ∷ l) rest ∙ sym (shown_all-cons e (kept.remove_entry (eq k) es))

-- and once the value of a key was written
pub replaced-shown_all : (k : QKey) (w : Held) (es : List (QKey × Held))
    → DistinctKeys (shown_all es) → replaced k w.value w.stamp (shown_all es) ≡ shown_all (kept.set_value (eq k) es w)
replaced-shown_all k w [] h = rw (shown_all-nil, replaced-nil) refl
replaced-shown_all k w (e ∷ es) h =
    let apart = rw shown_all-cons at h in
    rw (
      shown_all-cons e es,
      replaced-cons k w.value w.stamp (held_item e) (shown_all es),
      ← eq-same_key k e.0,
    ) (by_test (eq k e.0) refl apart.0 (replaced-shown_all k w es apart.1))
  where
    by_test : (b : Bool) → eq k e.0 ≡ b → lookup e.0 (shown_all es) ≡ None → replaced k w.value w.stamp (shown_all es) ≡ shown_all (kept.set_value (eq k) es w)
        → cond b (e.0, w.value, w.stamp) (held_item e) ∷ replaced k w.value w.stamp (shown_all es)
        ≡ shown_all (cond b ((e.0, w) ∷ es) (e ∷ kept.set_value (eq k) es w))
    by_test true hit fresh rest =
        ap (λ (l : List Item). (e.0, w.value, w.stamp) ∷ l) (replaced-absent k w.value w.stamp
        (shown_all es) (ap (λ (x : QKey). lookup x (shown_all es)) (sym (eq-true k e.0 hit)) ∙ fresh)) ∙ sym (shown_all-cons (e.0, w) es)
    by_test false miss fresh rest = ap (λ (l : List Item). held_item e ∷ l) rest ∙ sym (shown_all-cons e (kept.set_value (eq k) es w))

-- a pair in front of the others, where it has the key and they haven't
pub shown_all-front : (k : QKey) (e : QKey × Held) (es : List (QKey × Held))
    → e.0 ≡ k → DistinctKeys (shown_all es) → shown_all (e ∷ kept.remove_entry (eq k) es) ≡ (k, e.1.value, e.1.stamp) ∷ without k (shown_all es)
shown_all-front k e es same h =
    shown_all-cons e (kept.remove_entry (eq k) es) ∙ (ap (λ (q : QKey). (q, e.1.value, e.1.stamp) ∷ shown_all (kept.remove_entry (eq k) es)) same
    ∙ ap (λ (l : List Item). (k, e.1.value, e.1.stamp) ∷ l) (sym (without-shown_all k es h)))

-- a table of this room
abbrev pub table_of : ℕ → List Item → Table
table_of room list = record { room = room; list = list }

-- what the cache shows once a key was brought to the front
pub promoted-shown_all : (k : QKey) (room : ℕ) (es : List (QKey × Held))
    → DistinctKeys (shown_all es) → shown_table (lru.lru_cache (lru.promoted (eq k) es) room) ≡ promoted k (table_of room (shown_all es))
promoted-shown_all k room es h = by_entry (kept.lookup_entry (eq k) es) refl
  where
    by_entry : (o : Option (QKey × Held)) → kept.lookup_entry (eq k) es ≡ o
        → shown_table (lru.lru_cache (option_map_or (λ e. e ∷ kept.remove_entry (eq k) es) o es) room) ≡ promoted k (table_of room (shown_all es))
    by_entry None at = sym (promoted-absent k (table_of room (shown_all es)) (lookup-shown_all k es ∙ ap (option_map value_of) at))
    by_entry (Some e) at =
        ap (table_of room) (shown_all-front k e es (key-lookup_entry k es e at) h)
        ∙ sym (promoted-found k (table_of room (shown_all es)) e.1.value e.1.stamp (lookup-shown_all k es ∙ ap (option_map value_of) at))

-- where the first entry is of the key, bringing it to the front changes nothing
pub promoted-first : (k : QKey) (room : ℕ) (es : List (QKey × Held)) (q : QKey) (held : Held) → Some (q, held) ≡ slice_get es 0 → q ≡ k
    → DistinctKeys (shown_all es) → promoted k (table_of room (shown_all es)) ≡ table_of room (shown_all es)
unfolding shown_all
promoted-first k room [] q held at same h = absurd cc
promoted-first k room (e ∷ es) q held at same h =
    let is : (q, held) ≡ e = cc in
    let key : e.0 ≡ k = sym (ap (λ (p : QKey × Held). p.0) is) ∙ same in
    let there : lookup k (held_item e ∷ map held_item es) ≡ Some (e.1.value, e.1.stamp) =
    lookup-cons k (held_item e) (map held_item es) ∙ ap (λ b. cond b (Some (e.1.value, e.1.stamp)) (lookup k (map held_item es)))
    (ap (λ (x : QKey). same_key x k) key ∙ same_key-refl k) in
    let rest : without k (held_item e ∷ map held_item es) ≡ map held_item es =
    without-cons k (held_item e) (map held_item es)
    ∙ ap (λ b. cond b (without k (map held_item es)) (held_item e ∷ without k (map held_item es))) (ap (λ (x : QKey). same_key x k) key ∙ same_key-refl k)
    ∙ without-absent k (map held_item es) (ap (λ (x : QKey). lookup x (map held_item es)) (sym key) ∙ h.0) in
    promoted-found k (table_of room (held_item e ∷ map held_item es)) e.1.value e.1.stamp there
    ∙ ap (table_of room) (ap (λ (x : QKey). (x, e.1.value, e.1.stamp) ∷ without k (held_item e ∷ map held_item es)) (sym key) ∙ ap (λ l. held_item e ∷ l) rest)
