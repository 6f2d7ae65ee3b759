-- What putting a value in front leaves.
use Rattle.std.proofs.Common.{◌≡◌, inl, inr, ◌<◌, ◌≤◌, ℕ, true, false, not, cond, List, [], ◌∷◌, ◌++◌, length, filter, Option, Some, None}
use Rattle.std.proofs.Common.{is_some, option_map, refl, sym, ap, subst, ◌∙◌, arith, ltb}
use Rattle.std.specs.Prelude.{◌↔◌, IsSome, IsNone}
use Rattle.std.specs.Option.{option_to_list}
use Rattle.std.proofs.lemmas.List.{append-nil}
use Rattle.std.proofs.lemmas.List.Elements.{filter_agree}
use Rattle.std.proofs.lemmas.Bool.{lt-ltb, le-ltb, cases_lt, false≢true}
use Rattle.rows_model.specs.declared.keys.QKey.{QKey}
use Rattle.rows_model.specs.Key.{same_key}
use Rattle.rows_model.proofs.SameKey.{same_key-refl, same_key-swap}
use Rattle.entry_table.specs.Entries.{Item, Table, IsSound, DistinctKeys, lookup, without, keys}
use Rattle.entry_table.proofs.EntriesLemmas.{keys-cons, keys-nil, keys-append, keys-without, length-keys, without-absent, without-split}
use Rattle.entry_table.proofs.EntriesLemmas.{lookup-put, lookup-init, lookup-nil, lookup-put_dropping, put-kept, put-dropped}
use Rattle.key_shard.specs.Past.{last_key}
use Rattle.key_shard.specs.Kept.{Puts, makes_room}

-- a filter that keeps all
filter-all : (xs : List QKey) → filter (λ _. true) xs ≡ xs
filter-all [] = refl
filter-all (x ∷ xs) = ap (λ ys. x ∷ ys) (filter-all xs)

-- the keys less one, whichever side the test names it on
pub keys-without_key : (key : QKey) (list : List Item) → keys (without key list) ≡ filter (λ other. not (same_key key other)) (keys list)
keys-without_key key list =
    keys-without key list ∙ filter_agree (λ q. not (same_key q key)) (λ q. not (same_key key q)) (λ q. ap not (same_key-swap q key)) (keys list)

last-append : (front : List QKey) (key : QKey) → last_key (front ++ key ∷ []) ≡ Some key
last-append [] key = refl
last-append (a ∷ []) key = refl
last-append (a ∷ b ∷ front) key = last-append (b ∷ front) key

-- which key makes room where one was dropped, and where none was
room-none : (room : ℕ) (key : QKey) (list : List Item) (found : Option (List ℕ × ℕ))
    → lookup key list ≡ found → (found ≡ None → length list < room) → None ≡ makes_room room key list
room-none room key list None e fits =
    let shorter : length (keys list) < room = rw length-keys (fits refl) in
    let last = last_key (keys list) in
    sym (ap (λ o. cond (is_some o) None (cond (ltb (length (keys list)) room) None last)) e ∙ ap (λ b. cond b None last) (lt-ltb _ _ shorter))
room-none room key list (Some f) e fits =
    sym (ap (λ o. cond (is_some o) None (cond (ltb (length (keys list)) room) None (last_key (keys list)))) e)

room-last : (room : ℕ) (key : QKey) (list init : List Item) (last : Item)
    → lookup key list ≡ None → length list ≡ room → list ≡ init ++ last ∷ [] → Some last.0 ≡ makes_room room key list
room-last room key list init last e full parts =
    let full' : room ≤ length (keys list) = rw length-keys (omega arith) in
    let ends : keys list ≡ keys init ++ last.0 ∷ [] =
    ap keys parts ∙ keys-append init (last ∷ []) ∙ ap (λ ks. keys init ++ ks) (keys-cons last [] ∙ ap (λ ks. last.0 ∷ ks) keys-nil) in
    sym (ap (λ o. cond (is_some o) None (cond (ltb (length (keys list)) room) None (last_key (keys list)))) e
    ∙ ap (λ b. cond b None (last_key (keys list))) (le-ltb _ _ full')
    ∙ ap last_key ends ∙ last-append (keys init) last.0)

none-from : {X : Type 0} (o : Option X) → is_some o ≡ false → o ≡ None
none-from None e = refl
none-from (Some x) e = cc

fits-from : (a b : ℕ) → a ≤ b → (a ≡ b → ⊥) → a < b
fits-from a b le ne = elim (cases_lt a b) [ inl lt ↦ lt | inr ge ↦ absurd (ne (omega arith)) ]

pub Puts-kept : (key : QKey) (v : List ℕ) (s : ℕ) (old new : Table) → IsSound old → new.list ≡ (key, v, s) ∷ without key old.list
    → (lookup key old.list ≡ None → length old.list < old.room) → new.room ≡ old.room → IsSound new → Puts key v s None old new
Puts-kept key v s old new sound list fits room after = record {
  entries = λ k. ap (lookup k) list ∙ lookup-put key k v s old.list ∙ ap (λ b. cond b (Some (v, s)) (lookup k old.list)) (same_key-swap key k);
  in_order = ap keys list ∙ keys-cons (key, v, s) (without key old.list)
      ∙ ap (λ ks. key ∷ ks) (keys-without_key key old.list ∙ sym (filter-all (filter (λ other. not (same_key key other)) (keys old.list))));
  room_by = room-none old.room key old.list (lookup key old.list) refl fits;
  same_room = room;
  sound = after;
}

less-last : (init : List Item) (last : Item) → lookup last.0 init ≡ None → keys init ≡ filter (λ other. not (same_key other last.0)) (keys (init ++ last ∷ []))
less-last init last gone =
    sym (ap keys (without-split last.0 init last [] gone (lookup-nil last.0) (same_key-refl last.0) ∙ append-nil init))
    ∙ keys-without last.0 (init ++ last ∷ [])

pub Puts-dropped : (key : QKey) (v : List ℕ) (s : ℕ) (old new : Table) (init : List Item) (last : Item) → IsSound old → lookup key old.list ≡ None
    → length old.list ≡ old.room → new.list ≡ (key, v, s) ∷ init
    → old.list ≡ init ++ last ∷ [] → new.room ≡ old.room → IsSound new → Puts key v s (Some last.0) old new
Puts-dropped key v s old new init last sound absent full list parts room after =
    let distinct = subst DistinctKeys parts sound.distinct in
    let gone : lookup last.0 init ≡ None =
    lookup-init last.0 init last distinct ∙ ap (λ b. cond b None (lookup last.0 (init ++ last ∷ []))) (same_key-refl last.0) in
    let others : filter (λ other. not (same_key key other)) (keys old.list) ≡ keys old.list =
    sym (keys-without_key key old.list) ∙ ap keys (without-absent key old.list absent) in
    record {
      entries = λ k. ap (lookup k) list ∙ lookup-put_dropping key k v s init last distinct
          ∙ ap (λ l. cond (same_key key k) (Some (v, s)) (cond (same_key last.0 k) None (lookup k l))) (sym parts)
          ∙ ap (λ b. cond b (Some (v, s)) (cond (same_key last.0 k) None (lookup k old.list))) (same_key-swap key k)
          ∙ ap (λ b. cond (same_key k key) (Some (v, s)) (cond b None (lookup k old.list))) (same_key-swap last.0 k);
      in_order = ap keys list ∙ keys-cons (key, v, s) init ∙ ap (λ ks. key ∷ ks) (less-last init last gone
          ∙ ap (λ l. filter (λ other. not (same_key other last.0)) (keys l)) (sym parts) ∙ ap (filter (λ other. not (same_key other last.0))) (sym others));
      room_by = room-last old.room key old.list init last absent full parts;
      same_room = room;
      sound = after;
    }

-- a value was put, and this entry was dropped, if one was
pub Puts-by : (key : QKey) (v : List ℕ) (s : ℕ) (old new : Table) (dropped : Option Item) → IsSound old
    → new.list ++ option_to_list dropped ≡ (key, v, s) ∷ without key old.list → (IsSome dropped ↔ (IsNone (lookup key old.list) × (length old.list ≡ old.room)))
    → new.room ≡ old.room → IsSound new → Puts key v s (option_map (λ d. d.0) dropped) old new
Puts-by key v s old new None sound list drops room after =
    Puts-kept key v s old new sound (put-kept new.list _ list)
    (λ none. fits-from (length old.list) old.room sound.within (λ full. absurd (false≢true (drops.1 (ap is_some none, full))))) room after
Puts-by key v s old new (Some last) sound list drops room after =
    let why = drops.0 refl in
    let absent : lookup key old.list ≡ None = none-from (lookup key old.list) why.0 in
    let some : 0 < length old.list = omega (arith, sound.roomy, why.1) in
    let parts = put-dropped new.list last (key, v, s) old.list (list ∙ ap (λ l. (key, v, s) ∷ l) (without-absent key old.list absent)) some in
    Puts-dropped key v s old new parts.0 last sound absent why.1 parts.1 parts.2 room after
