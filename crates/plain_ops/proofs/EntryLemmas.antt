-- The entries of the plain map, without that of a key and with another.
use Rattle.std.proofs.Common.{ℕ, ◌+◌, ◌-◌, ◌≡◌, ◌≤◌, ◌<◌, Bool, true, false, List, [], ◌∷◌, ◌++◌, length, Option, Some, None, take, get_or, take-suc, add-one, cond, ◌&&◌, nat_le, nat_lt, is_some, Result, Ok, Err, refl, sym, ap, ◌∙◌, arith}
use Rattle.std.specs.Prelude.{MatchOption, OnErr}
use Rattle.std.specs.Option.{option_len, option_map, option_to_list}
use Rattle.std.specs.List.{cons_option}
use Rattle.std.specs.List.Sorted.{IsPermutation}
use Rattle.std.specs.Map.{set_value}
use Rattle.std.specs.Cmp.Lexicographic.{bytes_decides}
use Rattle.std.proofs.lemmas.Bool.{false≢true}
use Rattle.std.proofs.lemmas.Bool.Decides.{nat_tests}
use Rattle.std.proofs.lemmas.List.Sums.{sum_by-cons}
use Rattle.std.proofs.lemmas.Map.Steps.{set_value_same}
use Rattle.std.proofs.lemmas.List.Elements.{filter_map-append}
use Rattle.std.proofs.lemmas.List.Sorted.{IsPermutation-refl, IsPermutation-sym, IsPermutation-trans, IsPermutation-cons, IsPermutation-middle, sum_by-IsPermutation, length_permutation}
use Rattle.mc_text.specs.declared.plain_replies.Found.{Found}
use Rattle.plain_ops.specs.declared.items.Item.{Item}
use Rattle.plain_ops.specs.Entries.{is_same, item_at, without, with_item, size_of, bytes_in, is_fit, told_of, found_in}
use Rattle.plain_ops.specs.Tables.{IsTable}

-- how many bytes a key has with its item, if it has one
abbrev pub weight : List ℕ → Option Item → ℕ
weight key None = 0
weight key (Some item) = length key + length item.value

pub same_bytes : (key other : List ℕ) → is_same key other ≡ true → key ≡ other
same_bytes key other same = (bytes_decides key other).0 same

-- no entry goes where a key has none
pub none_out : (key : List ℕ) (entries : List (List ℕ × Item)) → item_at entries key ≡ None → without entries key ≡ entries
none_out key [] none = refl
none_out key (e ∷ es) none = by (is_same key e.0) none (none_out key es)
  where
    by : (b : Bool) → cond b (Some e.1) (item_at es key) ≡ None → (item_at es key ≡ None → without es key ≡ es) → cond b es (e ∷ without es key) ≡ e ∷ es
    by true some later = absurd (false≢true (sym (ap is_some some)))
    by false none later = ap (λ (rest : List (List ℕ × Item)). e ∷ rest) (later none)

-- one entry goes where a key has one
pub count_out : (key : List ℕ) (entries : List (List ℕ × Item)) → length (without entries key) + option_len (item_at entries key) ≡ length entries
count_out key [] = refl
count_out key (e ∷ es) = by (is_same key e.0) (count_out key es)
  where
    by : (b : Bool) → length (without es key) + option_len (item_at es key) ≡ length es
        → length (cond b es (e ∷ without es key)) + option_len (cond b (Some e.1) (item_at es key)) ≡ length (e ∷ es)
    by true later = omega arith
    by false later = omega arith

-- and its bytes with it
pub bytes_out : (key : List ℕ) (entries : List (List ℕ × Item)) → bytes_in (without entries key) + weight key (item_at entries key) ≡ bytes_in entries
bytes_out key [] = refl
bytes_out key (e ∷ es) = by (is_same key e.0) (same_bytes key e.0) (bytes_out key es)
  where
    by : (b : Bool) → (b ≡ true → key ≡ e.0) → bytes_in (without es key) + weight key (item_at es key) ≡ bytes_in es
        → bytes_in (cond b es (e ∷ without es key)) + weight key (cond b (Some e.1) (item_at es key)) ≡ bytes_in (e ∷ es)
    by true same later = let long = ap (λ (k : List ℕ). length k) (same refl) in omega (arith, sum_by-cons size_of e es)
    by false same later = omega (arith, sum_by-cons size_of e es, sum_by-cons size_of e (without es key))

-- a value that is written in its place stands in front of the others
pub set_in_place : (key : List ℕ) (item : Item) (entries : List (List ℕ × Item)) → (item_at entries key ≡ None → ⊥)
    → IsPermutation (with_item entries key item) (set_value (is_same key) entries item)
set_in_place key item [] some = absurd (some refl)
set_in_place key item (e ∷ es) some = by (is_same key e.0) (same_bytes key e.0) some (set_in_place key item es)
  where
    by : (b : Bool) → (b ≡ true → key ≡ e.0) → (cond b (Some e.1) (item_at es key) ≡ None → ⊥)
        → ((item_at es key ≡ None → ⊥) → IsPermutation (with_item es key item) (set_value (is_same key) es item))
        → IsPermutation ((key, item) ∷ cond b es (e ∷ without es key)) (cond b ((e.0, item) ∷ es) (e ∷ set_value (is_same key) es item))
    by true same some later = rw (same refl) (IsPermutation-refl ((e.0, item) ∷ es))
    by false same some later =
        IsPermutation-trans _ _ _ (IsPermutation-sym _ _ (IsPermutation-middle (e ∷ []) (key, item) (without es key))) (IsPermutation-cons e _ _ (later some))

-- an item that was put
pub put_in : (key : List ℕ) (item : Item) (old new : List (List ℕ × Item)) (was : Option Item) → was ≡ item_at old key
    → MatchOption was (IsPermutation ((key, item) ∷ old) new) (λ _. new ≡ set_value (is_same key) old item)
    → IsPermutation (with_item old key item) new
put_in key item old new None none moved = rw (none_out key old (sym none)) moved
put_in key item old new (Some before) some moved = rw moved (set_in_place key item old (λ none. false≢true (sym (ap is_some (some ∙ none)))))

-- the order doesn't matter
pub table_moved : (old new : List (List ℕ × Item)) (bytes : ℕ) → IsPermutation old new → IsTable old bytes → IsTable new bytes
table_moved old new bytes moved h =
    let long = length_permutation old new moved in
    let sum = sum_by-IsPermutation size_of old new moved in
    record { sum = h.sum ∙ sym sum; few = omega (arith, h.few); small = omega (arith, h.small) }

-- a table with an entry more, which there is room for
pub table_with : (key : List ℕ) (item : Item) (entries : List (List ℕ × Item)) (bytes : ℕ) → bytes ≡ bytes_in (without entries key)
    → is_fit (with_item entries key item) ≡ true → IsTable (with_item entries key item) (bytes + (length key + length item.value))
table_with key item entries bytes rest fit =
    let sum = sum_by-cons size_of (key, item) (without entries key) in
    let parts : (length (with_item entries key item) ≤ 65536) × (bytes_in (with_item entries key item) ≤ 268435456) = grind (arith, nat_tests, fit) in
    record { sum = omega (arith, rest); few = parts.0; small = parts.1 }

-- what is left of a table when a key's item goes
pub record IsLeft (key : List ℕ) (item : Item) (entries : List (List ℕ × Item)) (bytes : ℕ) : Type 0 where
  pub enough : length key + length item.value ≤ bytes
  pub left : IsTable (without entries key) (bytes - (length key + length item.value))
  pub count : length (without entries key) + 1 ≡ length entries

pub taken : (key : List ℕ) (item : Item) (entries : List (List ℕ × Item)) (bytes : ℕ) → Some item ≡ item_at entries key → IsTable entries bytes
    → IsLeft key item entries bytes
taken key item entries bytes found h =
    let count : length (without entries key) + 1 ≡ length entries = rw (sym found) at (count_out key entries) in
    let sum : bytes_in (without entries key) + (length key + length item.value) ≡ bytes_in entries = rw (sym found) at (bytes_out key entries) in
    record {
      enough = omega (arith, h.sum);
      left = record { sum = omega (arith, h.sum); few = omega (arith, h.few); small = omega (arith, h.small) };
      count = count;
    }

-- an item that was put at a key that has none
pub added_in : (key : List ℕ) (item : Item) (old new : List (List ℕ × Item)) (bytes : ℕ) (was : Option Item) → was ≡ item_at old key
    → MatchOption was (IsPermutation ((key, item) ∷ old) new) (λ _. new ≡ set_value (is_same key) old item)
    → item_at old key ≡ None → IsTable old bytes → is_fit (with_item old key item) ≡ true → IsTable new (bytes + (length key + length item.value))
added_in key item old new bytes was found moved none h fit =
    table_moved (with_item old key item) new _ (put_in key item old new was found moved)
    (table_with key item old bytes (h.sum ∙ sym (ap bytes_in (none_out key old none))) fit)

-- an item that was put in the place of another
pub put_over : (key : List ℕ) (before after item : Item) (old new : List (List ℕ × Item)) → Some before ≡ item_at old key → after ≡ item
    → new ≡ set_value (is_same key) old after → IsPermutation (with_item old key item) new
put_over key before after item old new found same is = put_in key item old new (Some before) found (rw same at is)

-- the sum goes by the bytes of both
pub table_over : (key : List ℕ) (before item : Item) (old new : List (List ℕ × Item)) (bytes : ℕ) → Some before ≡ item_at old key → IsTable old bytes
    → is_fit (with_item old key item) ≡ true → IsPermutation (with_item old key item) new → IsTable new (bytes - length before.value + length item.value)
table_over key before item old new bytes found h fit moved =
    let t = taken key before old bytes found h in
    let whole = table_moved (with_item old key item) new _ moved (table_with key item old (bytes - (length key + length before.value)) t.left.sum fit) in
    let same : bytes - (length key + length before.value) + (length key + length item.value) ≡ bytes - length before.value + length item.value =
    omega (arith, t.enough) in
    rw same at whole

-- an item that was put in its own place
pub put_same : (key : List ℕ) (before after : Item) (old new : List (List ℕ × Item)) → Some before ≡ item_at old key → after ≡ before
    → new ≡ set_value (is_same key) old after → new ≡ old
put_same key before after old new found same is = (rw same at is) ∙ set_value_same (is_same key) old before (sym found)

pub table_same : (old new : List (List ℕ × Item)) (bytes : ℕ) → new ≡ old → IsTable old bytes → IsTable new bytes
table_same old new bytes same h = rw same h

-- what holds holds where an error is answered
pub of_err : {T E : Type 0} (r : Result T E) (P : Type 0) → P → OnErr r P
of_err (Ok x) P h = tt
of_err (Err e) P h = h

-- what has room beside all entries has room beside the others
pub ample : (key : List ℕ) (item : Item) (entries : List (List ℕ × Item)) (bytes : ℕ) → IsTable entries bytes
    → (nat_lt (length entries) 65536 && nat_le (bytes + (length key + length item.value)) 268435456) ≡ true → is_fit (with_item entries key item) ≡ true
ample key item entries bytes h room =
    let parts : (length entries < 65536) × (bytes + (length key + length item.value) ≤ 268435456) = grind (arith, nat_tests, room) in
    let few : length (with_item entries key item) ≤ 65536 = let count = count_out key entries in omega (arith, parts.0) in
    let sum = sum_by-cons size_of (key, item) (without entries key) in
    let out = bytes_out key entries in
    let small : bytes_in (with_item entries key item) ≤ 268435456 = omega (arith, parts.1, h.sum) in
    grind (arith, nat_tests, few, small)

-- what is told of a list of keys, with one key more
pub found_more : (entries : List (List ℕ × Item)) (keys : List (List ℕ)) (key : List ℕ)
    → found_in entries (keys ++ key ∷ []) ≡ found_in entries keys ++ option_to_list (option_map (told_of key) (item_at entries key))
found_more entries keys key = filter_map-append _ keys (key ∷ []) ∙ ap (λ (found : List Found). found_in entries keys ++ found) (one_told (option_map (told_of key) (item_at entries key)))
  where
    one_told : (o : Option Found) → cons_option o [] ≡ option_to_list o
    one_told None = refl
    one_told (Some x) = refl

pub found_next : (entries : List (List ℕ × Item)) (keys : List (List ℕ)) (i : ℕ) (key : List ℕ) (old new : List Found)
    → i < length keys → key ≡ get_or keys i key → old ≡ found_in entries (take i keys)
    → new ≡ old ++ option_to_list (option_map (told_of key) (item_at entries key)) → new ≡ found_in entries (take (i + 1) keys)
found_next entries keys i key old new below is was grown =
    let one : take (i + 1) keys ≡ take i keys ++ key ∷ [] =
    ap (λ (n : ℕ). take n keys) (add-one i) ∙ take-suc keys i key below ∙ ap (λ (k : List ℕ). take i keys ++ k ∷ []) (sym is) in
    rw one (grown ∙ ap (λ (found : List Found). found ++ option_to_list (option_map (told_of key) (item_at entries key))) was
    ∙ sym (found_more entries (take i keys) key))
