-- The rows of the entries that are dumped.
use Rattle.std.proofs.Common.{ℕ, ◌≡◌, ◌≢◌, ◌<◌, ◌≤◌, ◌+◌, ◌^◌, ◌&&◌, Bool, true, false, cond, not, nat_le, List, [], ◌∷◌, ◌++◌, length, reverse, Option, Some, None, option_and_then}
use Rattle.std.proofs.Common.{arith, refl, sym, ap, subst, ◌∙◌, append-nil}
use Rattle.std.specs.Prelude.{if◌then◌else◌, All, AllPairs, IfOk, Result, Ok, Err}
use Rattle.std.specs.Global.{Vec}
use Rattle.rows_model.specs.declared.refusals.Memory.{Memory}
use Rattle.std.specs.List.{filter_map, AllByRecursion, cons_option}
use Rattle.std.proofs.lemmas.Bool.{or_left, or_right, or_parts, and_parts, leb-true}
use Rattle.std.proofs.lemmas.List.Quantifiers.{all_pairs_push}
use Rattle.std.proofs.lemmas.List.{reverse-append, length-reverse}
use Rattle.std.proofs.lemmas.List.Elements.{All-nil, All-cons, All-append, filter_map-append}
use Rattle.rows_model.specs.declared.keys.QKey.{QKey}
use Rattle.rows_model.specs.Key.{same_key}
use Rattle.rows_model.proofs.SameKey.{same_key-true, same_key-refl}
use Rattle.entry_table.specs.Entries.{Item, lookup, keys}
use Rattle.entry_table.proofs.EntriesLemmas.{lookup-cons, keys-nil, keys-cons}
use Rattle.key_shard.specs.declared.steps.Step.{Step}
use Rattle.key_shard.specs.Past.{entry, order}
use Rattle.key_shard.specs.Answers.{IsAtHome, Legal}
use Rattle.key_shard.specs.Shards.{ShardView, past_of}
use Rattle.sql_keeper.specs.declared.stores.Commit.{Commit}
use Rattle.shard_dump.specs.declared.rows.DumpRow.{DumpRow}
use Rattle.shard_dump.specs.declared.heads.Head.{Head}
use Rattle.shard_dump.specs.Texts.{head_text, rows_text, end_text, head_of, IsDumpText}
use Rattle.shard_dump.specs.Dumps.{is_touched, is_dumped, row_of, row_on, rows_of, dump_of}
use Rattle.shard_dump.proofs.ShardLemmas.{has, AreOnce, order_once, order_home, order_few}

-- the row of an entry in a list
abbrev pub row_by : List Commit → Item → Option DumpRow
row_by log item = row_of log item.0 (item.1, item.2)

-- ---- the rows are those that the history tells

last_one : {Y : Type 0} (o : Option Y) (ys : List Y) → reverse ys ++ cons_option o [] ≡ reverse (cons_option o ys)
last_one None ys = append-nil (reverse ys)
last_one (Some y) ys = sym (reverse-append (y ∷ []) ys)

pub filter_map-reverse : {X Y : Type 0} (h : X → Option Y) (xs : List X) → filter_map h (reverse xs) ≡ reverse (filter_map h xs)
filter_map-reverse h [] = refl
filter_map-reverse {Y = Y} h (x ∷ xs) =
    ap (filter_map h) (reverse-append (x ∷ []) xs) ∙ filter_map-append h (reverse xs) (x ∷ [])
    ∙ ap (λ (t : List Y). t ++ cons_option (h x) []) (filter_map-reverse h xs) ∙ last_one (h x) (filter_map h xs)

-- the entry of each item is its own
abbrev pub AreFound : List Step → List Item → Type 0
AreFound past items = AllByRecursion (λ x. entry x.0 past ≡ Some (x.1, x.2)) items

pub all_found : (items : List Item) (past : List Step) → AreOnce (keys items) → ((key : QKey) → has key (keys items) ≡ true → lookup key items ≡ entry key past)
    → AreFound past items
all_found [] past once found = tt
all_found (e ∷ items) past once found =
    let apart : AreOnce (e.0 ∷ keys items) = subst AreOnce (keys-cons e items) once in
    let front : has e.0 (keys (e ∷ items)) ≡ true =
    ap (has e.0) (keys-cons e items) ∙ or_left (same_key e.0 e.0) (has e.0 (keys items)) (same_key-refl e.0) in (
      sym (found e.0 front) ∙ lookup-cons e.0 e items ∙ ap (λ (b : Bool). cond b (Some (e.1, e.2)) (lookup e.0 items)) (same_key-refl e.0),
      all_found items past apart.1 (λ key there.
          let other : same_key e.0 key ≡ false = differs key there (same_key e.0 key) refl apart.0 in
          ap (λ (b : Bool). cond b (Some (e.1, e.2)) (lookup key items)) (sym other) ∙ sym (lookup-cons key e items)
          ∙ found key (ap (has key) (keys-cons e items) ∙ or_right (same_key key e.0) (has key (keys items)) there)),
    )
  where
    differs : (key : QKey) → has key (keys items) ≡ true → (b : Bool) → same_key e.0 key ≡ b → has e.0 (keys items) ≡ false → b ≡ false
    differs key there false same none = refl
    differs key there true same none =
        let one : e.0 ≡ key = same_key-true e.0 key same in
        let clash : true ≡ false = sym there ∙ (ap (λ (k : QKey). has k (keys items)) (sym one) ∙ none) in cc

agree : (log : List Commit) (past : List Step) (items : List Item) → AreFound past items → filter_map (row_by log) items ≡ filter_map (row_on log past) (keys items)
agree log past [] h = ap (filter_map (row_on log past)) (sym keys-nil)
agree log past (e ∷ items) h =
    let one : row_by log e ≡ row_on log past e.0 = ap (option_and_then (row_of log e.0)) (sym h.0) in
    ap (λ (o : Option DumpRow). cons_option o (filter_map (row_by log) items)) one
    ∙ ap (λ (rows : List DumpRow). cons_option (row_on log past e.0) rows) (agree log past items h.1)
    ∙ ap (filter_map (row_on log past)) (sym (keys-cons e items))

pub rows_are : (log : List Commit) (past : List Step) (items : List Item) → ((key : QKey) → lookup key items ≡ entry key past) → keys items ≡ order past
    → filter_map (row_by log) (reverse items) ≡ rows_of log past
rows_are log past items found in_order =
    let once : AreOnce (keys items) = subst AreOnce (sym in_order) (order_once past) in
    filter_map-reverse (row_by log) items
    ∙ ap reverse (agree log past items (all_found items past once (λ key _. found key)) ∙ ap (filter_map (row_on log past)) in_order)
    ∙ sym (filter_map-reverse (row_on log past) (order past))

-- ---- and they may stand in a dump

-- what the row of a key is
record IsRowOn (key : QKey) (row : DumpRow) : Type 0 where
  of : row.key ≡ key
  id_from : 1 ≤ row.key.id
  short : length row.value ≤ 1048576

row_on_is : (log : List Commit) (past : List Step) (key : QKey) (row : DumpRow) → row_on log past key ≡ Some row → IsRowOn key row
row_on_is log past key row e = by (entry key past) e
  where
    found_is : (found : List ℕ × ℕ) (b : Bool) → is_dumped log key found ≡ b → cond b (Some (record { key = key; value = found.0 })) None ≡ Some row → IsRowOn key row
    found_is found false is e = cc
    found_is found true is e =
        let parts = and_parts (nat_le 1 key.id && nat_le (length found.0) 1048576) (not (is_touched log key found.1)) is in
        let tests = and_parts (nat_le 1 key.id) (nat_le (length found.0) 1048576) parts.0 in
        let made : row ≡ record { key = key; value = found.0 } = cc in
        let low : 1 ≤ key.id = leb-true 1 key.id tests.0 in
        let few : length found.0 ≤ 1048576 = leb-true (length found.0) 1048576 tests.1 in
        record {
          of = ap (λ (r : DumpRow). r.key) made;
          id_from = subst (λ (r : DumpRow). 1 ≤ r.key.id) (sym made) low;
          short = subst (λ (r : DumpRow). length r.value ≤ 1048576) (sym made) few;
        }

    by : (o : Option (List ℕ × ℕ)) → option_and_then (row_of log key) o ≡ Some row → IsRowOn key row
    by None e = cc
    by (Some found) e = found_is found (is_dumped log key found) refl e

-- what holds of the row of each key holds of all rows
all_rows : (log : List Commit) (past : List Step) (Q : QKey → Type 0) (P : DumpRow → Type 0) → ((key : QKey) (row : DumpRow) → Q key → IsRowOn key row → P row)
    → (ks : List QKey) → AllByRecursion Q ks → All P (filter_map (row_on log past) (reverse ks))
all_rows log past Q P each [] h = All-nil P
all_rows log past Q P each (k ∷ ks) h =
    let seen : filter_map (row_on log past) (reverse (k ∷ ks)) ≡ filter_map (row_on log past) (reverse ks) ++ cons_option (row_on log past k) [] =
    ap (filter_map (row_on log past)) (reverse-append (k ∷ []) ks) ∙ filter_map-append (row_on log past) (reverse ks) (k ∷ []) in
    subst (All P) (sym seen) (All-append P (filter_map (row_on log past) (reverse ks)) (cons_option (row_on log past k) []) (all_rows log past Q P each ks h.1) (by (row_on log past k) refl))
  where
    by : (o : Option DumpRow) → row_on log past k ≡ o → All P (cons_option o [])
    by None e = All-nil P
    by (Some row) e = All-cons P row [] (each k row h.0 (row_on_is log past k row e)) (All-nil P)

-- keys that one key is not among
apart : (key : QKey) (ks : List QKey) → has key ks ≡ false → AllByRecursion (λ k. same_key key k ≡ false) ks
apart key [] h = tt
apart key (k ∷ ks) h = let parts = or_parts (same_key key k) (has key ks) h in (parts.0, apart key ks parts.1)

all_differ : (log : List Commit) (past : List Step) (ks : List QKey) → AreOnce ks → AllPairs (λ row later. row.key ≢ later.key) (filter_map (row_on log past) (reverse ks))
all_differ log past [] h = λ i j d low high. absurd (omega arith)
all_differ log past (k ∷ ks) h =
    let seen : filter_map (row_on log past) (reverse (k ∷ ks)) ≡ filter_map (row_on log past) (reverse ks) ++ cons_option (row_on log past k) [] =
    ap (filter_map (row_on log past)) (reverse-append (k ∷ []) ks) ∙ filter_map-append (row_on log past) (reverse ks) (k ∷ []) in
    subst (AllPairs (λ (row later : DumpRow). row.key ≢ later.key)) (sym seen) (by (row_on log past k) refl (all_differ log past ks h.1))
  where
    rows : List DumpRow
    rows = filter_map (row_on log past) (reverse ks)

    by : (o : Option DumpRow) → row_on log past k ≡ o → AllPairs (λ (row later : DumpRow). row.key ≢ later.key) rows
        → AllPairs (λ (row later : DumpRow). row.key ≢ later.key) (rows ++ cons_option o [])
    by None e rest = subst (AllPairs (λ (row later : DumpRow). row.key ≢ later.key)) (sym (append-nil rows)) rest
    by (Some row) e rest =
        let own = row_on_is log past k row e in
        let others : All (λ before. before.key ≢ row.key) rows =
        all_rows log past (λ key. same_key k key ≡ false) (λ (before : DumpRow). before.key ≢ row.key)
        (λ key before none is same.
        let one : key ≡ k = sym is.of ∙ (same ∙ own.of) in
        let clash : true ≡ false = sym (same_key-refl k) ∙ (ap (same_key k) (sym one) ∙ none) in absurd (cc))
        ks (apart k ks h.0) in
        all_pairs_push (λ (row later : DumpRow). row.key ≢ later.key) rows row rest others

row_count : (h : QKey → Option DumpRow) (ks : List QKey) → length (filter_map h ks) ≤ length ks
row_count h [] = omega arith
row_count h (k ∷ ks) = by (h k) (row_count h ks)
  where
    by : (o : Option DumpRow) → length (filter_map h ks) ≤ length ks → length (cons_option o (filter_map h ks)) ≤ length (k ∷ ks)
    by None rest = omega arith
    by (Some row) rest = omega arith

pub rows_few : (log : List Commit) (shard : ShardView) → Legal shard.terms shard.history → shard.terms.room ≤ 65536 → length (rows_of log (past_of shard)) ≤ 65536
rows_few log shard legal roomy =
    let few = order_few shard.terms (past_of shard) 65536 roomy (omega arith) legal in
    let count = row_count (row_on log (past_of shard)) (reverse (order (past_of shard))) in
    let same = length-reverse (order (past_of shard)) in
    omega (arith, few, count, same)

pub is_dump : (log : List Commit) (shard : ShardView) (rows : List DumpRow) (text : List ℕ) → shard.terms.no < shard.terms.count → shard.terms.count ≤ 64
    → shard.terms.room ≤ 65536 → Legal shard.terms shard.history → rows ≡ rows_of log (past_of shard) → All (λ row. row.key.id < 2 ^ 32) rows
    → text ≡ head_text (record { shard = shard.terms.no; count = shard.terms.count; rows = length rows }) ++ rows_text rows ++ end_text
    → IsDumpText text (dump_of log shard)
is_dump log shard rows text one_of few roomy legal e ids written =
    let head : Head = head_of (dump_of log shard) in
    let small : All (λ row. row.key.id < 2 ^ 32) (rows_of log (past_of shard)) = subst (All (λ (row : DumpRow). row.key.id < 2 ^ 32)) e ids in
    let right : All (λ row. IsRowOn row.key row × IsAtHome shard.terms row.key) (rows_of log (past_of shard)) =
    all_rows log (past_of shard) (IsAtHome shard.terms) (λ (row : DumpRow). IsRowOn row.key row × IsAtHome shard.terms row.key)
    (λ key row home is. (record { of = refl; id_from = is.id_from; short = is.short }, subst (IsAtHome shard.terms) (sym is.of) home))
    (order (past_of shard)) (order_home shard.terms (past_of shard) legal) in
    record {
      right = record { one_of = one_of; few_shards = few; few_rows = rows_few log shard legal roomy };
      rows = record {
        each = λ i d h. record { id_from = (right i d h).0.id_from; id_below = small i d h; at_home = (right i d h).1; short = (right i d h).0.short };
        differ = all_differ log (past_of shard) (order (past_of shard)) (order_once (past_of shard));
      };
      written = written ∙ ap (λ (rs : List DumpRow). head_text (record { shard = shard.terms.no; count = shard.terms.count; rows = length rs }) ++ rows_text rs ++ end_text) e;
    }

-- there is room for the rows where there was for the entries
pub rows_in_room : (log : List Commit) (shard : ShardView) → Legal shard.terms shard.history → 1 ≤ shard.terms.room
    → length (rows_of log (past_of shard)) ≤ shard.terms.room
rows_in_room log shard legal some =
    let few = order_few shard.terms (past_of shard) shard.terms.room (omega arith) some legal in
    let count = row_count (row_on log (past_of shard)) (reverse (order (past_of shard))) in
    let same = length-reverse (order (past_of shard)) in
    omega (arith, few, count, same)

and_not : (a b : Bool) → (a && not b) ≡ true → b ≡ false
and_not a false is = refl
and_not true true is = absurd cc
and_not false true is = absurd cc

-- what holds of each entry that no later commit touches holds of all rows
pub rows_by_entries : (log : List Commit) (past : List Step) (P : DumpRow → Type 0)
    → ((key : QKey) (value : List ℕ) (stamp : ℕ) → entry key past ≡ Some (value, stamp) → is_touched log key stamp ≡ false → P (record { key = key; value = value }))
    → (ks : List QKey) → All P (filter_map (row_on log past) ks)
rows_by_entries log past P each [] = All-nil P
rows_by_entries log past P each (k ∷ ks) = by (entry k past) refl (rows_by_entries log past P each ks)
  where
    taken : (found : List ℕ × ℕ) → entry k past ≡ Some found → (b : Bool) → is_dumped log k found ≡ b → All P (filter_map (row_on log past) ks)
        → All P (cons_option (if b then Some (record { key = k; value = found.0 }) else None) (filter_map (row_on log past) ks))
    taken found e true is rest =
        All-cons P (record { key = k; value = found.0 }) (filter_map (row_on log past) ks)
        (each k found.0 found.1 e (and_not (nat_le 1 k.id && nat_le (length found.0) 1048576) (is_touched log k found.1) is)) rest
    taken found e false is rest = rest

    by : (o : Option (List ℕ × ℕ)) → entry k past ≡ o → All P (filter_map (row_on log past) ks)
        → All P (cons_option (option_and_then (row_of log k) o) (filter_map (row_on log past) ks))
    by None e rest = rest
    by (Some found) e rest = taken found e (is_dumped log k found) refl rest

-- so the text that is written of the rows is that of the dump
pub text_is_dump : (log : List Commit) (shard : ShardView) (rows given : List DumpRow) (number count len : ℕ) (result : Result (Vec ℕ) Memory)
    → shard.terms.no < shard.terms.count → shard.terms.count ≤ 64 → shard.terms.room ≤ 65536 → Legal shard.terms shard.history
    → rows ≡ rows_of log (past_of shard) → All (λ row. row.key.id < 2 ^ 32) rows → given ≡ rows → number ≡ shard.terms.no → count ≡ shard.terms.count → len ≡ length rows
    → IfOk result (λ text. text.items ≡ head_text (record { shard = number; count = count; rows = len }) ++ rows_text given ++ end_text)
    → IfOk result (λ text. IsDumpText text.items (dump_of log shard))
text_is_dump log shard rows given number count len (Err fault) one_of few roomy legal e ids a b c d written = tt
text_is_dump log shard rows given number count len (Ok text) one_of few roomy legal e ids a b c d written =
    is_dump log shard rows text.items one_of few roomy legal e ids
    (written ∙ ap (λ (rs : List DumpRow). head_text (record { shard = number; count = count; rows = len }) ++ rows_text rs ++ end_text) a
    ∙ ap (λ (n : ℕ). head_text (record { shard = n; count = count; rows = len }) ++ rows_text rows ++ end_text) b
    ∙ ap (λ (n : ℕ). head_text (record { shard = shard.terms.no; count = n; rows = len }) ++ rows_text rows ++ end_text) c
    ∙ ap (λ (n : ℕ). head_text (record { shard = shard.terms.no; count = shard.terms.count; rows = n }) ++ rows_text rows ++ end_text) d)

pub none_left : (items : List Item) → length items ≡ 0 → items ≡ []
none_left [] e = refl
none_left (e ∷ items) h = absurd (omega arith)
