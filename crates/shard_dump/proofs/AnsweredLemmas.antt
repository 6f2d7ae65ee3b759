-- The rows of the entries that a store answers so.
use Rattle.std.proofs.Common.{ℕ, ◌≡◌, ◌≢◌, ◌<◌, ◌≤◌, ◌^◌, inl, inr, Bool, true, false, cond, List, [], ◌∷◌, ◌++◌, length, reverse, map, filter, get_or, Option, Some, None, option_map}
use Rattle.std.proofs.Common.{arith, refl, sym, ap, subst, ◌∙◌, append_assoc, append-nil}
use Rattle.std.specs.Prelude.{All, AllPairs, IsSome, nat_le, bytes_eq}
use Rattle.std.specs.Cmp.Lexicographic.{bytes_decides}
use Rattle.std.specs.List.{filter_map, AllByRecursion, cons_option}
use Rattle.std.proofs.lemmas.Bool.{and_parts, leb-true, or_parts}
use Rattle.std.proofs.lemmas.List.{reverse-append, map-append}
use Rattle.std.proofs.lemmas.List.Elements.{All-from_recursion, filter_map-append}
use Rattle.std.proofs.lemmas.List.Kept.{AllPairs-cons}
use Rattle.rows_model.specs.declared.keys.QKey.{QKey}
use Rattle.rows_model.specs.Key.{same_key}
use Rattle.rows_model.specs.Query.{answer}
use Rattle.rows_model.specs.Rows.{Tables}
use Rattle.rows_model.proofs.SameKey.{same_key-refl}
use Rattle.entry_table.specs.Entries.{Item, lookup, keys}
use Rattle.entry_table.proofs.EntriesLemmas.{keys-nil, keys-cons}
use Rattle.key_shard.specs.declared.steps.Step.{Step}
use Rattle.key_shard.specs.Past.{entry, order}
use Rattle.key_shard.specs.Answers.{IsAtHome, Legal}
use Rattle.key_shard.specs.Shards.{ShardView, past_of}
use Rattle.shard_dump.specs.declared.rows.DumpRow.{DumpRow}
use Rattle.shard_dump.specs.declared.rows.Dump.{Dump}
use Rattle.shard_dump.specs.Texts.{head_text, rows_text, end_text}
use Rattle.shard_dump.specs.Answered.{AreAmong, IsAnsweredText, answered_rows, entry_on, entry_row, entry_rows, is_answered, may_stand}
use Rattle.shard_dump.proofs.ShardLemmas.{has, AreOnce, order_once, order_home, order_few}
use Rattle.shard_dump.proofs.DumpLemmas.{AreFound, all_found, filter_map-reverse}

-- the row of an entry in a list
abbrev pub row_in : Item → DumpRow
row_in item = record { key = item.0; value = item.1 }

-- the rows of entries, the last one first
abbrev pub rows_back : List Item → List DumpRow
rows_back items = map row_in (reverse items)

-- ---- the rows are those that the history tells

map-reverse : {X Y : Type 0} (f : X → Y) (xs : List X) → map f (reverse xs) ≡ reverse (map f xs)
map-reverse f [] = refl
map-reverse {Y = Y} f (x ∷ xs) =
    ap (map f) (reverse-append (x ∷ []) xs) ∙ map-append f (reverse xs) (x ∷ []) ∙ ap (λ (t : List Y). t ++ f x ∷ []) (map-reverse f xs)
    ∙ sym (reverse-append (f x ∷ []) (map f xs))

agree : (past : List Step) (items : List Item) → AreFound past items → map row_in items ≡ filter_map (entry_on past) (keys items)
agree past [] h = ap (filter_map (entry_on past)) (sym keys-nil)
agree past (e ∷ items) h =
    let one : Some (row_in e) ≡ entry_on past e.0 = ap (option_map (entry_row e.0)) (sym h.0) in
    ap (λ (rows : List DumpRow). row_in e ∷ rows) (agree past items h.1)
    ∙ ap (λ (o : Option DumpRow). cons_option o (filter_map (entry_on past) (keys items))) one
    ∙ ap (filter_map (entry_on past)) (sym (keys-cons e items))

pub rows_are : (past : List Step) (items : List Item) → ((key : QKey) → lookup key items ≡ entry key past) → keys items ≡ order past
    → rows_back items ≡ entry_rows past
rows_are past items found in_order =
    let once : AreOnce (keys items) = subst AreOnce (sym in_order) (order_once past) in
    map-reverse row_in items
    ∙ ap reverse (agree past items (all_found items past once (λ key _. found key)) ∙ ap (filter_map (entry_on past)) in_order)
    ∙ sym (filter_map-reverse (entry_on past) (order past))

-- ---- one more entry

next_back : (left : List Item) (item : Item) → rows_back (left ++ item ∷ []) ≡ row_in item ∷ rows_back left
next_back left item = ap (map row_in) (reverse-append left (item ∷ []))

-- the rows so far may go on with those that are among the rows of what is left
abbrev pub MayGoOn : List DumpRow → List Item → List DumpRow → Type 0
MayGoOn rows left all = (more : List DumpRow) → AreAmong more (rows_back left) → AreAmong (rows ++ more) all

pub goes_with : (rows : List DumpRow) (left : List Item) (item : Item) (all : List DumpRow) → MayGoOn rows (left ++ item ∷ []) all
    → MayGoOn (rows ++ row_in item ∷ []) left all
goes_with rows left item all h = λ more are.
    subst (λ (l : List DumpRow). AreAmong l all) (sym (append_assoc rows (row_in item ∷ []) more))
    (h (row_in item ∷ more) (subst (AreAmong (row_in item ∷ more)) (sym (next_back left item)) (inr (more, refl, are))))

pub goes_without : (rows : List DumpRow) (left : List Item) (item : Item) (all : List DumpRow) → MayGoOn rows (left ++ item ∷ []) all → MayGoOn rows left all
goes_without rows left item all h = λ more are. h more (subst (AreAmong more) (sym (next_back left item)) (inl are))

-- the rows so far, with those of what is left that are right, are all that are
abbrev pub TakesRight : Tables → List DumpRow → List Item → List DumpRow → Type 0
TakesRight tables rows left all = rows ++ filter (is_answered tables) (rows_back left) ≡ all

pub right_with : (tables : Tables) (rows : List DumpRow) (left : List Item) (item : Item) (all : List DumpRow) → is_answered tables (row_in item) ≡ true
    → TakesRight tables rows (left ++ item ∷ []) all → TakesRight tables (rows ++ row_in item ∷ []) left all
right_with tables rows left item all is h =
    let rest = filter (is_answered tables) (rows_back left) in
    append_assoc rows (row_in item ∷ []) rest
    ∙ ap (λ (b : Bool). rows ++ cond b (row_in item ∷ rest) rest) (sym is)
    ∙ ap (λ (l : List DumpRow). rows ++ filter (is_answered tables) l) (sym (next_back left item)) ∙ h

pub right_without : (tables : Tables) (rows : List DumpRow) (left : List Item) (item : Item) (all : List DumpRow) → is_answered tables (row_in item) ≡ false
    → TakesRight tables rows (left ++ item ∷ []) all → TakesRight tables rows left all
right_without tables rows left item all is h =
    let rest = filter (is_answered tables) (rows_back left) in
    ap (λ (b : Bool). rows ++ cond b (row_in item ∷ rest) rest) (sym is)
    ∙ ap (λ (l : List DumpRow). rows ++ filter (is_answered tables) l) (sym (next_back left item)) ∙ h

-- the rows of entries that are right, the last one first
abbrev pub right_rows : Tables → List Item → List DumpRow
right_rows tables items = filter (is_answered tables) (rows_back items)

-- each is its key's answer
pub answered_right : (tables : Tables) (rows : List DumpRow) → All (λ row. row.value ≡ answer row.key tables) (filter (is_answered tables) rows)
answered_right tables rows =
    All-from_recursion (λ (row : DumpRow). row.value ≡ answer row.key tables) (filter (is_answered tables) rows) (each rows)
  where
    IsRight : DumpRow → Type 0
    IsRight row = row.value ≡ answer row.key tables

    one : (row : DumpRow) (rest : List DumpRow) (b : Bool) → is_answered tables row ≡ b → AllByRecursion IsRight rest
        → AllByRecursion IsRight (cond b (row ∷ rest) rest)
    one row rest true is h =
        ((bytes_decides row.value (answer row.key tables)).0 (and_parts (may_stand row) (bytes_eq row.value (answer row.key tables)) is).1, h)
    one row rest false is h = h

    each : (rows : List DumpRow) → AllByRecursion IsRight (filter (is_answered tables) rows)
    each [] = tt
    each (row ∷ rows) = one row (filter (is_answered tables) rows) (is_answered tables row) refl (each rows)

-- ---- what is so of rows among others

among_all : (P : DumpRow → Type 0) (rows all : List DumpRow) → AreAmong rows all → AllByRecursion P all → AllByRecursion P rows
among_all P rows [] is h = subst (AllByRecursion P) (sym is) tt
among_all P rows (one ∷ all) (inl is) h = among_all P rows all is h.1
among_all P rows (one ∷ all) (inr (rest, starts, is)) h = subst (AllByRecursion P) (sym starts) (h.0, among_all P rest all is h.1)

-- no two rows have one key
abbrev AreApart : List DumpRow → Type 0
AreApart [] = Unit {0}
AreApart (row ∷ rows) = AllByRecursion (λ (other : DumpRow). row.key ≢ other.key) rows × AreApart rows

among_apart : (rows all : List DumpRow) → AreAmong rows all → AreApart all → AreApart rows
among_apart rows [] is h = subst AreApart (sym is) tt
among_apart rows (one ∷ all) (inl is) h = among_apart rows all is h.1
among_apart rows (one ∷ all) (inr (rest, starts, is)) h =
    subst AreApart (sym starts) (among_all (λ (other : DumpRow). one.key ≢ other.key) rest all is h.0, among_apart rest all is h.1)

pairs_of : (rows : List DumpRow) → AreApart rows → AllPairs (λ row later. row.key ≢ later.key) rows
pairs_of [] h = λ i j d low high. absurd (omega arith)
pairs_of (row ∷ rows) h =
    AllPairs-cons (λ (row later : DumpRow). row.key ≢ later.key) row rows
    (All-from_recursion (λ (other : DumpRow). row.key ≢ other.key) rows h.0) (pairs_of rows h.1)

all_push : (P : DumpRow → Type 0) (rows : List DumpRow) (row : DumpRow) → AllByRecursion P rows → P row → AllByRecursion P (rows ++ row ∷ [])
all_push P [] row h last = (last, tt)
all_push P (one ∷ rows) row h last = (h.0, all_push P rows row h.1 last)

apart_push : (rows : List DumpRow) (row : DumpRow) → AreApart rows → AllByRecursion (λ (other : DumpRow). other.key ≢ row.key) rows → AreApart (rows ++ row ∷ [])
apart_push [] row h others = (tt, tt)
apart_push (one ∷ rows) row h others =
    (all_push (λ (other : DumpRow). one.key ≢ other.key) rows row h.0 others.0, apart_push rows row h.1 others.1)

-- ---- the rows of all entries

last_row : (past : List Step) (k : QKey) (ks : List QKey)
    → filter_map (entry_on past) (reverse (k ∷ ks)) ≡ filter_map (entry_on past) (reverse ks) ++ cons_option (entry_on past k) []
last_row past k ks = ap (filter_map (entry_on past)) (reverse-append (k ∷ []) ks) ∙ filter_map-append (entry_on past) (reverse ks) (k ∷ [])

-- what is so of each key is so of the rows of all
keys_all : (past : List Step) (P : QKey → Type 0) (ks : List QKey) → AllByRecursion P ks
    → AllByRecursion (λ (row : DumpRow). P row.key) (filter_map (entry_on past) (reverse ks))
keys_all past P [] h = tt
keys_all past P (k ∷ ks) h =
    subst (AllByRecursion (λ (row : DumpRow). P row.key)) (sym (last_row past k ks)) (by (entry k past) (keys_all past P ks h.1))
  where
    front : List DumpRow
    front = filter_map (entry_on past) (reverse ks)

    by : (o : Option (List ℕ × ℕ)) → AllByRecursion (λ (row : DumpRow). P row.key) front
        → AllByRecursion (λ (row : DumpRow). P row.key) (front ++ cons_option (option_map (entry_row k) o) [])
    by None rest = subst (AllByRecursion (λ (row : DumpRow). P row.key)) (sym (append-nil front)) rest
    by (Some found) rest = all_push (λ (row : DumpRow). P row.key) front (entry_row k found) rest h.0

-- keys that one key is not among
apart_keys : (key : QKey) (ks : List QKey) → has key ks ≡ false → AllByRecursion (λ (other : QKey). other ≢ key) ks
apart_keys key [] h = tt
apart_keys key (k ∷ ks) h =
    let parts = or_parts (same_key key k) (has key ks) h in
    (λ is. let clash : true ≡ false = sym (same_key-refl key) ∙ (ap (same_key key) (sym is) ∙ parts.0) in absurd cc, apart_keys key ks parts.1)

keys_apart : (past : List Step) (ks : List QKey) → AreOnce ks → AreApart (filter_map (entry_on past) (reverse ks))
keys_apart past [] h = tt
keys_apart past (k ∷ ks) h = subst AreApart (sym (last_row past k ks)) (by (entry k past) (keys_apart past ks h.1))
  where
    front : List DumpRow
    front = filter_map (entry_on past) (reverse ks)

    by : (o : Option (List ℕ × ℕ)) → AreApart front → AreApart (front ++ cons_option (option_map (entry_row k) o) [])
    by None rest = subst AreApart (sym (append-nil front)) rest
    by (Some found) rest = apart_push front (entry_row k found) rest (keys_all past (λ (other : QKey). other ≢ k) ks (apart_keys k ks h.0))

-- ---- so the text that is written of the rows is that of a dump

stands : (row : DumpRow) → may_stand row ≡ true → (1 ≤ row.key.id) × (length row.value ≤ 1048576)
stands row is =
    let parts = and_parts (nat_le 1 row.key.id) (nat_le (length row.value) 1048576) is in
    (leb-true 1 row.key.id parts.0, leb-true (length row.value) 1048576 parts.1)

-- what is known of the rows that are dumped
pub record AreRowsOf (known_rows : Option Tables) (tables : Tables) (shard : ShardView) (rows : List DumpRow) : Type 0 where
  pub among : AreAmong rows (entry_rows (past_of shard))
  pub right : IsSome known_rows → rows ≡ answered_rows tables (past_of shard)
  pub few : length rows ≤ length (order (past_of shard))
  pub stand : All (λ row. may_stand row ≡ true) rows
  pub ids : All (λ row. row.key.id < 2 ^ 32) rows

pub is_dump : (known_rows : Option Tables) (tables : Tables) (shard : ShardView) (rows : List DumpRow) (text : List ℕ) → shard.terms.no < shard.terms.count
    → shard.terms.count ≤ 64 → shard.terms.room ≤ 65536 → Legal shard.terms shard.history → AreRowsOf known_rows tables shard rows
    → text ≡ head_text (record { shard = shard.terms.no; count = shard.terms.count; rows = length rows }) ++ rows_text rows ++ end_text
    → IsAnsweredText known_rows tables shard text
is_dump known_rows tables shard rows text one_of few roomy legal are written =
    let dump : Dump = record { shard = shard.terms.no; count = shard.terms.count; rows = rows } in
    let many = order_few shard.terms (past_of shard) 65536 roomy (omega arith) legal in
    let fewer = are.few in
    let home : All (λ (row : DumpRow). IsAtHome shard.terms row.key) rows =
    All-from_recursion (λ (row : DumpRow). IsAtHome shard.terms row.key) rows
    (among_all (λ (row : DumpRow). IsAtHome shard.terms row.key) rows (entry_rows (past_of shard)) are.among
    (keys_all (past_of shard) (IsAtHome shard.terms) (order (past_of shard)) (order_home shard.terms (past_of shard) legal))) in
    record {
      dump = dump;
      is_text = record {
        right = record { one_of = one_of; few_shards = few; few_rows = omega (arith, many, fewer) };
        rows = record {
          each = λ i d h. record {
            id_from = (stands (get_or rows i d) (are.stand i d h)).0;
            id_below = are.ids i d h;
            at_home = home i d h;
            short = (stands (get_or rows i d) (are.stand i d h)).1;
          };
          differ = pairs_of rows (among_apart rows (entry_rows (past_of shard)) are.among (keys_apart (past_of shard) (order (past_of shard)) (order_once (past_of shard))));
        };
        written = written;
      };
      answered = record { shard_is = refl; count_is = refl; among = are.among; right = are.right };
    }

-- so it is of the rows that are handed over, and of the numbers that the shard tells
pub text_is_dump : (known_rows : Option Tables) (tables : Tables) (shard : ShardView) (rows given : List DumpRow) (number count len : ℕ) (text : List ℕ)
    → shard.terms.no < shard.terms.count → shard.terms.count ≤ 64 → shard.terms.room ≤ 65536 → Legal shard.terms shard.history
    → AreRowsOf known_rows tables shard rows → given ≡ rows → number ≡ shard.terms.no → count ≡ shard.terms.count → len ≡ length rows
    → text ≡ head_text (record { shard = number; count = count; rows = len }) ++ rows_text given ++ end_text
    → IsAnsweredText known_rows tables shard text
text_is_dump known_rows tables shard rows given number count len text one_of few roomy legal are a b c d written =
    is_dump known_rows tables shard rows text one_of few roomy legal are
    (written ∙ ap (λ (rs : List DumpRow). head_text (record { shard = number; count = count; rows = len }) ++ rows_text rs ++ end_text) a
    ∙ ap (λ (n : ℕ). head_text (record { shard = n; count = count; rows = len }) ++ rows_text rows ++ end_text) b
    ∙ ap (λ (n : ℕ). head_text (record { shard = shard.terms.no; count = n; rows = len }) ++ rows_text rows ++ end_text) c
    ∙ ap (λ (n : ℕ). head_text (record { shard = shard.terms.no; count = shard.terms.count; rows = n }) ++ rows_text rows ++ end_text) d)
