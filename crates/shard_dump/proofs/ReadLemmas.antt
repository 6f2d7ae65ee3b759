-- What the parts of the reader find.
use Rattle.std.proofs.Common.{ℕ, ◌≡◌, ◌≢◌, ◌<◌, ◌≤◌, ◌+◌, ◌^◌, ◌||◌, cond, Bool, true, false, List, [], ◌∷◌, ◌++◌, length, decimal, Some, None}
use Rattle.std.proofs.Common.{arith, refl, sym, ap, ◌∙◌, append_assoc, append-nil, length-append, subst, inl, inr}
use Rattle.std.specs.Prelude.{codes, All}
use Rattle.std.proofs.lemmas.Bool.{or_parts, or_cases}
use Rattle.std.proofs.lemmas.List.{flat_map_more, append_cancel_left}
use Rattle.std.proofs.lemmas.List.Elements.{All-nil, All-push, All-head, All-tail, All-cons}
use Rattle.std.proofs.lemmas.List.Quantifiers.{all_pairs_push}
use Rattle.rows_model.specs.Shift.{number_in}
use Rattle.rows_model.proofs.ShiftLemmas.{number_in-decimal}
use Rattle.shard_dump.specs.declared.heads.Head.{Head}
use Rattle.shard_dump.specs.declared.rows.DumpRow.{DumpRow}
use Rattle.shard_dump.specs.Texts.{head_text, row_text, rows_text, IsHead, IsRow}
use Rattle.shard_dump.specs.Faults.{BeginsWith, IsNext}
use Rattle.std.specs.BTreeSet.{BTreeSet, contains}
use Rattle.std.specs.BTreeMap.{is_at}
use Rattle.std.proofs.lemmas.List.Folds.{list_any-append}
use Rattle.lease_table.specs.Standing.{key_cmp}
use Rattle.lease_table.proofs.KeyLemmas.{is_at-key}
use Rattle.shard_dump.specs.Listed.{has_row, AreKeysOf}
use Rattle.rows_model.specs.declared.keys.QKey.{QKey}
use Rattle.rows_model.specs.Key.{key_text, same_key, IsKeyText}
use Rattle.rows_model.proofs.KeyLemmas.{key_text_injective}
use Rattle.rows_model.proofs.SameKey.{same_key-true, Decides-same_key, same_key-swap}
use Rattle.shard_dump.proofs.TextLemmas.{cut_once, none_in_decimal, has_it, number_once, head_regrouped, row_regrouped}

-- a word before a byte that is no number, is the decimal of none
pub no_number : (byte : ℕ) (text word behind : List ℕ) → byte < 48 → text ≡ word ++ byte ∷ behind → All (λ b. b ≢ byte) word → number_in word ≡ None
    → (number : ℕ) (rest : List ℕ) → number < 2 ^ 64 → text ≡ decimal number ++ byte ∷ rest → ⊥
no_number byte text word behind low cut none is number rest small e =
    let same = cut_once byte word (decimal number) behind rest none (none_in_decimal byte number low small) (sym cut ∙ e) in
    let clash : Some number ≡ None = sym (number_in-decimal number small) ∙ (ap number_in (sym same.0) ∙ is) in
    cc

-- nor is a text without that byte such a decimal in front of it
pub no_cut : (byte : ℕ) (text : List ℕ) → All (λ b. b ≢ byte) text
    → (number : ℕ) (rest : List ℕ) → number < 2 ^ 64 → text ≡ decimal number ++ byte ∷ rest → ⊥
no_cut byte text none number rest small e = has_it byte (decimal number) rest (subst (All (λ (b : ℕ). b ≢ byte)) e none)

-- where a head stands in front: what stands behind its word, behind its first number, and behind its second
pub word_behind : (head : Head) (text behind rest : List ℕ) → text ≡ codes "iqdump 1 " ++ behind → text ≡ head_text head ++ rest
    → behind ≡ decimal head.shard ++ 32 ∷ (decimal head.count ++ 32 ∷ (decimal head.rows ++ 10 ∷ rest))
word_behind head text behind rest cut e = append_cancel_left (codes "iqdump 1 ") _ _ (sym cut ∙ (e ∙ head_regrouped head rest))

pub shard_behind : (head : Head) (shard : ℕ) (text behind next rest : List ℕ) → IsHead head → text ≡ codes "iqdump 1 " ++ behind → text ≡ head_text head ++ rest
    → shard < 2 ^ 64 → behind ≡ decimal shard ++ 32 ∷ next → (shard ≡ head.shard) × (next ≡ decimal head.count ++ 32 ∷ (decimal head.rows ++ 10 ∷ rest))
shard_behind head shard text behind next rest right cut e small number =
    number_once 32 shard head.shard next _ (omega arith) small (omega (arith, right.one_of, right.few_shards)) (sym number ∙ word_behind head text behind rest cut e)

pub count_behind : (head : Head) (count : ℕ) (behind next rest : List ℕ) → IsHead head → behind ≡ decimal head.count ++ 32 ∷ (decimal head.rows ++ 10 ∷ rest)
    → count < 2 ^ 64 → behind ≡ decimal count ++ 32 ∷ next → (count ≡ head.count) × (next ≡ decimal head.rows ++ 10 ∷ rest)
count_behind head count behind next rest right e small number =
    number_once 32 count head.count next _ (omega arith) small (omega (arith, right.few_shards)) (sym number ∙ e)

pub rows_behind : (head : Head) (rows : ℕ) (behind next rest : List ℕ) → IsHead head → behind ≡ decimal head.rows ++ 10 ∷ rest
    → rows < 2 ^ 64 → behind ≡ decimal rows ++ 10 ∷ next → (rows ≡ head.rows) × (next ≡ rest)
rows_behind head rows behind next rest right e small number =
    number_once 10 rows head.rows next rest (omega arith) small (omega (arith, right.few_rows)) (sym number ∙ e)

-- three numbers in front of which the word stands make a head's text
pub head_joined : (head : Head) (text behind more last rest : List ℕ) → text ≡ codes "iqdump 1 " ++ behind → behind ≡ decimal head.shard ++ 32 ∷ more
    → more ≡ decimal head.count ++ 32 ∷ last → last ≡ decimal head.rows ++ 10 ∷ rest → text ≡ head_text head ++ rest
head_joined head text behind more last rest a b c d =
    a ∙ ap (λ (t : List ℕ). codes "iqdump 1 " ++ t) (b ∙ ap (λ (t : List ℕ). decimal head.shard ++ 32 ∷ t) (c ∙ ap (λ (t : List ℕ). decimal head.count ++ 32 ∷ t) d))
    ∙ sym (head_regrouped head rest)

-- three numbers that are a head's make it
pub same_head : (head : Head) (shard count rows : ℕ) → shard ≡ head.shard → count ≡ head.count → rows ≡ head.rows
    → head ≡ record { shard = shard; count = count; rows = rows }
same_head head shard count rows a b c = λ i. record { shard = sym a i; count = sym b i; rows = sym c i }

-- what is the text of a row's key
pub key_is_text : (head : Head) (row : DumpRow) (word : List ℕ) → IsRow head row → word ≡ key_text row.key → IsKeyText word row.key
key_is_text head row word right e = record { id_from = right.id_from; id_below = right.id_below; written = e }

-- a key that parses as the text of a row's key is that key
pub key_parsed : (head : Head) (row : DumpRow) (key : QKey) (word : List ℕ) → IsRow head row → IsKeyText word key → word ≡ key_text row.key → key ≡ row.key
key_parsed head row key word right text e =
    key_text_injective key row.key (omega (arith, text.id_below)) (omega (arith, right.id_below)) (sym text.written ∙ e)

-- a key, a length and a value make the text of a row
pub row_joined : (key : QKey) (text word behind value more rest : List ℕ) (bytes : ℕ) → text ≡ word ++ 32 ∷ behind → word ≡ key_text key
    → behind ≡ decimal bytes ++ 10 ∷ more → more ≡ value ++ 10 ∷ rest → length value ≡ bytes → text ≡ row_text (record { key = key; value = value }) ++ rest
row_joined key text word behind value more rest bytes a b c d e =
    a ∙ ap (λ (t : List ℕ). t ++ 32 ∷ behind) b
    ∙ ap (λ (t : List ℕ). key_text key ++ 32 ∷ t) (c ∙ ap (λ (t : List ℕ). decimal bytes ++ 10 ∷ t) d ∙ ap (λ (n : ℕ). decimal n ++ 10 ∷ (value ++ 10 ∷ rest)) (sym e))
    ∙ sym (row_regrouped (record { key = key; value = value }) rest)

-- a row whose key is another's may not stand behind it
pub not_next : (head : Head) (rows : List DumpRow) (row : DumpRow) → has_row row.key rows ≡ true → IsNext head rows row → ⊥
not_next head rows row there next = absent rows next.other there
  where
    absent : (rows : List DumpRow) → All (λ before. before.key ≢ row.key) rows → has_row row.key rows ≡ true → ⊥
    absent [] all there = cc
    absent (before ∷ rows) all there =
        elim (or_cases (same_key row.key before.key) (has_row row.key rows) there) [
          | inl same ↦ All-head (λ (b : DumpRow). b.key ≢ row.key) before rows all (sym (same_key-true row.key before.key same))
          | inr other ↦ absent rows (All-tail (λ (b : DumpRow). b.key ≢ row.key) before rows all) other
        ]

-- and one whose key none of them has may
pub others : (rows : List DumpRow) (key : QKey) → has_row key rows ≡ false → All (λ before. before.key ≢ key) rows
others [] key none = All-nil (λ (b : DumpRow). b.key ≢ key)
others (before ∷ rows) key none =
    let parts = or_parts (same_key key before.key) (has_row key rows) none in
    All-cons (λ (b : DumpRow). b.key ≢ key) before rows
    (λ e. let yes : same_key key before.key ≡ true = (Decides-same_key key before.key).1 (sym e) in let clash : true ≡ false = sym yes ∙ parts.0 in cc)
    (others rows key parts.1)

either : (s h : Bool) → cond s true h ≡ (h || (s || false))
either true true = refl
either true false = refl
either false true = refl
either false false = refl

-- a set that has the keys of rows and one more
pub keys_more : (rows items : List DumpRow) (row : DumpRow) (old new : BTreeSet QKey) → AreKeysOf rows old
    → ((other : QKey) → contains key_cmp new other ≡ cond (is_at (key_cmp row.key) other) true (contains key_cmp old other)) → items ≡ rows ++ row ∷ []
    → AreKeysOf items new
keys_more rows items row old new keys put e key =
    let at : is_at (key_cmp row.key) key ≡ same_key key row.key = is_at-key row.key key ∙ same_key-swap row.key key in
    put key ∙ ap (λ (b : Bool). cond b true (contains key_cmp old key)) at ∙ ap (λ (b : Bool). cond (same_key key row.key) true b) (keys key)
    ∙ either (same_key key row.key) (has_row key rows)
    ∙ sym (list_any-append (λ (r : DumpRow). same_key key r.key) rows (row ∷ []))
    ∙ ap (λ (rs : List DumpRow). has_row key rs) (sym e)

-- with a row behind, the text still begins so
pub begins_more : (text : List ℕ) (head : Head) (rows : List DumpRow) (row : DumpRow) (rest more : List ℕ)
    → BeginsWith text head rows rest → IsNext head rows row → length rows < head.rows → rest ≡ row_text row ++ more → BeginsWith text head (rows ++ row ∷ []) more
begins_more text head rows row rest more h next fewer e = record {
  right = h.right;
  few = rw length-append (omega arith);
  rows_right = record {
    each = All-push (IsRow head) rows row h.rows_right.each next.right;
    differ = all_pairs_push (λ (a b : DumpRow). a.key ≢ b.key) rows row h.rows_right.differ next.other;
  };
  written = h.written ∙ ap (λ (t : List ℕ). (head_text head ++ rows_text rows) ++ t) e
      ∙ sym (append_assoc (head_text head ++ rows_text rows) (row_text row) more)
      ∙ ap (λ (t : List ℕ). t ++ more) (flat_map_more row_text (head_text head) rows row);
}

-- and with none it begins with its head
pub begins_first : (text : List ℕ) (head : Head) (rest : List ℕ) → IsHead head → text ≡ head_text head ++ rest → BeginsWith text head [] rest
begins_first text head rest right e = record {
  right = right;
  few = omega arith;
  rows_right = record { each = All-nil (IsRow head); differ = λ i j d low high. absurd (omega arith) };
  written = e ∙ ap (λ (t : List ℕ). t ++ rest) (sym (append-nil (head_text head)));
}

-- the rest is no longer than the text
pub rest_shorter : (text : List ℕ) (head : Head) (rows : List DumpRow) (rest : List ℕ) → BeginsWith text head rows rest → length rest ≤ length text
rest_shorter text head rows rest h =
    let lengths : length text ≡ length ((head_text head ++ rows_text rows) ++ rest) = ap length h.written in
    let e = length-append (head_text head ++ rows_text rows) rest in
    omega (arith, lengths, e)
