-- A part of a dump's text is told by the bytes: one number, one head and one row stand in front at most.
use Rattle.std.proofs.Common.{ℕ, ◌≡◌, ◌≢◌, ◌<◌, ◌≤◌, ◌^◌, ◌==◌, ◌||◌, true, false, List, [], ◌∷◌, ◌++◌, length, decimal, Option, Some, None}
use Rattle.std.proofs.Common.{arith, refl, sym, ap, ◌∙◌, append_assoc, IfNone, IfSome, MatchOption, eq-eqb}
use Rattle.std.specs.Prelude.{codes, All}
use Rattle.std.specs.List.{list_any}
use Rattle.std.specs.Str.Parse.{AllDigits, digits_value}
use Rattle.std.proofs.lemmas.Bool.{or_parts}
use Rattle.std.proofs.lemmas.Fmt.{digits_decimal, decimal_injective}
use Rattle.std.proofs.lemmas.List.{append_cancel_left}
use Rattle.std.proofs.lemmas.List.Elements.{All-nil, All-cons, All-head, All-tail, All-append, All-from_get_or}
use Rattle.std.proofs.lemmas.Str.Parse.{IsNumeralModel, numerals_by_value, tells_digits, digit_at}
use Rattle.rows_model.specs.declared.keys.Kind.{Kind}
use Rattle.rows_model.specs.declared.keys.Kind.TheVariants.{Profile, Friends, Pending, NFriends, NPending, Blocked}
use Rattle.rows_model.specs.declared.keys.QKey.{QKey}
use Rattle.rows_model.specs.Key.{word_of, key_text}
use Rattle.rows_model.proofs.KeyLemmas.{key_text_is, key_text_injective}
use Rattle.shard_dump.specs.declared.heads.Head.{Head}
use Rattle.shard_dump.specs.declared.rows.DumpRow.{DumpRow}
use Rattle.shard_dump.specs.Texts.{head_text, row_text, IsHead, IsRow}

pub if_none : {X : Type 0} (r : Option X) (P : Type 0) → P → IfNone r P
if_none None P p = p
if_none (Some x) P p = tt

-- the two parts of what holds of an option
pub some_part : {X : Type 0} (r : Option X) (N : Type 0) (S : X → Type 0) → MatchOption r N S → IfSome r S
some_part None N S h = tt
some_part (Some x) N S h = h

pub none_part : {X : Type 0} (r : Option X) (N : Type 0) (S : X → Type 0) → MatchOption r N S → IfNone r N
none_part None N S h = h
none_part (Some x) N S h = tt

-- a byte stands in a text that has it
pub has_it : (byte : ℕ) (a x : List ℕ) → All (λ b. b ≢ byte) (a ++ byte ∷ x) → ⊥
has_it byte [] x h = All-head (λ (b : ℕ). b ≢ byte) byte x h refl
has_it byte (c ∷ a) x h = has_it byte a x (All-tail (λ (b : ℕ). b ≢ byte) c (a ++ byte ∷ x) h)

-- what stands before the first such byte, and what behind it
pub cut_once : (byte : ℕ) (a b x y : List ℕ) → All (λ c. c ≢ byte) a → All (λ c. c ≢ byte) b → a ++ byte ∷ x ≡ b ++ byte ∷ y → (a ≡ b) × (x ≡ y)
cut_once byte [] [] x y h k e = let same : x ≡ y = cc in (refl, same)
cut_once byte [] (d ∷ b) x y h k e = let same : d ≡ byte = cc in absurd (All-head (λ (c : ℕ). c ≢ byte) d b k same)
cut_once byte (c ∷ a) [] x y h k e = let same : c ≡ byte = cc in absurd (All-head (λ (d : ℕ). d ≢ byte) c a h same)
cut_once byte (c ∷ a) (d ∷ b) x y h k e =
    let heads : c ≡ d = cc in
    let tails : a ++ byte ∷ x ≡ b ++ byte ∷ y = cc in
    let rest = cut_once byte a b x y (All-tail (λ (e : ℕ). e ≢ byte) c a h) (All-tail (λ (e : ℕ). e ≢ byte) d b k) tails in
    (ap (λ (t : List ℕ). c ∷ t) rest.0 ∙ ap (λ (t : ℕ). t ∷ b) heads, rest.1)

-- what stands in so many bytes, and what behind them
pub front_once : (a b x y : List ℕ) → length a ≡ length b → a ++ x ≡ b ++ y → (a ≡ b) × (x ≡ y)
front_once [] [] x y h e = (refl, e)
front_once [] (d ∷ b) x y h e = absurd (omega arith)
front_once (c ∷ a) [] x y h e = absurd (omega arith)
front_once (c ∷ a) (d ∷ b) x y h e =
    let heads : c ≡ d = cc in
    let tails : a ++ x ≡ b ++ y = cc in
    let rest = front_once a b x y (omega arith) tails in
    (ap (λ (t : List ℕ). c ∷ t) rest.0 ∙ ap (λ (t : ℕ). t ∷ b) heads, rest.1)

own : IsNumeralModel (AllDigits 10) (digits_value 10)
own = numerals_by_value (AllDigits 10) tells_digits

-- a decimal has no byte below its digits
pub none_in_decimal : (byte n : ℕ) → byte < 48 → n < 2 ^ 64 → All (λ b. b ≢ byte) (decimal n)
none_in_decimal byte n low small =
    let all : AllDigits 10 (decimal n) = digits_decimal own n small in
    All-from_get_or (λ (b : ℕ). b ≢ byte) (decimal n) 0 (λ i h e. let place = digit_at (decimal n) i all h in omega (arith, place.0, e))

-- a number in front of such a byte
pub number_once : (byte m n : ℕ) (x y : List ℕ) → byte < 48 → m < 2 ^ 64 → n < 2 ^ 64 → decimal m ++ byte ∷ x ≡ decimal n ++ byte ∷ y → (m ≡ n) × (x ≡ y)
number_once byte m n x y low a b e =
    let cut = cut_once byte (decimal m) (decimal n) x y (none_in_decimal byte m low a) (none_in_decimal byte n low b) e in
    (decimal_injective m n a b cut.0, cut.1)

-- a text that a test finds to be without a byte
none_by : (byte : ℕ) (text : List ℕ) → list_any (λ b. b == byte) text ≡ false → All (λ b. b ≢ byte) text
none_by byte [] e = All-nil (λ (b : ℕ). b ≢ byte)
none_by byte (c ∷ text) e =
    let parts = or_parts (c == byte) (list_any (λ b. b == byte) text) e in
    All-cons (λ (b : ℕ). b ≢ byte) c text (λ same. let yes : (c == byte) ≡ true = eq-eqb c byte same in let clash : true ≡ false = sym yes ∙ parts.0 in cc)
    (none_by byte text parts.1)

none_in_word : (kind : Kind) → All (λ b. b ≢ 32) (word_of kind)
none_in_word Profile = none_by 32 (word_of Profile) refl
none_in_word Friends = none_by 32 (word_of Friends) refl
none_in_word Pending = none_by 32 (word_of Pending) refl
none_in_word NFriends = none_by 32 (word_of NFriends) refl
none_in_word NPending = none_by 32 (word_of NPending) refl
none_in_word Blocked = none_by 32 (word_of Blocked) refl

-- a key's text has no space
pub none_in_key : (key : QKey) → key.id < 2 ^ 64 → All (λ b. b ≢ 32) (key_text key)
none_in_key key small =
    rw (key_text_is key)
    (All-append (λ (b : ℕ). b ≢ 32) (word_of key.kind) (58 ∷ decimal key.id) (none_in_word key.kind)
    (All-cons (λ (b : ℕ). b ≢ 32) 58 (decimal key.id) (λ e. omega arith) (none_in_decimal 32 key.id (omega arith) small)))

-- a row, and what stands behind it
pub row_regrouped : (row : DumpRow) (rest : List ℕ)
    → row_text row ++ rest ≡ key_text row.key ++ 32 ∷ (decimal (length row.value) ++ 10 ∷ (row.value ++ 10 ∷ rest))
row_regrouped row rest = simp append_assoc

-- a head, and what stands behind it
pub head_regrouped : (head : Head) (rest : List ℕ)
    → head_text head ++ rest
    ≡ codes "iqdump 1 " ++ (decimal head.shard ++ 32 ∷ (decimal head.count ++ 32 ∷ (decimal head.rows ++ 10 ∷ rest)))
head_regrouped head rest = simp append_assoc

-- a row's key in front of the first space, and what stands behind it
pub key_cut : (head : Head) (row : DumpRow) (text word behind rest : List ℕ) → IsRow head row → text ≡ word ++ 32 ∷ behind → All (λ b. b ≢ 32) word
    → text ≡ row_text row ++ rest → (word ≡ key_text row.key) × (behind ≡ decimal (length row.value) ++ 10 ∷ (row.value ++ 10 ∷ rest))
key_cut head row text word behind rest right cut none e =
    let small : row.key.id < 2 ^ 64 = omega (arith, right.id_below) in
    cut_once 32 word (key_text row.key) behind (decimal (length row.value) ++ 10 ∷ (row.value ++ 10 ∷ rest)) none (none_in_key row.key small)
    (sym cut ∙ (e ∙ row_regrouped row rest))

-- and the length of its value
pub bytes_cut : (head : Head) (row : DumpRow) (bytes : ℕ) (behind more rest : List ℕ) → IsRow head row → bytes < 2 ^ 64 → behind ≡ decimal bytes ++ 10 ∷ more
    → behind ≡ decimal (length row.value) ++ 10 ∷ (row.value ++ 10 ∷ rest) → (bytes ≡ length row.value) × (more ≡ row.value ++ 10 ∷ rest)
bytes_cut head row bytes behind more rest right small cut e =
    let short : length row.value < 2 ^ 64 = omega (arith, right.short) in
    number_once 10 bytes (length row.value) more (row.value ++ 10 ∷ rest) (omega arith) small short (sym cut ∙ e)

-- one row
pub row_once : (head : Head) (a b : DumpRow) (x y : List ℕ) → IsRow head a → IsRow head b → row_text a ++ x ≡ row_text b ++ y → (a ≡ b) × (x ≡ y)
row_once head a b x y h k e =
    let small : a.key.id < 2 ^ 64 = omega (arith, h.id_below) in
    let low : b.key.id < 2 ^ 64 = omega (arith, k.id_below) in
    let short : length a.value < 2 ^ 64 = omega (arith, h.short) in
    let key = key_cut head b (row_text a ++ x) (key_text a.key) (decimal (length a.value) ++ 10 ∷ (a.value ++ 10 ∷ x)) y k (row_regrouped a x) (none_in_key a.key small) e in
    let keys : a.key ≡ b.key = key_text_injective a.key b.key small low key.0 in
    let bytes = bytes_cut head b (length a.value) (decimal (length a.value) ++ 10 ∷ (a.value ++ 10 ∷ x)) (a.value ++ 10 ∷ x) y k short refl key.1 in
    let values = front_once a.value b.value (10 ∷ x) (10 ∷ y) bytes.0 bytes.1 in
    let rests : 10 ∷ x ≡ 10 ∷ y = values.1 in
    let ends : x ≡ y = cc in
    (λ i. record { key = keys i; value = values.0 i }, ends)

-- one head
pub head_once : (a b : Head) (x y : List ℕ) → IsHead a → IsHead b → head_text a ++ x ≡ head_text b ++ y → (a ≡ b) × (x ≡ y)
head_once a b x y h k e =
    let t = append_cancel_left (codes "iqdump 1 ") _ _ (sym (head_regrouped a x) ∙ (e ∙ head_regrouped b y)) in
    let shards = number_once 32 a.shard b.shard _ _ (omega arith) (omega (arith, h.one_of, h.few_shards)) (omega (arith, k.one_of, k.few_shards)) t in
    let counts = number_once 32 a.count b.count _ _ (omega arith) (omega (arith, h.few_shards)) (omega (arith, k.few_shards)) shards.1 in
    let rows = number_once 10 a.rows b.rows x y (omega arith) (omega (arith, h.few_rows)) (omega (arith, k.few_rows)) counts.1 in
    (λ i. record { shard = shards.0 i; count = counts.0 i; rows = rows.0 i }, rows.1)
