-- The texts of the keys that are served.
use Rattle.std.proofs.Common.{ℕ, zero, suc, ◌+◌, ◌≡◌, ◌<◌, ◌≤◌, ◌^◌, ◌==◌, true, List, [], ◌∷◌, ◌++◌, length, drop, get_or, decimal, Some, arith, refl, sym, ap, ◌∙◌}
use Rattle.std.specs.List.{list_all}
use Rattle.std.specs.Prelude.{if◌then◌else◌, nat_le, nat_lt, ◌&&◌}
use Rattle.std.proofs.lemmas.List.{length-append}
use Rattle.std.proofs.lemmas.Bool.{and_parts}
use Rattle.std.proofs.lemmas.Bool.Decides.{nat_tests}
use Rattle.std.proofs.lemmas.Fmt.{first_decimal, decimal_digit, decimal_nonempty, length-decimal-le}
use Rattle.rows_model.specs.declared.keys.Kind.{Kind}
use Rattle.rows_model.specs.declared.keys.Kind.TheVariants.{Profile, Friends, Pending, NFriends, NPending, Blocked}
use Rattle.rows_model.specs.declared.keys.QKey.{QKey}
use Rattle.rows_model.specs.Key.{word_of}
use Rattle.rows_model.proofs.KeyLemmas.{key_text_is}
use Rattle.rows_model.specs.Shift.{is_digit, number_from, is_number, number_in}
use Rattle.rows_model.proofs.ShiftLemmas.{number_in_is, number_in-decimal, number_in-written, some_parts, decimal_digits}
use Rattle.mc_text.specs.Words.{is_key_byte, is_key, IsNumber, IsMember, IsServed}
use Rattle.mc_text.proofs.NumberLemmas.{numeral_parts}

-- digits that begin with none of 0 are written as a number is
plain_number : (text : List ℕ) → 1 ≤ length text → 49 ≤ get_or text 0 0 → list_all is_digit text ≡ true → is_number text ≡ true
plain_number [] some first all = absurd (omega arith)
plain_number (c ∷ []) some first all = grind (arith, nat_tests)
plain_number (c ∷ d ∷ cs) some first all = grind (arith, nat_tests)

-- a number that doesn't begin with 0 is written as its decimal
pub number_written : (digits : List ℕ) (number : ℕ) → IsNumber digits number → 49 ≤ get_or digits 0 0 → digits ≡ decimal number
number_written digits number h first =
    let parts = numeral_parts digits h.form in
    let plain = plain_number digits parts.0 first parts.2 in
    let value = h.value in
    let below = h.below in
    let small : nat_lt (number_from 0 digits) (2 ^ 64) ≡ true = grind (arith, nat_tests) in
    let read : number_in digits ≡ Some (number_from 0 digits) = rw (number_in_is digits, plain, small) refl in
    (number_in-written digits (number_from 0 digits) read).0 ∙ ap decimal (sym value)

-- and isn't 0
pub not_zero : (digits : List ℕ) (number : ℕ) → IsNumber digits number → 49 ≤ get_or digits 0 0 → 1 ≤ number
not_zero digits zero h first =
    let zeros : digits ≡ 48 ∷ [] = number_written digits 0 h first ∙ decimal_digit 0 (omega arith) in
    let same : get_or digits 0 0 ≡ 48 = ap (λ (ds : List ℕ). get_or ds 0 0) zeros in
    absurd (omega arith)
not_zero digits (suc n) h first = omega arith

-- the first of digits is one
first_digit : (text : List ℕ) → 1 ≤ length text → list_all is_digit text ≡ true → is_digit (get_or text 0 0) ≡ true
first_digit [] some all = absurd (omega arith)
first_digit (d ∷ ds) some all = (and_parts (is_digit d) (list_all is_digit ds) all).0

-- an id that a member can have is a number that doesn't begin with 0
pub record IsNumberOf (digits : List ℕ) (id : ℕ) : Type 0 where
  pub number : IsNumber digits id
  pub low : 49 ≤ get_or digits 0 0
  pub high : get_or digits 0 0 ≤ 57

pub member_number : (digits : List ℕ) (id : ℕ) → IsMember digits id → IsNumberOf digits id
member_number digits id h =
    let to = h.id_to in
    let from = h.id_from in
    let small : id < 2 ^ 64 = omega arith in
    let all : list_all is_digit digits ≡ true = rw h.written (decimal_digits id small) in
    let some : 0 < length digits = rw h.written (decimal_nonempty id small) in
    let few : length digits ≤ 6 = rw h.written (length-decimal-le 6 id (omega arith) (omega arith) small) in
    let first : 48 < get_or digits 0 0 = rw h.written (first_decimal id (omega arith) small) in
    let read : number_in digits ≡ Some id = rw h.written (number_in-decimal id small) in
    let value = (some_parts (is_number digits && nat_lt (number_from 0 digits) (2 ^ 64)) (number_from 0 digits) id (sym (number_in_is digits) ∙ read)).1 in
    let one : is_digit (get_or digits 0 0) ≡ true = first_digit digits (omega arith) all in
    let low : nat_le 1 (length digits) ≡ true = grind (arith, nat_tests) in
    let high : nat_le (length digits) 20 ≡ true = grind (arith, nat_tests) in
    record {
      number = record { form = rw (low, high, all) refl; value = sym value; below = small };
      low = omega arith;
      high = grind (arith, nat_tests);
    }

-- the kind that the first two bytes of a key's text tell
told_kind : List ℕ → Kind
told_kind text =
    if get_or text 0 0 == 112 then (if get_or text 1 0 == 114 then Profile else Pending) else
    if get_or text 0 0 == 102 then Friends else
    if get_or text 0 0 == 110 then (if get_or text 1 0 == 102 then NFriends else NPending) else
    Blocked

kind_back : (kind : Kind) (digits : List ℕ) → told_kind (word_of kind ++ 58 ∷ digits) ≡ kind
unfolding told_kind
kind_back Profile digits = refl
kind_back Friends digits = refl
kind_back Pending digits = refl
kind_back NFriends digits = refl
kind_back NPending digits = refl
kind_back Blocked digits = refl

-- what stands behind the colon
behind : (kind : Kind) (digits : List ℕ) → drop (length (word_of kind) + 1) (word_of kind ++ 58 ∷ digits) ≡ digits
behind Profile digits = refl
behind Friends digits = refl
behind Pending digits = refl
behind NFriends digits = refl
behind NPending digits = refl
behind Blocked digits = refl

-- a text is cut at its colon once
digits_once : (a b : Kind) (x y : List ℕ) → word_of a ++ 58 ∷ x ≡ word_of b ++ 58 ∷ y → x ≡ y
digits_once a b x y e =
    let kind : a ≡ b = sym (kind_back a x) ∙ (ap told_kind e ∙ kind_back b y) in
    sym (behind a x) ∙ (ap (λ (t : List ℕ). drop (length (word_of a) + 1) t) e
    ∙ (ap (λ (k : Kind). drop (length (word_of k) + 1) (word_of b ++ 58 ∷ y)) kind ∙ behind b y))

-- a word of a kind whose digits are those of no member is no key that is served
pub no_member : (word digits : List ℕ) (kind : Kind) → word ≡ word_of kind ++ 58 ∷ digits
    → ((id : ℕ) → IsMember digits id → ⊥) → (key : QKey) → IsServed word key → ⊥
no_member word digits kind e none key h =
    let written = digits_once kind key.kind digits (decimal key.id) (sym e ∙ (h.text.written ∙ key_text_is key)) in
    none key.id (record { id_from = h.text.id_from; id_to = h.id; written = written })

-- nor is one that begins with no kind
pub no_kind : (word : List ℕ) → ((kind : Kind) (digits : List ℕ) → word ≡ word_of kind ++ 58 ∷ digits → ⊥) → (key : QKey) → IsServed word key → ⊥
no_kind word none key h = none key.kind (decimal key.id) (h.text.written ∙ key_text_is key)

-- a kind and a member make a key
pub served : (word digits : List ℕ) (kind : Kind) (id : ℕ) → word ≡ word_of kind ++ 58 ∷ digits → IsMember digits id
    → IsServed word (record { kind = kind; id = id })
served word digits kind id e h =
    let to = h.id_to in
    record {
      text = record {
        id_from = h.id_from;
        id_below = omega arith;
        written = e ∙ (ap (λ (ds : List ℕ). word_of kind ++ 58 ∷ ds) h.written ∙ sym (key_text_is (record { kind = kind; id = id })));
      };
      id = to;
    }

-- digits may stand in a key
pub digit_bytes : (text : List ℕ) → list_all is_digit text ≡ true → list_all is_key_byte text ≡ true
digit_bytes [] all = refl
digit_bytes (d ∷ ds) all =
    let parts = and_parts (is_digit d) (list_all is_digit ds) all in
    let one : is_key_byte d ≡ true = grind (arith, nat_tests, parts.0) in
    rw (one, digit_bytes ds parts.1) refl

-- so may the words of kinds, which are short
kind_bytes : (kind : Kind) (digits : List ℕ) → list_all is_key_byte digits ≡ true → list_all is_key_byte (word_of kind ++ 58 ∷ digits) ≡ true
kind_bytes Profile digits all = all
kind_bytes Friends digits all = all
kind_bytes Pending digits all = all
kind_bytes NFriends digits all = all
kind_bytes NPending digits all = all
kind_bytes Blocked digits all = all

kind_length : (kind : Kind) → length (word_of kind) ≤ 8
kind_length Profile = omega arith
kind_length Friends = omega arith
kind_length Pending = omega arith
kind_length NFriends = omega arith
kind_length NPending = omega arith
kind_length Blocked = omega arith

-- a key that is served may be a key
pub served_form : (word : List ℕ) (key : QKey) → IsServed word key → is_key word ≡ true
served_form word key h =
    let to = h.id in
    let e : word ≡ word_of key.kind ++ 58 ∷ decimal key.id = h.text.written ∙ key_text_is key in
    let small : key.id < 2 ^ 64 = omega arith in
    let all : list_all is_key_byte word ≡ true = rw e (kind_bytes key.kind (decimal key.id) (digit_bytes (decimal key.id) (decimal_digits key.id small))) in
    let few : length (decimal key.id) ≤ 6 = length-decimal-le 6 key.id (omega arith) (omega arith) small in
    let long : length word ≡ length (word_of key.kind) + length (58 ∷ decimal key.id) =
    ap (λ (w : List ℕ). length w) e ∙ length-append (word_of key.kind) (58 ∷ decimal key.id) in
    let behind_colon : length (58 ∷ decimal key.id) ≡ length (decimal key.id) + 1 = omega arith in
    let short = kind_length key.kind in
    let low : nat_le 1 (length word) ≡ true = grind (arith, nat_tests) in
    let high : nat_le (length word) 250 ≡ true = grind (arith, nat_tests) in
    rw (low, high, all) refl
