-- A key and its text tell one another.
use Rattle.std.proofs.Common.{Option, IfSome, IfNone, ◌^◌, ◌*◌, ℕ, ◌+◌, ◌-◌, ◌<◌, ◌≡◌, List, ◌∷◌, ◌++◌, length, take, drop, get_or, decimal}
use Rattle.std.proofs.Common.{Some, None, position, arith, sym, refl, ap, ◌∙◌, rules, take-append-drop, take_at}
use Rattle.std.specs.List.{position_from}
use Rattle.std.proofs.lemmas.Iterator.Adapters.{position_from-zero}
use Rattle.std.proofs.lemmas.List.Quantifiers.{position-Some}
use Rattle.std.proofs.lemmas.Bool.Decides.{nat_tests}
use Rattle.std.proofs.lemmas.List.{drop_more, take_rest}
use Rattle.rows_model.specs.declared.keys.Kind.{Kind}
use Rattle.rows_model.specs.declared.keys.Kind.TheVariants.{Profile, Friends, Pending, NFriends, NPending, Blocked}
use Rattle.rows_model.specs.declared.keys.QKey.{QKey}
use Rattle.std.proofs.lemmas.Fmt.{decimal_injective}
use Rattle.rows_model.specs.Key.{kind_number, word_of, key_text, IsKeyText, IsNoKeyText, IsNoWord, is_colon}
use Rattle.rows_model.specs.Number.{IsIdText, IsNoIdText}

-- the text of a key, spelled out
pub key_text_is : (key : QKey) → key_text key ≡ word_of key.kind ++ 58 ∷ decimal key.id
unfolding key_text
key_text_is key = refl

-- the first colon of a key's text stands behind the word
colon_from : (kind : Kind) (rest : List ℕ) → position_from is_colon 0 (word_of kind ++ 58 ∷ rest) ≡ Some (length (word_of kind))
colon_from Profile rest = refl
colon_from Friends rest = refl
colon_from Pending rest = refl
colon_from NFriends rest = refl
colon_from NPending rest = refl
colon_from Blocked rest = refl

pub colon_at : (kind : Kind) (rest : List ℕ) → position is_colon (word_of kind ++ 58 ∷ rest) ≡ Some (length (word_of kind))
colon_at kind rest = position_from-zero is_colon (word_of kind ++ 58 ∷ rest) ∙ colon_from kind rest

-- what stands behind the colon
behind : (kind : Kind) (rest : List ℕ) → drop (length (word_of kind) + 1) (word_of kind ++ 58 ∷ rest) ≡ rest
behind Profile rest = refl
behind Friends rest = refl
behind Pending rest = refl
behind NFriends rest = refl
behind NPending rest = refl
behind Blocked rest = refl

-- the parts of a key's text
pub record IsSplit (text : List ℕ) (key : QKey) : Type 0 where
  pub colon : position is_colon text ≡ Some (length (word_of key.kind))
  pub word : take (length (word_of key.kind)) text ≡ word_of key.kind
  pub digits : drop (length (word_of key.kind) + 1) text ≡ decimal key.id

pub key_split : (text : List ℕ) (key : QKey) → IsKeyText text key → IsSplit text key
key_split text key h =
    let e : text ≡ word_of key.kind ++ 58 ∷ decimal key.id = h.written ∙ key_text_is key in
    record {
      colon = rw e (colon_at key.kind (decimal key.id));
      word = rw e (take_at (word_of key.kind) (58 ∷ decimal key.id) (length (word_of key.kind)) refl);
      digits = rw e (behind key.kind (decimal key.id));
    }

-- a text with no colon is that of no key
pub none_without_colon : (text : List ℕ) → position is_colon text ≡ None → IsNoKeyText text
none_without_colon text none key h =
    let s = key_split text key h in
    let clash : Some (length (word_of key.kind)) ≡ None = sym s.colon ∙ none in cc

-- where the colon of a key's text stands
colon_is : (text : List ℕ) (colon : ℕ) (key : QKey) → position is_colon text ≡ Some colon → IsKeyText text key → length (word_of key.kind) ≡ colon
colon_is text colon key at h =
    let s = key_split text key h in
    let same : Some (length (word_of key.kind)) ≡ Some colon = sym s.colon ∙ at in cc

-- nor is one whose front is no word
pub none_without_word : (text : List ℕ) (colon : ℕ) → position is_colon text ≡ Some colon → IsNoWord (take colon text) → IsNoKeyText text
none_without_word text colon at none key h =
    let s = key_split text key h in
    let e = colon_is text colon key at h in
    none key.kind (rw e at s.word)

-- nor is one whose back is no id
pub none_without_id : (text : List ℕ) (colon : ℕ) → position is_colon text ≡ Some colon
    → IsNoIdText (take (length text - (colon + 1)) (drop (colon + 1) text)) → IsNoKeyText text
none_without_id text colon at none key h =
    let s = key_split text key h in
    let e = colon_is text colon key at h in
    let written : drop (colon + 1) text ≡ decimal key.id = rw e at s.digits in
    none key.id (record { id_from = h.id_from; id_below = h.id_below; written = take_rest text (colon + 1) ∙ written })

-- a word, a colon and an id make the text of a key
pub key_joined : (text : List ℕ) (colon : ℕ) (kind : Kind) (id : ℕ) → position is_colon text ≡ Some colon
    → take colon text ≡ word_of kind → IsIdText (take (length text - (colon + 1)) (drop (colon + 1) text)) id → IsKeyText text (record { kind = kind; id = id })
key_joined text colon kind id at word h =
    let place = position-Some is_colon text colon 0 at in
    let byte : get_or text colon 0 ≡ 58 = search (rules, nat_tests) in
    let back : drop colon text ≡ 58 ∷ decimal id =
    drop_more text colon 0 place.0
    ∙ (ap (λ (b : ℕ). b ∷ drop (colon + 1) text) byte ∙ ap (λ (ds : List ℕ). 58 ∷ ds) (sym (take_rest text (colon + 1)) ∙ h.written)) in
    let whole : text ≡ word_of kind ++ 58 ∷ decimal id =
    sym (take-append-drop colon text) ∙ (ap (λ (front : List ℕ). front ++ drop colon text) word ∙ ap (λ (rest : List ℕ). word_of kind ++ rest) back) in
    record { id_from = h.id_from; id_below = h.id_below; written = whole ∙ sym (key_text_is (record { kind = kind; id = id })) }

-- the first two letters, as one number
abbrev letters : List ℕ → ℕ
letters word = 256 * get_or word 0 0 + get_or word 1 0

-- a kind is told by its word
pub word_injective : (a b : Kind) → word_of a ≡ word_of b → a ≡ b
word_injective Profile Profile e = refl
word_injective Friends Friends e = refl
word_injective Pending Pending e = refl
word_injective NFriends NFriends e = refl
word_injective NPending NPending e = refl
word_injective Blocked Blocked e = refl
word_injective a b e = let two : letters (word_of a) ≡ letters (word_of b) = ap letters e in absurd (omega arith)

-- a kind is told by its place in the order
pub kind_injective : (a b : Kind) → kind_number a ≡ kind_number b → a ≡ b
kind_injective Profile Profile e = refl
kind_injective Friends Friends e = refl
kind_injective Pending Pending e = refl
kind_injective NFriends NFriends e = refl
kind_injective NPending NPending e = refl
kind_injective Blocked Blocked e = refl
kind_injective a b e = absurd (omega arith)

-- a key is its kind and its id
key_from_parts : (a b : QKey) → a.kind ≡ b.kind → a.id ≡ b.id → a ≡ b
key_from_parts a b kind id = λ i. record { kind = kind i; id = id i }

-- a text tells its key
pub key_text_injective : (a b : QKey) → a.id < 2 ^ 64 → b.id < 2 ^ 64 → key_text a ≡ key_text b → a ≡ b
key_text_injective a b below_a below_b e =
    let t : word_of a.kind ++ 58 ∷ decimal a.id ≡ word_of b.kind ++ 58 ∷ decimal b.id = sym (key_text_is a) ∙ (e ∙ key_text_is b) in
    let at : Some (length (word_of a.kind)) ≡ Some (length (word_of b.kind)) =
    sym (colon_at a.kind (decimal a.id)) ∙ (ap (position is_colon) t ∙ colon_at b.kind (decimal b.id)) in
    let lengths : length (word_of a.kind) ≡ length (word_of b.kind) = cc in
    let words : word_of a.kind ≡ word_of b.kind =
    sym (take_at (word_of a.kind) (58 ∷ decimal a.id) (length (word_of b.kind)) lengths)
    ∙ (ap (λ (xs : List ℕ). take (length (word_of b.kind)) xs) t ∙ take_at (word_of b.kind) (58 ∷ decimal b.id) (length (word_of b.kind)) refl) in
    let backs : decimal a.id ≡ decimal b.id =
    sym (behind a.kind (decimal a.id))
    ∙ (ap (λ (xs : List ℕ). drop (length (word_of a.kind) + 1) xs) t
    ∙ (ap (λ (n : ℕ). drop (n + 1) (word_of b.kind ++ 58 ∷ decimal b.id)) lengths ∙ behind b.kind (decimal b.id))) in
    key_from_parts a b (word_injective a.kind b.kind words) (decimal_injective a.id b.id below_a below_b backs)

-- what `parse` answers to the text of a key
pub parse_gives : (text : List ℕ) (key : QKey) (r : Option QKey)
    → IfSome r (λ found. IsKeyText text found) → IfNone r (IsNoKeyText text) → IsKeyText text key → r ≡ Some key
parse_gives text key (Some other) found none h =
    ap (λ (k : QKey). Some k) (key_text_injective other key (omega (arith, found.id_below)) (omega (arith, h.id_below)) (sym found.written ∙ h.written))
parse_gives text key None found none h = absurd (none key h)

-- `parse` takes no text of a key with the id 0
pub zero_has_no_text : (zero : QKey) → zero.id ≡ 0 → IsNoKeyText (key_text zero)
zero_has_no_text zero none key h =
    let same : zero ≡ key = key_text_injective zero key (omega arith) (omega (arith, h.id_below)) h.written in
    let ids : zero.id ≡ key.id = ap (λ (k : QKey). k.id) same in
    omega (arith, h.id_from)
