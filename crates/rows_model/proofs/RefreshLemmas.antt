-- How an old value is read: the words of a profile, and the ids of a list one by one.
use Rattle.std.proofs.Common.{ℕ, ◌+◌, ◌<◌, ◌≤◌, ◌≡◌, true, false, List, [], ◌∷◌, ◌++◌, length, get_or, drop, map, All, Option, Some, None}
use Rattle.std.proofs.Common.{Bor, refl, sym, ap, arith, append_assoc}
use Rattle.std.specs.Prelude.{◌&&◌, nat_le, nat_lt, if◌then◌else◌, option_map}
use Rattle.std.specs.Option.{option_and_then}
use Rattle.std.specs.List.{list_all}
use Rattle.std.proofs.lemmas.Bool.{and_from, le-leb}
use Rattle.std.proofs.lemmas.Bool.Decides.{nat_tests}
use Rattle.std.proofs.lemmas.List.{at_drop_more}
use Rattle.std.proofs.lemmas.List.Elements.{All-head, All-tail}
use Rattle.rows_model.specs.Name.{IsName, IsNameByte}
use Rattle.rows_model.specs.Refresh.{small_number, ids_from, words_of, ids_in, is_name, person, person_of}

-- what three words tell
pub person_three : (words : List (Bor (List ℕ))) (d : Bor (List ℕ)) → 3 ≤ length words → length words < 4
    → person_of (map (λ word. word.now) words)
    ≡ (if is_name (get_or words 0 d).now then person (get_or words 0 d).now (small_number (get_or words 1 d).now)
    (small_number (get_or words 2 d).now) else None)
person_three [] d l m = absurd (omega arith)
person_three (a ∷ []) d l m = absurd (omega arith)
person_three (a ∷ b ∷ []) d l m = absurd (omega arith)
person_three (a ∷ b ∷ e ∷ []) d l m = refl
person_three (a ∷ b ∷ e ∷ f ∷ words) d l m = absurd (omega arith)

-- a name passes the test
all_name_bytes : (text : List ℕ) → All IsNameByte text → list_all (λ byte. nat_le 0x21 byte && nat_le byte 0x7e) text ≡ true
all_name_bytes [] all = refl
all_name_bytes (byte ∷ text) all =
    let here = All-head IsNameByte byte text all in
    and_from _ _ (and_from _ _ (le-leb 0x21 byte here.0) (le-leb byte 0x7e here.1)) (all_name_bytes text (All-tail IsNameByte byte text all))

pub is_name-true : (text : List ℕ) → IsName text → is_name text ≡ true
is_name-true text h =
    and_from _ _ (and_from _ _ (all_name_bytes text h.printable) (le-leb 1 (length text) h.some)) (le-leb (length text) 40 h.short)

-- the person of three words, of which the first is a name
pub person_told : (words : List (Bor (List ℕ))) (d : Bor (List ℕ)) (friends pending : ℕ) → 3 ≤ length words → length words < 4
    → IsName (get_or words 0 d).now → Some friends ≡ small_number (get_or words 1 d).now → Some pending ≡ small_number (get_or words 2 d).now
    → Some (record { name = (get_or words 0 d).now; friends = friends; pending = pending }) ≡ person_of (map (λ word. word.now) words)
person_told words d friends pending l m name two three =
    let r = person_three words d l m in rw (r, is_name-true (get_or words 0 d).now name, sym two, sym three) refl

-- the ids that are left, at the next word
at_word : (words : List (Bor (List ℕ))) (i : ℕ) (d : Bor (List ℕ)) (least : ℕ) (ids : List ℕ) → i < length words
    → option_map (λ more. ids ++ more) (ids_from least (map (λ word. word.now) (drop i words)))
    ≡ option_map (λ more. ids ++ more)
    (option_and_then (λ id. if nat_lt id least then None else option_map (λ rest. id ∷ rest)
    (ids_from (id + 1) (map (λ word. word.now) (drop (i + 1) words)))) (small_number (get_or words i d).now))
at_word words i d least ids l =
    at_drop_more (λ rest. option_map (λ more. ids ++ more) (ids_from least (map (λ word. word.now) rest))) words i d l

-- a word that is no number
pub ids_no_number : (words : List (Bor (List ℕ))) (i : ℕ) (d : Bor (List ℕ)) (least : ℕ) (ids : List ℕ) → i < length words
    → None ≡ small_number (get_or words i d).now → option_map (λ more. ids ++ more) (ids_from least (map (λ word. word.now) (drop i words))) ≡ None
ids_no_number words i d least ids l none = let r = at_word words i d least ids l in rw (r, sym none) refl

-- a number that is too low
pub ids_too_low : (words : List (Bor (List ℕ))) (i : ℕ) (d : Bor (List ℕ)) (least id : ℕ) (ids : List ℕ) → i < length words
    → Some id ≡ small_number (get_or words i d).now → id < least
    → option_map (λ more. ids ++ more) (ids_from least (map (λ word. word.now) (drop i words))) ≡ None
ids_too_low words i d least id ids l is low =
    let r = at_word words i d least ids l in
    let t : nat_lt id least ≡ true = grind (arith, nat_tests) in
    rw (r, sym is, t) refl

two_maps : (ids : List ℕ) (id : ℕ) (o : Option (List ℕ))
    → option_map (λ more. ids ++ more) (option_map (λ rest. id ∷ rest) o) ≡ option_map (λ more. (ids ++ id ∷ []) ++ more) o
two_maps ids id None = refl
two_maps ids id (Some more) = ap (λ (xs : List ℕ). Some xs) (sym (append_assoc ids (id ∷ []) more))

-- one more id
pub ids_more : (words : List (Bor (List ℕ))) (i : ℕ) (d : Bor (List ℕ)) (least id : ℕ) (ids : List ℕ) → i < length words
    → Some id ≡ small_number (get_or words i d).now → least ≤ id
    → option_map (λ more. ids ++ more) (ids_from least (map (λ word. word.now) (drop i words)))
    ≡ option_map (λ more. (ids ++ id ∷ []) ++ more) (ids_from (id + 1) (map (λ word. word.now) (drop (i + 1) words)))
ids_more words i d least id ids l is high =
    let r = at_word words i d least ids l in
    let t : nat_lt id least ≡ false = grind (arith, nat_tests) in
    rw (r, sym is, t) (two_maps ids id (ids_from (id + 1) (map (λ word. word.now) (drop (i + 1) words))))

-- the ids of an empty text, and of another
pub ids_in_none : (text : List ℕ) → length text ≡ 0 → Some [] ≡ ids_in text
unfolding ids_in
ids_in_none [] e = refl
ids_in_none (byte ∷ bytes) e = absurd (omega arith)

pub ids_in_some : (text : List ℕ) → 1 ≤ length text → ids_in text ≡ ids_from 0 (words_of 44 text)
unfolding ids_in
ids_in_some [] l = absurd (omega arith)
ids_in_some (byte ∷ bytes) l = refl
