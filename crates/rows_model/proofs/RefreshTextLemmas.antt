-- What is written of a number, of ids and of a person is read as these.
use Rattle.std.proofs.Common.{ℕ, ◌+◌, ◌<◌, ◌≤◌, ◌≡◌, ◌^◌, Bool, true, false, List, [], ◌∷◌, ◌++◌, length, get_or, map, decimal, All}
use Rattle.std.proofs.Common.{AllPairs, Some, refl, sym, ap, ◌∙◌, arith, append_assoc}
use Rattle.std.specs.Prelude.{◌==◌, nat_lt}
use Rattle.std.proofs.lemmas.Bool.Decides.{nat_tests}
use Rattle.std.proofs.lemmas.List.Elements.{All-head, All-tail}
use Rattle.std.proofs.lemmas.List.Sums.{AllPass-from_list_all}
use Rattle.std.proofs.lemmas.List.Splits.{slice_split_none, slice_split_at}
use Rattle.rows_model.specs.Shift.{is_digit}
use Rattle.rows_model.specs.Name.{IsName, IsNameByte}
use Rattle.rows_model.specs.Query.{id_list}
use Rattle.rows_model.specs.declared.refreshing.Person.{Person}
use Rattle.rows_model.specs.Refresh.{small_number, ids_from, words_of, ids_in, person_of, person_in, person_text, is_dash}
use Rattle.rows_model.proofs.ListTextLemmas.{join_some}
use Rattle.rows_model.proofs.ShiftLemmas.{number_in-decimal, decimal_digits}
use Rattle.rows_model.proofs.FitLemmas.{pairs_head, pairs_tail}
use Rattle.rows_model.proofs.RefreshLemmas.{is_name-true, ids_in_none, ids_in_some}

-- a number below 2^32 is read from its decimal
pub small_number-decimal : (n : ℕ) → n < 2 ^ 32 → small_number (decimal n) ≡ Some n
unfolding small_number
small_number-decimal n small =
    let wide : n < 2 ^ 64 = omega arith in
    let below : nat_lt n (2 ^ 32) ≡ true = grind (arith, nat_tests) in
    rw (number_in-decimal n wide, below) refl

other_byte : (x byte : ℕ) → is_digit x ≡ true → is_digit byte ≡ false → (x == byte) ≡ false
other_byte x byte e none = grind (arith, nat_tests)

-- a byte that is no digit isn't in a decimal
decimal_without : (byte n : ℕ) → n < 2 ^ 64 → is_digit byte ≡ false → All (λ other. (other == byte) ≡ false) (decimal n)
decimal_without byte n wide none =
    let all = AllPass-from_list_all is_digit (decimal n) (decimal_digits n wide) in
    λ k d l. other_byte (get_or (decimal n) k d) byte (all k d l) none

-- each id is above the one before it, and none is below this
abbrev pub Rises : ℕ → List ℕ → Type 0
Rises least [] = Unit {0}
Rises least (id ∷ ids) = (least ≤ id) × (id < 2 ^ 32) × Rises (id + 1) ids

pub Rises-from_pairs : (least : ℕ) (ids : List ℕ) → AllPairs (λ x y. x < y) ids → All (λ x. x < 2 ^ 32) ids → All (λ x. least ≤ x) ids → Rises least ids
Rises-from_pairs least [] pairs small low = tt
Rises-from_pairs least (id ∷ ids) pairs small low =
    let later = pairs_head (λ x y. x < y) id ids pairs in
    let above : All (λ x. id + 1 ≤ x) ids = λ k d l. let h = later k d l in omega (arith, h) in (
      All-head (λ x. least ≤ x) id ids low,
      All-head (λ x. x < 2 ^ 32) id ids small,
      Rises-from_pairs (id + 1) ids
          (pairs_tail (λ x y. x < y) id ids pairs) (All-tail (λ x. x < 2 ^ 32) id ids small) above,
    )

ids_from-words : (least : ℕ) (ids : List ℕ) → Rises least ids → ids_from least (map decimal ids) ≡ Some ids
ids_from-words least [] h = refl
ids_from-words least (id ∷ ids) h =
    let low : least ≤ id = h.0 in
    let t : nat_lt id least ≡ false = grind (arith, nat_tests) in
    rw (small_number-decimal id h.1, t, ids_from-words (id + 1) ids h.2) refl

words_back : (least id : ℕ) (ids : List ℕ) → Rises least (id ∷ ids) → words_of 44 (id_list (id ∷ ids)) ≡ map decimal (id ∷ ids)
words_back least id [] h =
    let small : id < 2 ^ 32 = h.1 in slice_split_none (λ other. other == 44) (decimal id) (decimal_without 44 id (omega arith) refl)
words_back least id (next ∷ ids) h =
    let small : id < 2 ^ 32 = h.1 in
    slice_split_at (λ other. other == 44) (decimal id) 44 (id_list (next ∷ ids)) (decimal_without 44 id (omega arith) refl) refl
    ∙ ap (λ (words : List (List ℕ)). decimal id ∷ words) (words_back (id + 1) next ids h.2)

-- ids that ascend are read from their list
pub ids_in-id_list : (ids : List ℕ) → Rises 0 ids → ids_in (id_list ids) ≡ Some ids
ids_in-id_list [] h = sym (ids_in_none [] refl)
ids_in-id_list (id ∷ ids) h =
    ids_in_some (id_list (id ∷ ids)) (join_some 44 id ids) ∙ (ap (ids_from 0) (words_back 0 id ids h) ∙ ids_from-words 0 (id ∷ ids) h)

no_space : (byte : ℕ) → IsNameByte byte → (byte == 32) ≡ false
no_space byte h =
    let low : 0x21 ≤ byte = h.0 in grind (arith, nat_tests)

-- a profile, from its name on
text_parts : (one : Person) → person_text one ≡ one.name ++ 32 ∷ (decimal one.friends ++ 32 ∷ decimal one.pending)
text_parts one = append_assoc one.name (32 ∷ decimal one.friends) (32 ∷ decimal one.pending)

person_words : (one : Person) → IsName one.name → one.friends < 2 ^ 32
    → one.pending < 2 ^ 32 → words_of 32 (person_text one) ≡ one.name ∷ decimal one.friends ∷ decimal one.pending ∷ []
person_words one name friends pending =
    let p : ℕ → Bool = λ other. other == 32 in
    let spaces : All (λ byte. (byte == 32) ≡ false) one.name = λ k d l. no_space (get_or one.name k d) (name.printable k d l) in
    ap (words_of 32) (text_parts one)
    ∙ slice_split_at p one.name 32 (decimal one.friends ++ 32 ∷ decimal one.pending) spaces refl
    ∙ ap (λ (words : List (List ℕ)). one.name ∷ words)
    (slice_split_at p (decimal one.friends) 32 (decimal one.pending) (decimal_without 32 one.friends (omega arith) refl) refl
    ∙ ap (λ (words : List (List ℕ)). decimal one.friends ∷ words)
    (slice_split_none p (decimal one.pending) (decimal_without 32 one.pending (omega arith) refl)))

-- a person is read from its profile
pub person_in-person_text : (one : Person) → IsName one.name → one.friends < 2 ^ 32 → one.pending < 2 ^ 32 → person_in (person_text one) ≡ Some one
unfolding person_in
person_in-person_text one name friends pending =
    ap person_of (person_words one name friends pending)
    ∙ rw (is_name-true one.name name, small_number-decimal one.friends friends, small_number-decimal one.pending pending) refl

no_dash_go : (name rest : List ℕ) → 1 ≤ length name → is_dash (name ++ 32 ∷ rest) ≡ false
no_dash_go [] rest l = absurd (omega arith)
no_dash_go (a ∷ []) rest l = refl
no_dash_go (a ∷ b ∷ name) rest l = refl

-- no profile of a member is `-`
pub no_dash : (one : Person) → IsName one.name → is_dash (person_text one) ≡ false
no_dash one name = ap is_dash (text_parts one) ∙ no_dash_go one.name (decimal one.friends ++ 32 ∷ decimal one.pending) name.some
