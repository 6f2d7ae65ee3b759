-- Texts of lists of ids, written one id behind the other.
use Rattle.std.proofs.Common.{ℕ, zero, suc, ◌+◌, ◌≡◌, ◌<◌, ◌≤◌, ◌/◌, ◌%◌, Bool, true, false, List, [], ◌∷◌, ◌++◌, length, map, take, get_or}
use Rattle.std.proofs.Common.{decimal, refl, sym, ap, ◌∙◌, arith, append_assoc, length-append}
use Rattle.std.specs.Prelude.{◌==◌, if◌then◌else◌}
use Rattle.std.specs.Fmt.{digits, digits_onto, digit_glyph}
use Rattle.std.specs.List.{join_with_byte}
use Rattle.std.proofs.lemmas.List.{take_more}
use Rattle.rows_model.specs.Query.{id_list}

-- digits are written in front of what stands
digits_grow : (k base : ℕ) (upper : Bool) (n : ℕ) (acc : List ℕ) → length acc ≤ length (digits_onto k base upper n acc)
digits_grow zero base upper n acc = omega arith
digits_grow (suc k) base upper n acc =
    let more : length (digit_glyph upper (n % base) ∷ acc) ≤ length (digits_onto k base upper (n / base) (digit_glyph upper (n % base) ∷ acc)) =
    digits_grow k base upper (n / base) (digit_glyph upper (n % base) ∷ acc) in
    elim (n / base == 0) as (λ b. length acc ≤ length (if b then digit_glyph upper (n % base)
    ∷ acc else digits_onto k base upper (n / base) (digit_glyph upper (n % base) ∷ acc))) [ true ↦ omega arith | false ↦ omega arith ]

-- one of them at least
digits_some : (k base : ℕ) (upper : Bool) (n : ℕ) → 1 ≤ length (digits_onto (suc k) base upper n [])
digits_some k base upper n =
    let more : length (digit_glyph upper (n % base) ∷ []) ≤ length (digits_onto k base upper (n / base) (digit_glyph upper (n % base) ∷ [])) =
    digits_grow k base upper (n / base) (digit_glyph upper (n % base) ∷ []) in
    elim (n / base == 0) as (λ b. 1 ≤ length (if b then digit_glyph upper (n % base)
    ∷ [] else digits_onto k base upper (n / base) (digit_glyph upper (n % base) ∷ []))) [ true ↦ omega arith | false ↦ omega arith ]

-- no decimal is empty
decimal_some : (n : ℕ) → 1 ≤ length (decimal n)
unfolding digits
decimal_some n = digits_some 63 10 false n

-- one more text behind others
join_more : (byte x : ℕ) (ids : List ℕ) (id : ℕ)
    → join_with_byte byte (map decimal (x ∷ (ids ++ id ∷ []))) ≡ join_with_byte byte (map decimal (x ∷ ids)) ++ byte ∷ decimal id
join_more byte x [] id = refl
join_more byte x (y ∷ ids) id =
    ap (λ (rest : List ℕ). decimal x ++ byte ∷ rest) (join_more byte y ids id)
    ∙ sym (append_assoc (decimal x) (byte ∷ join_with_byte byte (map decimal (y ∷ ids))) (byte ∷ decimal id))

-- a list with an id has a text
pub join_some : (byte x : ℕ) (ids : List ℕ) → 1 ≤ length (join_with_byte byte (map decimal (x ∷ ids)))
join_some byte x [] = decimal_some x
join_some byte x (y ∷ ids) =
    omega (arith, length-append (decimal x) (byte ∷ join_with_byte byte (map decimal (y ∷ ids))))

more_first : (front : List ℕ) (id : ℕ) → length (id_list front) ≡ 0 → id_list (front ++ id ∷ []) ≡ decimal id
more_first [] id e = refl
more_first (x ∷ front) id e = let some = join_some 44 x front in absurd (omega arith)

more_next : (front : List ℕ) (id : ℕ) → 1 ≤ length (id_list front) → id_list (front ++ id ∷ []) ≡ id_list front ++ 44 ∷ decimal id
more_next [] id l = absurd (omega arith)
more_next (x ∷ front) id l = join_more 44 x front id

empty_is : (text : List ℕ) → length text ≡ 0 → text ≡ []
empty_is [] e = refl
empty_is (c ∷ cs) e = absurd (omega arith)

-- the first id, behind an empty text
pub listed_first : (ids : List ℕ) (i : ℕ) (text : List ℕ) → i < length ids
    → text ≡ id_list (take i ids) → length text ≡ 0 → text ++ decimal (get_or ids i 0) ≡ id_list (take (i + 1) ids)
listed_first ids i text l e none =
    let all = ap id_list (take_more ids i 0 l) ∙ more_first (take i ids) (get_or ids i 0) (sym (ap length e) ∙ none) in
    ap (λ (t : List ℕ). t ++ decimal (get_or ids i 0)) (empty_is text none) ∙ sym all

-- one more, behind a comma
pub listed_next : (ids : List ℕ) (i : ℕ) (text : List ℕ) → i < length ids
    → text ≡ id_list (take i ids) → 1 ≤ length text → (text ++ 44 ∷ []) ++ decimal (get_or ids i 0) ≡ id_list (take (i + 1) ids)
listed_next ids i text l e some =
    let l_some : 1 ≤ length (id_list (take i ids)) = omega (arith, ap length e) in
    let all = ap id_list (take_more ids i 0 l) ∙ more_next (take i ids) (get_or ids i 0) l_some in
    append_assoc text (44 ∷ []) (decimal (get_or ids i 0)) ∙ (ap (λ (t : List ℕ). t ++ 44 ∷ decimal (get_or ids i 0)) e ∙ sym all)
