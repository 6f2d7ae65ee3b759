-- Ids that ascend: what is put in, taken out and counted, told by which ids are there.
use Rattle.std.proofs.Common.{ℕ, suc, ◌+◌, ◌<◌, ◌≤◌, ◌≡◌, ◌^◌, ◌-◌, Bool, true, false, not, List, [], ◌∷◌, length, get_or, All, AllPairs}
use Rattle.std.proofs.Common.{Some, None, refl, sym, ap, subst, ◌∙◌, arith}
use Rattle.std.specs.Prelude.{◌==◌, ◌&&◌, ◌||◌, nat_lt, cond, count_by, if◌then◌else◌}
use Rattle.std.proofs.lemmas.Bool.{false≢true, eq-eqb}
use Rattle.std.proofs.lemmas.Bool.Decides.{nat_tests}
use Rattle.std.proofs.lemmas.List.Edits.{length-insert}
use Rattle.std.proofs.lemmas.List.Sums.{count_by-le-length}
use Rattle.std.proofs.lemmas.List.Elements.{All-head, All-tail}
use Rattle.std.proofs.lemmas.List.Kept.{AllPairs-filter}
use Rattle.std.proofs.lemmas.Option.{same_Some, none-some}
use Rattle.std.proofs.lemmas.Map.Views.{any-filter_same}
use Rattle.rows_model.specs.declared.refreshing.IdStep.{IdStep}
use Rattle.rows_model.specs.declared.refreshing.IdStep.TheVariants.{Stay, Put, Take}
use Rattle.rows_model.specs.Refresh.{has_id, with_id, without_id, listed, counted}
use Rattle.rows_model.proofs.FitLemmas.{pairs_head, pairs_tail, pairs_insert, none_passes, any-insert}

-- the ids ascend
abbrev pub Ascend : List ℕ → Type 0
Ascend ids = AllPairs (λ x y. x < y) ids

-- an id that isn't above those before is none of those behind
none_above : (x : ℕ) (ids : List ℕ) → All (λ y. x < y) ids → has_id x ids ≡ false
none_above x [] all = refl
none_above x (y ∷ ids) all =
    let here : x < y = All-head (λ z. x < z) y ids all in
    let t : (y == x) ≡ false = grind (arith, nat_tests) in
    rw (t, none_above x ids (All-tail (λ z. x < z) y ids all)) refl

found_go : (x y : ℕ) (ids : List ℕ) (b : Bool) → (y == x) ≡ b → All (λ z. y < z) ids → (b || has_id x ids) ≡ true → (has_id x ids ≡ true → y < x) → y ≤ x
found_go x y ids true e all h rest = grind (arith, nat_tests)
found_go x y ids false e all h rest = let low = rest h in omega (arith, low)

above_go : (x y z : ℕ) (ids : List ℕ) (b : Bool) → (z == x) ≡ b → y < z → (b || has_id x ids) ≡ true → (has_id x ids ≡ true → y < x) → y < x
above_go x y z ids true e low h rest = grind (arith, nat_tests)
above_go x y z ids false e low h rest = rest h

above : (x y : ℕ) (ids : List ℕ) → All (λ z. y < z) ids → has_id x ids ≡ true → y < x
above x y [] all e = absurd (false≢true e)
above x y (z ∷ ids) all e = above_go x y z ids (z == x) refl (All-head (λ w. y < w) z ids all) e (above x y ids (All-tail (λ w. y < w) z ids all))

first_least : (x y : ℕ) (ids : List ℕ) → Ascend (y ∷ ids) → has_id x (y ∷ ids) ≡ true → y ≤ x
first_least x y ids up e =
    let all = pairs_head (λ z w. z < w) y ids up in found_go x y ids (y == x) refl all e (above x y ids all)

has_first : (x : ℕ) (xs : List ℕ) → has_id x (x ∷ xs) ≡ true
has_first x xs =
    let t : (x == x) ≡ true = eq-eqb x x refl in rw t refl

tail_go : (z x : ℕ) (xs ys : List ℕ) (b : Bool) → (x == z) ≡ b
    → (b || has_id z xs) ≡ (b || has_id z ys) → All (λ w. x < w) xs → All (λ w. x < w) ys → has_id z xs ≡ has_id z ys
tail_go z x xs ys true e h one two =
    let same : x ≡ z = grind (arith, nat_tests) in
    let P : ℕ → Type 0 = λ n. has_id n xs ≡ has_id n ys in
    subst P same (none_above x xs one ∙ sym (none_above x ys two))
tail_go z x xs ys false e h one two = h

-- ids that ascend are told by which are there
pub same_ids : (xs ys : List ℕ) → Ascend xs → Ascend ys → ((x : ℕ) → has_id x xs ≡ has_id x ys) → xs ≡ ys
same_ids [] [] one two h = refl
same_ids [] (y ∷ ys) one two h =
    let here : has_id y (y ∷ ys) ≡ true = has_first y ys in absurd (false≢true (h y ∙ here))
same_ids (x ∷ xs) [] one two h =
    let here : has_id x (x ∷ xs) ≡ true = has_first x xs in absurd (false≢true (sym (h x) ∙ here))
same_ids (x ∷ xs) (y ∷ ys) one two h =
    let low = first_least x y ys two (sym (h x) ∙ has_first x xs) in
    let high = first_least y x xs one (h y ∙ has_first y ys) in
    let same : x ≡ y = omega (arith, low, high) in
    let P : ℕ → Type 0 = λ n. All (λ w. n < w) ys in
    let later : All (λ w. x < w) ys = subst P (sym same) (pairs_head (λ z w. z < w) y ys two) in
    let Q : ℕ → Type 0 = λ n. (z : ℕ) → ((x == z) || has_id z xs) ≡ ((n == z) || has_id z ys) in
    let k : (z : ℕ) → ((x == z) || has_id z xs) ≡ ((x == z) || has_id z ys) = subst Q (sym same) h in
    let rest = same_ids xs ys (pairs_tail (λ z w. z < w) x xs one) (pairs_tail (λ z w. z < w) y ys two)
    (λ z. tail_go z x xs ys (x == z) refl (k z) (pairs_head (λ z w. z < w) x xs one) later) in
    ap (λ (n : ℕ). n ∷ xs) same ∙ ap (λ (ids : List ℕ). y ∷ ids) rest

-- the ids with one more
goes_before : (id x : ℕ) → nat_lt x id ≡ true → x < id
goes_before id x e = grind (arith, nat_tests)

comes_after : (id x : ℕ) → (x == id) ≡ false → nat_lt x id ≡ false → id < x
comes_after id x e f = grind (arith, nat_tests)

stops : (id x y : ℕ) → x < y → nat_lt x id ≡ false → nat_lt y id ≡ false
stops id x y l e = grind (arith, nat_tests)

with_ascends : (id : ℕ) (ids : List ℕ) → Ascend ids → has_id id ids ≡ false → Ascend (with_id id ids)
with_ascends id ids up none =
    let others = none_passes (λ other. other == id) ids none in
    pairs_insert (λ x y. x < y) (λ other. nat_lt other id) id ids up
    (stops id) (λ k d l e. goes_before id (get_or ids k d) e) (λ k d l e. comes_after id (get_or ids k d) (others k d l) e)

-- the list with one id more
pub listed_put : (id : ℕ) (xs ys : List ℕ) → Ascend xs → Ascend ys
    → has_id id xs ≡ false → ((x : ℕ) → has_id x ys ≡ (has_id x xs || (id == x))) → listed (Put id) xs ≡ Some ys
listed_put id xs ys one two none h =
    let same : with_id id xs ≡ ys =
    same_ids (with_id id xs) ys (with_ascends id xs one none) two
    (λ x. any-insert (λ other. other == x) xs (count_by (λ other. nat_lt other id) xs) id ∙ sym (h x)) in
    ap (λ b. if b then None else Some (with_id id xs)) none ∙ ap (λ (ids : List ℕ). Some ids) same

kept_go : (id x : ℕ) (b : Bool) → (x == id) ≡ b → (y : ℕ) → (y == x) ≡ true → not (y == id) ≡ not b
kept_go id x b e y same =
    let at : y ≡ x = grind (arith, nat_tests) in ap (λ (n : ℕ). not (n == id)) at ∙ ap not e

-- the list with one id less
pub listed_take : (id : ℕ) (xs ys : List ℕ) → Ascend xs → Ascend ys
    → has_id id xs ≡ true → ((x : ℕ) → has_id x ys ≡ (not (x == id) && has_id x xs)) → listed (Take id) xs ≡ Some ys
listed_take id xs ys one two some h =
    let same : without_id id xs ≡ ys =
    same_ids (without_id id xs) ys (AllPairs-filter (λ x y. x < y) (λ other. not (other == id)) xs one) two
    (λ x. any-filter_same (λ other. other == x) (λ other. not (other == id)) (not (x == id)) (kept_go id x (x == id) refl) xs ∙ sym (h x)) in
    ap (λ b. if b then Some (without_id id xs) else None) some ∙ ap (λ (ids : List ℕ). Some ids) same

-- how many are left
all_left : (id : ℕ) (ids : List ℕ) → All (λ y. id < y) ids → length (without_id id ids) ≡ length ids
all_left id [] all = refl
all_left id (y ∷ ids) all =
    let here : id < y = All-head (λ z. id < z) y ids all in
    let t : not (y == id) ≡ true = grind (arith, nat_tests) in
    let rest = all_left id ids (All-tail (λ z. id < z) y ids all) in
    rw t (omega (arith, rest))

one_left_go : (id x : ℕ) (ids : List ℕ) (b : Bool) → (x == id) ≡ b → Ascend (x ∷ ids) → (b || has_id id ids) ≡ true
    → (has_id id ids ≡ true → length (without_id id ids) + 1 ≡ length ids)
    → length (cond (not b) (x ∷ without_id id ids) (without_id id ids)) + 1 ≡ suc (length ids)
one_left_go id x ids true e up h rest =
    let same : x ≡ id = grind (arith, nat_tests) in
    let P : ℕ → Type 0 = λ n. All (λ y. n < y) ids in
    let left = all_left id ids (subst P same (pairs_head (λ z w. z < w) x ids up)) in omega (arith, left)
one_left_go id x ids false e up h rest = let left = rest h in omega (arith, left)

one_left : (id : ℕ) (ids : List ℕ) → Ascend ids → has_id id ids ≡ true → length (without_id id ids) + 1 ≡ length ids
one_left id [] up e = absurd (false≢true e)
one_left id (x ∷ ids) up e =
    one_left_go id x ids (x == id) refl up e (one_left id ids (pairs_tail (λ z w. z < w) x ids up))

put_go : (id : ℕ) (xs ys : List ℕ) (b : Bool) → length ys < 2 ^ 32
    → (if b then None else Some (with_id id xs)) ≡ Some ys → counted (Put id) (length xs) ≡ Some (length ys)
put_go id xs ys true small e = absurd (none-some ys e)
put_go id xs ys false small e =
    let n : length (with_id id xs) ≡ length xs + 1 =
    length-insert xs (count_by (λ other. nat_lt other id) xs) id (count_by-le-length (λ other. nat_lt other id) xs) in
    let m : length (with_id id xs) ≡ length ys = ap length (same_Some (with_id id xs) ys e) in
    let k : length xs + 1 ≡ length ys = omega (arith, n, m) in
    let t : nat_lt (length xs + 1) (2 ^ 32) ≡ true = grind (arith, nat_tests) in
    rw (t, k) refl

take_go : (id : ℕ) (xs ys : List ℕ) (b : Bool) → has_id id xs ≡ b
    → Ascend xs → (if b then Some (without_id id xs) else None) ≡ Some ys → counted (Take id) (length xs) ≡ Some (length ys)
take_go id xs ys true has up e =
    let n : length (without_id id xs) + 1 ≡ length xs = one_left id xs up has in
    let m : length (without_id id xs) ≡ length ys = ap length (same_Some (without_id id xs) ys e) in
    let k : length xs - 1 ≡ length ys = omega (arith, n, m) in
    let some : 0 < length xs = omega (arith, n) in
    let t : nat_lt 0 (length xs) ≡ true = grind (arith, nat_tests) in
    rw (t, k) refl
take_go id xs ys false has up e = absurd (none-some ys e)

-- a step in a list is one in its count
pub counted_listed : (step : IdStep) (xs ys : List ℕ) → Ascend xs → length ys < 2 ^ 32 → listed step xs ≡ Some ys → counted step (length xs) ≡ Some (length ys)
counted_listed Stay xs ys up small e = ap (λ (ids : List ℕ). Some (length ids)) (same_Some xs ys e)
counted_listed (Put id) xs ys up small e = put_go id xs ys (has_id id xs) small e
counted_listed (Take id) xs ys up small e = take_go id xs ys (has_id id xs) refl up e
