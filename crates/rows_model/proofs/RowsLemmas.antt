-- The rows at the start, member by member, and where a member is found.
use Rattle.std.proofs.Common.{zero, suc, Bool, true, false, eqb, Some, None, find, rules, tests, ℕ, ◌+◌, ◌-◌}
use Rattle.std.proofs.Common.{◌<◌, ◌≤◌, ◌≡◌, List, [], ◌∷◌, ◌++◌, length, get_or, map, decimal, arith, sym, refl, ap, ◌∙◌}
use Rattle.std.specs.Prelude.{◌==◌}
use Rattle.std.specs.List.{range_with_len, list_any}
use Rattle.std.proofs.lemmas.Bool.{eqb-true}
use Rattle.std.proofs.lemmas.List.FromFn.{length-map-range_with_len, get_or-map-range_with_len, map-range_with_len_more}
use Rattle.rows_model.specs.declared.rows.Member.{Member}
use Rattle.rows_model.specs.Near.{IsAt}
use Rattle.rows_model.specs.Rows.{Tables, Fit, member_of, start_member, start_tables}
use Rattle.rows_model.proofs.FitLemmas.{none_passes}
use Rattle.rows_model.proofs.NameLemmas.{IsName-numbered}

-- the member at a place of the start
at_start : (n k : ℕ) (d : Member) → k < length (map start_member (range_with_len 1 n))
    → (k < n) × (get_or (map start_member (range_with_len 1 n)) k d ≡ start_member (1 + k))
at_start n k d l =
    let in_range : k < n = omega (arith, length-map-range_with_len start_member 1 n) in
    (in_range, get_or-map-range_with_len start_member 1 n k (1 + k) d in_range refl)

-- the rows of the start are fit
pub Fit-start : (n : ℕ) → n ≤ 100000 → Fit (record { members = map start_member (range_with_len 1 n); links = []; blocks = [] })
Fit-start n few =
    let members = map start_member (range_with_len 1 n) in
    record {
      ids = λ k d l. let p = at_start n k d l in rw p.1 (omega arith, omega (arith, p.0));
      names = λ k d l. let p = at_start n k d l in rw p.1 (IsName-numbered 109 (1 + k) (omega arith, omega arith) (omega (arith, p.0)));
      members_ascend = λ i j d low l.
          let p = at_start n i d (omega arith) in
          let q = at_start n j d l in
          rw (p.1, q.1) (omega arith);
      links_join = λ k d l. absurd (omega arith);
      links_ascend = λ i j d low l. absurd (omega arith);
      one_link = λ i j d low l. absurd (omega arith);
      few_links = omega arith;
      blocks_join = λ k d l. absurd (omega arith);
      blocks_ascend = λ i j d low l. absurd (omega arith);
      few_blocks = omega arith;
    }

-- the rows of the start, spelled out
pub start_tables_is : (n : ℕ) → start_tables n ≡ record { members = map start_member (range_with_len 1 n); links = []; blocks = [] }
unfolding start_tables
start_tables_is n = refl

-- one more member at the start
pub start_more : (items next : List Member) (name : List ℕ) (id : ℕ) → 1 ≤ id → items ≡ map start_member (range_with_len 1 (id - 1))
    → name ≡ 109 ∷ decimal id → next ≡ items ++ record { id = id; name = name } ∷ [] → next ≡ map start_member (range_with_len 1 (id + 1 - 1))
start_more items next name id low so_far named pushed =
    let last : id - 1 + 1 ≡ id + 1 - 1 = omega arith in
    let more : map start_member (range_with_len 1 (id - 1 + 1)) ≡ map start_member (range_with_len 1 (id - 1)) ++ start_member id ∷ [] =
    map-range_with_len_more start_member 1 (id - 1) id (omega arith) in
    let end : next ≡ map start_member (range_with_len 1 (id - 1)) ++ start_member id ∷ [] =
    pushed ∙ (ap (λ (xs : List Member). xs ++ record { id = id; name = name } ∷ []) so_far
    ∙ ap (λ (n : List ℕ). map start_member (range_with_len 1 (id - 1)) ++ record { id = id; name = n } ∷ []) named) in
    end ∙ (sym more ∙ ap (λ (k : ℕ). map start_member (range_with_len 1 k)) last)

-- `find` gives the first element that passes
pub find_at : {X : Type 0} (p : X → Bool) (xs : List X) (i : ℕ) (d : X)
    → i < length xs → p (get_or xs i d) ≡ true → ((k : ℕ) → k < i → p (get_or xs k d) ≡ false) → find p xs ≡ Some (get_or xs i d)
find_at p [] i d l here before = absurd (omega arith)
find_at p (x ∷ xs) zero d l here before = rw here
find_at p (x ∷ xs) (suc i) d l here before =
    let first : p x ≡ false = before 0 (omega arith) in
    rw first (find_at p xs i d (omega arith) here (λ k below. before (suc k) (omega arith)))

-- and nothing where none passes
pub find_none : {X : Type 0} (p : X → Bool) (xs : List X) → ((k : ℕ) (d : X) → k < length xs → p (get_or xs k d) ≡ false) → find p xs ≡ None
find_none p [] all = refl
find_none p (x ∷ xs) all =
    let first : p x ≡ false = all 0 x (omega arith) in
    rw first (find_none p xs (λ k d l. all (suc k) d (omega arith)))

-- a member's place tells the member of its id
pub member_at : (tables : Tables) (id i : ℕ) (d : Member) → Fit tables
    → i < length tables.members → (get_or tables.members i d).id ≡ id → member_of id tables ≡ Some (get_or tables.members i d)
member_at tables id i d fit l here =
    find_at (λ m. eqb m.id id) tables.members i d l (search (rules, tests)) (λ k below.
    let earlier = fit.members_ascend k i d below l in
    let other : (get_or tables.members k d).id ≡ id → ⊥ = λ e. omega arith in
    search (rules, tests))

-- the place of an id tells its member
pub member_placed : (tables : Tables) (id i : ℕ) (d : Member) → Fit tables → IsAt (λ (member : Member). member.id == id) tables.members i
    → member_of id tables ≡ Some (get_or tables.members i d)
member_placed tables id i d fit at = member_at tables id i d fit at.within (eqb-true _ id (at.passes d))

-- where no member has the id, there is none
pub member_missing : (tables : Tables) (id : ℕ) → list_any (λ (member : Member). member.id == id) tables.members ≡ false → member_of id tables ≡ None
member_missing tables id none =
    let others = none_passes (λ (member : Member). member.id == id) tables.members none in
    find_none (λ m. eqb m.id id) tables.members others
