-- What the queries on the links show of the lists.
use Rattle.std.proofs.Common.{◌≡◌, inl, inr, ℕ, suc, ◌==◌, ◌&&◌, ◌<◌, pos, Bool, true, false, cond, List, [], ◌∷◌}
use Rattle.std.proofs.Common.{◌++◌, map, filter, flat_map, get_or, refl, sym, ap, ◌∙◌, subst, arith, Less, is_lt, is_eq, Some, IsPermutation}
use Rattle.std.specs.List.{AllPairs}
use Rattle.std.specs.Ordering.{int_cmp}
use Rattle.std.proofs.lemmas.Bool.{cases_lt}
use Rattle.std.proofs.lemmas.Bool.Decides.{nat_tests}
use Rattle.std.proofs.lemmas.Int.{ints}
use Rattle.std.proofs.lemmas.Cmp.{tied_itself}
use Rattle.std.proofs.lemmas.List.Kept.{AllPairs-filter}
use Rattle.std.proofs.lemmas.List.MinMax.{ranks_by}
use Rattle.std.proofs.lemmas.List.Sorted.{sorted_far, IsPermutation-map, IsPermutation-trans}
use Rattle.sqlite.specs.declared.types.Value.{Value}
use Rattle.sqlite.specs.declared.types.Value.TheVariants.{Int}
use Rattle.sqlite.specs.Collation.TheVariants.{Binary}
use Rattle.sqlite.specs.Term.{Term}
use Rattle.sqlite_value.specs.Order.{Row, column, value_cmp}
use Rattle.sqlite_value.proofs.OrderLemmas.{value_cmp-Int, value_cmp_total}
use Rattle.sqlite_trees.specs.Tree.{Trees}
use Rattle.sqlite_trees.proofs.ListLemmas.{map-map, filter-map, IsPermutation-filter}
use Rattle.sqlite_sql.specs.declared.ops.BinaryOp.TheVariants.{Compare}
use Rattle.sqlite_sql.specs.declared.ops.CompareOp.TheVariants.{Eq}
use Rattle.sqlite_sql.specs.Ops.{binary, is_true, from_truth}
use Rattle.sqlite_sql.specs.Query.{Query, IsAnswerAs, Output, output, output_cmp, page}
use Rattle.sqlite_sql.proofs.QueryLemmas.{output_cmp_total}
use Rattle.sqlite_tables.specs.declared.pairs.Pair.{Pair}
use Rattle.sqlite_tables.specs.Lists.{pair_values, shown_pair, IsPairBefore, is_pair}
use Rattle.sqlite_tables.proofs.ListLemmas.{same_order, ascending_from, ascending_map}
use Rattle.sqlite_tables.proofs.Meanings.{links_with, links_where, link_query, equals}

-- what is shown of the rows that pass a test
pub chosen : {A B C : Type 0} (p : A → Bool) (f : A → B) (g : B → C) (xs : List A) → map g (flat_map (λ x. cond (p x) (f x ∷ []) []) xs) ≡ map (λ x. g (f x)) (filter p xs)
chosen p f g [] = refl
chosen p f g (x ∷ xs) =
    elim (p x) as (λ b. map g (cond b (f x ∷ []) [] ++ flat_map (λ y. cond (p y) (f y ∷ []) []) xs) ≡ map (λ y. g (f y)) (cond b (x ∷ filter p xs) (filter p xs)))
    [ true ↦ ap (λ l. g (f x) ∷ l) (chosen p f g xs) | false ↦ chosen p f g xs ]

truth_back : (b : Bool) → is_true (from_truth (Some b)) ≡ b
truth_back true = refl
truth_back false = refl

tied_is : (n id : ℕ) → is_eq (int_cmp (pos n) (pos id)) ≡ (n == id)
tied_is n id = grind (arith, ints, nat_tests)

-- whether two numbers are one
pub same_number : (n id : ℕ) → is_true (binary (Compare Eq Binary) (Int (pos n)) (Int (pos id))) ≡ (n == id)
unfolding binary
same_number n id = truth_back (is_eq (value_cmp (Int (pos n)) (Int (pos id)))) ∙ ap is_eq (value_cmp-Int (pos n) (pos id)) ∙ tied_is n id

pub and_true : (b : Bool) → (b && true) ≡ b
and_true true = refl
and_true false = refl

pub less_is : (m n : ℕ) → m < n → value_cmp (Int (pos m)) (Int (pos n)) ≡ Less
less_is m n h = value_cmp-Int (pos m) (pos n) ∙ int_less m n h
  where
    int_less : (m n : ℕ) → m < n → int_cmp (pos m) (pos n) ≡ Less
    int_less m n h = grind (arith, ints, nat_tests)

-- a pair as it is sorted and shown
abbrev pub as_output : Row → Output
as_output values = (column values 0 ∷ column values 1 ∷ [], column values 0 ∷ column values 1 ∷ column values 2 ∷ [])

-- the links that pass some tests, where the tests say the same of the values of a pair
module _ (tests : List Term) (params : Row) (passes : Row → Bool) where
  abbrev sorted_query : Query
  sorted_query = links_with tests

  abbrev below : Output → Output → Bool
  below x y = is_lt (output_cmp sorted_query x y)

  pair_rises : (pair later : Pair) → IsPairBefore pair later → below (as_output (pair_values pair)) (as_output (pair_values later)) ≡ true
  pair_rises pair later h = elim (cases_lt pair.a later.a) [
    | inl lower ↦ rw (less_is pair.a later.a lower) refl
    | inr tied ↦
        let same : pair.a ≡ later.a = omega (arith, h.0) in
        rw (same, tied_itself value_cmp_total (Int (pos later.a)), less_is pair.b later.b (h.1 same)) refl
  ]

  module _ (pairs : List Pair) (rise : AllPairs IsPairBefore pairs) (wants : Pair → Bool) (passes_is : (pair : Pair) → passes (pair_values pair) ≡ wants pair) where
    abbrev wanted : List Pair
    wanted = filter wants pairs

    all_are : map as_output (filter passes (map pair_values pairs)) ≡ map (λ pair. as_output (pair_values pair)) wanted
    all_are =
        ap (map as_output) (filter-map passes pair_values pairs) ∙ map-map as_output pair_values _
        ∙ (λ i. map (λ (pair : Pair). as_output (pair_values pair)) (filter (λ pair. passes_is pair i) pairs))

    sorted_answer : (lost : Value) (db : Trees) (rows : List Row) → IsPermutation (map pair_values pairs) (map shown_pair (db 1))
        → (a : IsAnswerAs lost sorted_query db params rows) → a.kept ≡ map as_output (filter passes (map shown_pair (db 1))) → rows ≡ map pair_values wanted
    sorted_answer lost db rows same a kept =
        let mixed : IsPermutation (map (λ pair. as_output (pair_values pair)) wanted) a.kept =
        subst (λ l. IsPermutation l a.kept) all_are (subst (IsPermutation _) (sym kept) (IsPermutation-map as_output _ _ (IsPermutation-filter passes _ _ same))) in
        let up = ascending_from (λ (x z : Pair). below (as_output (pair_values x)) (as_output (pair_values z)) ≡ true) wanted
        (λ i j d low high. pair_rises (get_or wanted i d) (get_or wanted j d) (AllPairs-filter IsPairBefore wants pairs rise i j d low high)) in
        let level = ascending_from (λ (y w : Output). below w y ≡ false) a.ordered
        (λ i j d low high. sorted_far below (ranks_by (output_cmp_total sorted_query) (λ (o : Output). o)) a.ordered a.sorted i j d (omega (arith, low)) high) in
        let ordered = same_order below (λ x. ap is_lt (tied_itself (output_cmp_total sorted_query) x)) (map (λ pair. as_output (pair_values pair)) wanted) a.ordered
        (ascending_map (λ x z. below x z ≡ true) (λ (pair : Pair). as_output (pair_values pair)) wanted up) level (IsPermutation-trans _ _ _ mixed a.same) in
        a.shown ∙ ap (λ os. page sorted_query params (map (λ (o : Output). o.1) os)) ordered ∙ map-map (λ (o : Output). o.1) (λ (pair : Pair). as_output (pair_values pair)) wanted

-- the links with one end
module _ (at : ℕ) (id : ℕ) where
  abbrev q : Query
  q = links_where (suc at)

  abbrev params : Row
  params = Int (pos id) ∷ []

  abbrev passes : Row → Bool
  passes values = is_true (binary (Compare Eq Binary) (column values at) (Int (pos id))) && true

  module _ (column_is : (r : Row) → column r (suc at) ≡ column (shown_pair r) at) where
    kept_is : (rows : List Row) → map (output q) (flat_map (λ r. cond (is_true (binary (Compare Eq Binary) (column r (suc at)) (Int (pos id))) && true) ((params ∷ r ∷ []) ∷ []) []) rows)
        ≡ map as_output (filter passes (map shown_pair rows))
    kept_is rows =
        chosen (λ r. is_true (binary (Compare Eq Binary) (column r (suc at)) (Int (pos id))) && true) (λ r. params ∷ r ∷ []) (output q) rows
        ∙ (λ i. map (λ r. as_output (shown_pair r)) (filter (λ r. is_true (binary (Compare Eq Binary) (column_is r i) (Int (pos id))) && true) rows))
        ∙ sym (map-map as_output shown_pair _)
        ∙ ap (map as_output) (sym (filter-map passes shown_pair rows))

    module _ (side : Pair → ℕ) (side_is : (pair : Pair) → column (pair_values pair) at ≡ Int (pos (side pair))) (pairs : List Pair) (rise : AllPairs IsPairBefore pairs) where
      passes_is : (pair : Pair) → passes (pair_values pair) ≡ (side pair == id)
      passes_is pair = and_true _ ∙ ap (λ v. is_true (binary (Compare Eq Binary) v (Int (pos id)))) (side_is pair) ∙ same_number (side pair) id

      pub answered : (lost : Value) (db : Trees) (rows : List Row) → IsPermutation (map pair_values pairs) (map shown_pair (db 1))
          → IsAnswerAs lost q db params rows → rows ≡ map pair_values (filter (λ pair. side pair == id) pairs)
      answered lost db rows same a =
          sorted_answer (equals (suc at) 0 ∷ []) params passes pairs rise (λ pair. side pair == id) passes_is lost db rows same a
          (a.distinct ∙ ap (map (output q)) a.grouped ∙ kept_is (db 1))

-- the link with two ids
module _ (a b : ℕ) where
  abbrev both : Row
  both = Int (pos a) ∷ Int (pos b) ∷ []

  abbrev is_wanted : Row → Bool
  is_wanted values =
      is_true (binary (Compare Eq Binary) (column values 0) (Int (pos a))) && (is_true (binary (Compare Eq Binary) (column values 1) (Int (pos b))) && true)

  both_kept : (rows : List Row) → map (output link_query) (flat_map (λ r. cond (is_wanted (shown_pair r)) ((both ∷ r ∷ []) ∷ []) []) rows)
      ≡ map as_output (filter is_wanted (map shown_pair rows))
  both_kept rows =
      chosen (λ r. is_wanted (shown_pair r)) (λ r. both ∷ r ∷ []) (output link_query) rows
      ∙ sym (map-map as_output shown_pair _)
      ∙ ap (map as_output) (sym (filter-map is_wanted shown_pair rows))

  wanted_is : (pair : Pair) → is_wanted (pair_values pair) ≡ is_pair a b pair
  wanted_is pair = (λ i. same_number pair.a a i && (and_true _ ∙ same_number pair.b b) i)

  pub answered_both : (pairs : List Pair) → AllPairs IsPairBefore pairs → (lost : Value) (db : Trees) (rows : List Row)
      → IsPermutation (map pair_values pairs) (map shown_pair (db 1)) → IsAnswerAs lost link_query db both rows → rows ≡ map pair_values (filter (is_pair a b) pairs)
  answered_both pairs rise lost db rows same answer =
      sorted_answer (equals 1 0 ∷ equals 2 1 ∷ []) both is_wanted pairs rise (is_pair a b) wanted_is lost db rows same answer
      (answer.distinct ∙ ap (map (output link_query)) answer.grouped ∙ both_kept (db 1))
