-- What the queries of all rows show, and what follows for the lists of a database that is found.
use Rattle.std.proofs.Common.{◌≡◌, inl, inr, ℕ, ◌≤◌, ℤ, ◌<ℤ◌, Bool, true, false, cond, List, [], ◌∷◌, map, filter, flat_map, length}
use Rattle.std.proofs.Common.{None, unwrap_or, nat_le, ◌^◌, Result, Ok, Err, OnOk, is_eq, IsTrue, refl, sym, ap, subst, ◌∙◌, arith, IsPermutation, IfOk, codes}
use Rattle.std.specs.List.{AllPairs, All, AllByRecursion}
use Rattle.std.specs.Ordering.{int_cmp}
use Rattle.std.proofs.lemmas.Bool.{cases_Bool}
use Rattle.std.proofs.lemmas.Int.{ints}
use Rattle.std.proofs.lemmas.List.{length-map}
use Rattle.std.proofs.lemmas.List.Elements.{All-head, All-tail}
use Rattle.std.proofs.lemmas.List.Sorted.{IsPermutation-map, IsPermutation-sym, length_permutation}
use Rattle.rows_model.proofs.FitLemmas.{pairs_head, pairs_tail}
use Rattle.sqlite.specs.declared.types.Value.{Value}
use Rattle.sqlite.specs.declared.types.Value.TheVariants.{Int, Null}
use Rattle.sqlite.specs.Order.{Row}
use Rattle.sqlite.specs.Collation.TheVariants.{Binary}
use Rattle.sqlite.specs.Term.{Term, col}
use Rattle.sqlite.specs.State.{State, Shown, IsUnchanged}
use Rattle.sqlite.proofs.Callers.{reads_as}
use Rattle.sqlite_value.specs.declared.keys.Key.{Key}
use Rattle.sqlite_value.specs.Keys.{ascending}
use Rattle.sqlite_value.specs.Order.{column, value_cmp}
use Rattle.sqlite_value.proofs.OrderLemmas.{value_cmp-Int}
use Rattle.sqlite_trees.specs.Tree.{Trees, rowid, has_rowid}
use Rattle.sqlite_trees.specs.View.{is_int}
use Rattle.sqlite_trees.proofs.ListLemmas.{map-map, filter-map, IsPermutation-filter, all-permutation}
use Rattle.sqlite_sql.specs.Term.{eval_all}
use Rattle.sqlite_sql.specs.Program.{overlay}
use Rattle.sqlite_sql.specs.Query.{IsAnswerAs, Output, output}
use Rattle.sqlite_tables.specs.Schema.{store_schema, unindexed_schema}
use Rattle.sqlite_tables.specs.Lists.{HasTables, HaveRowids, AscendAsRows, shown_member, shown_pair}
use Rattle.sqlite_tables.proofs.LeaveLemmas.{shown_as}
use Rattle.sqlite_tables.proofs.Meanings.{IsQuery, all_of, members_text, pairs_text, rowids_text, members_are, pairs_are, rowids_are}

each : {A B C : Type 0} (f : A → B) (g : B → C) (xs : List A) → map g (flat_map (λ x. f x ∷ []) xs) ≡ map (λ x. g (f x)) xs
each f g [] = refl
each f g (x ∷ xs) = ap (λ l. g (f x) ∷ l) (each f g xs)

-- all rows are shown, in some order
all_shown : (tree : ℕ) (shown : List Term) (order : List (Term × Key)) (lost : Value) (db : Trees) (rows : List Row) → IsAnswerAs lost (all_of tree shown order) db [] rows
    → IsPermutation (map (λ r. eval_all shown ([] ∷ r ∷ [])) (db tree)) rows
all_shown tree shown order lost db rows a =
    let q = all_of tree shown order in
    let kept : a.kept ≡ map (λ r. output q ([] ∷ r ∷ [])) (db tree) = a.distinct ∙ ap (map (output q)) a.grouped ∙ each (λ r. [] ∷ r ∷ []) (output q) (db tree) in
    let mixed = IsPermutation-map (λ (o : Output). o.1) _ _ (subst (λ k. IsPermutation k a.ordered) kept a.same) in
    subst (IsPermutation _) (sym a.shown) (subst (λ l. IsPermutation l (map (λ (o : Output). o.1) a.ordered)) (map-map (λ (o : Output). o.1) (λ r. output q ([] ∷ r ∷ [])) (db tree)) mixed)

-- no table is computed before
bare : (db : Trees) (tree : ℕ) → overlay db [] tree ≡ db tree
bare db tree = elim (nat_le (2 ^ 31) tree) as (λ b. unwrap_or (cond b None None) (db tree) ≡ db tree) [ true ↦ refl | false ↦ refl ]

module _ (old new : State) (rows : List Row) (sql : List ℕ) (tree : ℕ) (shown : List Term) (order : List (Term × Key)) (names : List (List ℕ))
    (are : IsQuery unindexed_schema sql (all_of tree shown order) names × IsQuery store_schema sql (all_of tree shown order) names) where
  -- a text of all rows, under either schema
  pub all_rows : HasTables old.now.schema → Shown sql [] old new rows → IsPermutation (map (λ r. eval_all shown ([] ∷ r ∷ [])) (old.now.trees tree)) rows
  all_rows (inl has) h = let read = reads_as sql [] old new unindexed_schema has _ are.0.0 are.0.1 are.0.2 rows h in subst (λ l. IsPermutation (map
      (λ r. eval_all shown ([] ∷ r ∷ [])) l) rows) (bare old.now.trees tree) (all_shown tree shown order Null _ rows (read.answer Null))
  all_rows (inr has) h = let read = reads_as sql [] old new store_schema has _ are.1.0 are.1.1 are.1.2 rows h in subst (λ l. IsPermutation (map
      (λ r. eval_all shown ([] ∷ r ∷ [])) l) rows) (bare old.now.trees tree) (all_shown tree shown order Null _ rows (read.answer Null))

  pub all_same : HasTables old.now.schema → Shown sql [] old new rows → IsUnchanged old new
  all_same (inl has) h = shown_as sql [] old new unindexed_schema rows has are.0.1 h
  all_same (inr has) h = shown_as sql [] old new store_schema rows has are.1.1 h

-- ---- rowids that ascend

abbrev pub as_row : ℤ → Row
as_row n = Int n ∷ []

tied_ints : (m n : ℤ) → is_eq (int_cmp m n) ≡ true → m ≡ n
tied_ints m n h = grind (arith, ints)

is_number : ℤ → Row → Bool
is_number id row = is_eq (value_cmp (column row 0) (Int id))

-- of numbers that ascend at most one is this
none_above : (id : ℤ) (ns : List ℤ) → All (λ n. id <ℤ n) ns → filter (λ n. is_eq (int_cmp n id)) ns ≡ []
none_above id [] all = refl
none_above id (n ∷ ns) all =
    let above = All-head (λ m. id <ℤ m) n ns all in
    let no : is_eq (int_cmp n id) ≡ false = grind (arith, ints) in
    rw (no, none_above id ns (All-tail (λ m. id <ℤ m) n ns all)) refl

at_most_one : (id : ℤ) (ns : List ℤ) → AllPairs (λ m n. m <ℤ n) ns → length (filter (λ n. is_eq (int_cmp n id)) ns) ≤ 1
at_most_one id [] up = omega arith
at_most_one id (n ∷ ns) up = elim (cases_Bool (is_eq (int_cmp n id))) [
  | inl here ↦
      let same : n ≡ id = tied_ints n id here in
      let rest : filter (λ m. is_eq (int_cmp m id)) ns ≡ [] = none_above id ns (subst (λ k. All (λ m. k <ℤ m) ns) same (pairs_head (λ m k. m <ℤ k) n ns up)) in
      rw (here, rest) (omega arith)
  | inr other ↦ rw other (at_most_one id ns (pairs_tail (λ m k. m <ℤ k) n ns up))
]

-- rows whose rowids are these
pub rowids_found : (rows : List Row) (ns : List ℤ) → IsPermutation (map (λ r. rowid r ∷ []) rows) (map as_row ns) → AllPairs (λ m n. m <ℤ n) ns → HaveRowids rows
rowids_found rows ns same up = record {
  numbers = numbers rows (all-permutation (λ v. IsTrue (is_int (column v 0))) _ _ (IsPermutation-sym _ _ same) (ints_are ns));
  apart = λ id.
      let test = λ (v : Row). is_eq (value_cmp (column v 0) (Int id)) in
      let count = length_permutation _ _ (IsPermutation-filter test _ _ same) in
      let left : length (filter test (map (λ (r : Row). rowid r ∷ []) rows)) ≡ length (filter (has_rowid id) rows) = ap length (filter-map test (λ (r : Row). rowid r ∷ []) rows) ∙ length-map _ _ in
      let right : length (filter test (map as_row ns)) ≡ length (filter (λ n. is_eq (int_cmp n id)) ns) =
      ap length (filter-map test as_row ns) ∙ length-map _ _ ∙ (λ i. length (filter (λ n. is_eq (value_cmp-Int n id i)) ns)) in
      let few = at_most_one id ns up in
      omega (arith, count, left, right, few);
}
  where
    numbers : (rows : List Row) → AllByRecursion (λ v. IsTrue (is_int (column v 0))) (map (λ (r : Row). rowid r ∷ []) rows) → AllByRecursion (λ r. IsTrue (is_int (rowid r))) rows
    numbers [] all = tt
    numbers (r ∷ rows) all = (all.0, numbers rows all.1)

    ints_are : (ns : List ℤ) → AllByRecursion (λ v. IsTrue (is_int (column v 0))) (map as_row ns)
    ints_are [] = tt
    ints_are (n ∷ ns) = (refl, ints_are ns)

module _ (old new : State) (rows : List Row) (has : HasTables old.now.schema) where
  pub members_shown : Shown members_text [] old new rows → IsPermutation (map shown_member (old.now.trees 0)) rows
  members_shown = all_rows old new rows members_text 0 (col 1 0 ∷ col 1 2 ∷ []) ((col 1 0, ascending Binary) ∷ []) (codes "id" ∷ codes "name" ∷ []) members_are has

  pub members_same : Shown members_text [] old new rows → IsUnchanged old new
  members_same = all_same old new rows members_text 0 (col 1 0 ∷ col 1 2 ∷ []) ((col 1 0, ascending Binary) ∷ []) (codes "id" ∷ codes "name" ∷ []) members_are has

  pub pairs_shown : Shown pairs_text [] old new rows → IsPermutation (map shown_pair (old.now.trees 1)) rows
  pairs_shown = all_rows old new rows pairs_text 1 (col 1 1 ∷ col 1 2 ∷ col 1 3 ∷ []) ((col 1 1, ascending Binary) ∷ (col 1 2, ascending Binary) ∷ [])
      (codes "a" ∷ codes "b" ∷ codes "st" ∷ []) pairs_are has

  pub pairs_same : Shown pairs_text [] old new rows → IsUnchanged old new
  pairs_same = all_same old new rows pairs_text 1 (col 1 1 ∷ col 1 2 ∷ col 1 3 ∷ []) ((col 1 1, ascending Binary) ∷ (col 1 2, ascending Binary) ∷ [])
      (codes "a" ∷ codes "b" ∷ codes "st" ∷ []) pairs_are has

  pub rowids_shown : Shown rowids_text [] old new rows → IsPermutation (map (λ r. rowid r ∷ []) (old.now.trees 1)) rows
  rowids_shown = all_rows old new rows rowids_text 1 (col 1 0 ∷ []) ((col 1 0, ascending Binary) ∷ []) (codes "rowid" ∷ []) rowids_are has

  pub rowids_same : Shown rowids_text [] old new rows → IsUnchanged old new
  rowids_same = all_same old new rows rowids_text 1 (col 1 0 ∷ []) ((col 1 0, ascending Binary) ∷ []) (codes "rowid" ∷ []) rowids_are has

-- what is told of the rows is what the table shows
pub shows_as : {X V E : Type 0} (f : X → Row) (items : V → List X) (all rows now : List Row) (r : Result V E) → IsPermutation all rows → now ≡ rows → IfOk r (λ v. now ≡ map f (items v))
    → IfOk r (λ v. IsPermutation (map f (items v)) all)
shows_as f items all rows now (Ok v) same is h = IsPermutation-sym _ _ (subst (IsPermutation all) (sym is ∙ h) same)
shows_as f items all rows now (Err e) same is h = tt

-- rows that are numbers that ascend tell the rowids apart
pub rowids_told : {V E : Type 0} (all rows now : List Row) (r : Result V E) → IsPermutation (map (λ r. rowid r ∷ []) all) rows → now ≡ rows → OnOk r (AscendAsRows now) → OnOk r (HaveRowids all)
rowids_told all rows now (Ok v) same is h = rowids_found all h.0 (subst (IsPermutation (map (λ r. rowid r ∷ []) all)) (sym is ∙ h.1) same) h.2
rowids_told all rows now (Err e) same is h = tt
