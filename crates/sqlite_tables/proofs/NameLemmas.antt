-- What the query on the members shows of the lists.
use Rattle.std.proofs.Common.{◌≡◌, inl, inr, ℕ, ◌==◌, ◌&&◌, ◌<◌, pos, true, false, cond, List, [], ◌∷◌, map}
use Rattle.std.proofs.Common.{filter, flat_map, find, length, Option, Some, None, refl, ap, ◌∙◌, subst, arith, IsPermutation, Bool, sym}
use Rattle.std.specs.List.{AllPairs, All}
use Rattle.std.specs.Option.{option_to_list}
use Rattle.std.proofs.lemmas.Bool.{cases_Bool}
use Rattle.std.proofs.lemmas.Bool.Decides.{nat_tests}
use Rattle.std.proofs.lemmas.List.Elements.{All-head, All-tail}
use Rattle.std.proofs.lemmas.List.Sorted.{length_permutation, IsPermutation-map, IsPermutation-trans}
use Rattle.rows_model.specs.declared.rows.Member.{Member}
use Rattle.rows_model.proofs.FitLemmas.{pairs_head, pairs_tail}
use Rattle.sqlite.specs.declared.types.Value.TheVariants.{Int}
use Rattle.sqlite.specs.Collation.TheVariants.{Binary}
use Rattle.sqlite.specs.Term.{Term}
use Rattle.sqlite_value.specs.Order.{Row, column}
use Rattle.sqlite_value.specs.declared.value.Value.{Value}
use Rattle.sqlite_trees.specs.Tree.{Trees}
use Rattle.sqlite_trees.proofs.ListLemmas.{map-map, filter-map, IsPermutation-filter}
use Rattle.sqlite_sql.specs.declared.ops.BinaryOp.TheVariants.{Compare}
use Rattle.sqlite_sql.specs.declared.ops.CompareOp.TheVariants.{Eq}
use Rattle.sqlite_sql.specs.Ops.{binary, is_true}
use Rattle.sqlite_sql.specs.Query.{Query, IsAnswerAs, Output, output, page}
use Rattle.sqlite.proofs.Callers.{one_permutation}
use Rattle.sqlite_tables.specs.Lists.{member_values, shown_member}
use Rattle.sqlite_tables.proofs.Meanings.{rows_where, equals}
use Rattle.sqlite_tables.proofs.PairLemmas.{chosen, same_number, and_true}

-- of members that ascend by id, at most one has an id
none_has : (id : ℕ) (members : List Member) → All (λ (m : Member). (m.id == id) ≡ false) members → filter (λ (m : Member). m.id == id) members ≡ []
none_has id [] all = refl
none_has id (m ∷ members) all = rw (All-head (λ (x : Member). (x.id == id) ≡ false) m members all) (none_has id members (All-tail (λ (x : Member). (x.id == id) ≡ false) m members all))

pub one_has : (id : ℕ) (members : List Member) → AllPairs (λ member later. member.id < later.id) members → filter (λ (m : Member). m.id == id) members
    ≡ option_to_list (find (λ (m : Member). m.id == id) members)
one_has id [] up = refl
one_has id (m ∷ members) up = elim (cases_Bool (m.id == id)) [
  | inl here ↦
      let rest : All (λ (x : Member). (x.id == id) ≡ false) members = λ k d low. (let above = pairs_head (λ member later. member.id < later.id) m members up k d low in grind (arith, nat_tests)) in
      rw (here, none_has id members rest) refl
  | inr other ↦ rw other (one_has id members (pairs_tail (λ member later. member.id < later.id) m members up))
]

-- a query on the members by id, which shows this of a member's values
module _ (id : ℕ) (rest : Row) (shown : List Term) (give : Row → Row) where
  abbrev q : Query
  q = rows_where 0 (equals 0 0 ∷ []) shown

  abbrev params : Row
  params = Int (pos id) ∷ rest

  abbrev passes : Row → Bool
  passes values = is_true (binary (Compare Eq Binary) (column values 0) (Int (pos id))) && true

  abbrev as_output : Row → Output
  as_output values = ([], give values)

  module _ (given : (r : Row) → output q (params ∷ r ∷ []) ≡ as_output (shown_member r)) (members : List Member) (up : AllPairs (λ member later. member.id < later.id) members) where
    abbrev one : Option Member
    one = find (λ (m : Member). m.id == id) members

    kept_is : (rows : List Row) → map (output q) (flat_map (λ r. cond (is_true (binary (Compare Eq Binary) (column r 0) (Int (pos id))) && true) ((params ∷ r ∷ []) ∷ []) []) rows)
        ≡ map as_output (filter passes (map shown_member rows))
    kept_is rows =
        chosen (λ r. is_true (binary (Compare Eq Binary) (column r 0) (Int (pos id))) && true) (λ r. params ∷ r ∷ []) (output q) rows
        ∙ (λ i. map (λ r. given r i) (filter (λ r. passes (shown_member r)) rows))
        ∙ sym (map-map as_output shown_member _)
        ∙ ap (map as_output) (sym (filter-map passes shown_member rows))

    wanted_is : map as_output (filter passes (map member_values members)) ≡ map (λ m. as_output (member_values m)) (option_to_list one)
    wanted_is =
        ap (map as_output) (filter-map passes member_values members) ∙ map-map as_output member_values _
        ∙ (λ i. map (λ (m : Member). as_output (member_values m)) (filter (λ (m : Member). (and_true _ ∙ same_number m.id id) i) members))
        ∙ ap (map (λ (m : Member). as_output (member_values m))) (one_has id members up)

    ordered_is : (found : Option Member) (ordered : List Output) → IsPermutation (map (λ m. as_output (member_values m)) (option_to_list found)) ordered → ordered
        ≡ map (λ m. as_output (member_values m)) (option_to_list found)
    ordered_is (Some m) ordered same = one_permutation (as_output (member_values m)) ordered same
    ordered_is None ordered same = none ordered (length_permutation [] ordered same)
      where
        none : (os : List Output) → length os ≡ 0 → os ≡ []
        none [] e = refl
        none (o ∷ os) e = absurd (omega (arith, e))

    pub answered : (lost : Value) (db : Trees) (rows : List Row) → IsPermutation (map member_values members) (map shown_member (db 0)) → IsAnswerAs lost q db params rows
        → rows ≡ map (λ m. give (member_values m)) (option_to_list one)
    answered lost db rows same a =
        let kept : a.kept ≡ map as_output (filter passes (map shown_member (db 0))) = a.distinct ∙ ap (map (output q)) a.grouped ∙ kept_is (db 0) in
        let mixed : IsPermutation (map (λ m. as_output (member_values m)) (option_to_list one)) a.kept =
        subst (λ l. IsPermutation l a.kept) wanted_is (subst (IsPermutation _) (sym kept) (IsPermutation-map as_output _ _ (IsPermutation-filter passes _ _ same))) in
        let ordered = ordered_is one a.ordered (IsPermutation-trans _ _ _ mixed a.same) in
        a.shown ∙ ap (λ os. page q params (map (λ (o : Output). o.1) os)) ordered ∙ map-map (λ (o : Output). o.1) (λ (m : Member). as_output (member_values m)) _
