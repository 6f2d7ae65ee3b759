-- What the delete of a pair makes of the lists.
use Rattle.std.proofs.Common.{◌≡◌, inl, inr, ℕ, ◌==◌, ◌&&◌, ◌||◌, not, ℤ, pos, Bool, true, List, [], ◌∷◌, map}
use Rattle.std.proofs.Common.{filter, None, Ok, Ordering, Less, Equal, Greater, is_eq, IsTrue, refl, sym, ap, subst, ◌∙◌, true≢false, IsPermutation}
use Rattle.std.specs.List.{AllByRecursion, list_any, list_all}
use Rattle.std.proofs.lemmas.Bool.{cases_Bool, false_from_ne_true}
use Rattle.std.proofs.lemmas.List.Kept.{AllPairs-filter}
use Rattle.sqlite.specs.declared.types.Value.TheVariants.{Int, Null}
use Rattle.sqlite.specs.Collation.TheVariants.{Binary}
use Rattle.sqlite.specs.Order.{Row}
use Rattle.sqlite.specs.Term.{Term}
use Rattle.sqlite.specs.Command.TheVariants.{Delete}
use Rattle.sqlite.specs.Edit.{edit_of}
use Rattle.sqlite.specs.Rowids.TheVariants.{Given}
use Rattle.sqlite.specs.Does.{Tally, Does}
use Rattle.sqlite.specs.Rows.{Written}
use Rattle.sqlite.specs.Tree.{Trees, rowid, has_rowid, without_rowid}
use Rattle.sqlite.specs.Effect.{Database}
use Rattle.sqlite.specs.Listing.{understood}
use Rattle.sqlite.specs.State.{State, mode_of, Executes}
use Rattle.sqlite.proofs.Callers.{statement_of, runs_as, one_step}
use Rattle.sqlite_value.specs.Order.{column, value_cmp}
use Rattle.sqlite_trees.specs.View.{is_int}
use Rattle.sqlite_trees.proofs.ListLemmas.{filter-map, IsPermutation-filter}
use Rattle.sqlite_sql.specs.declared.ops.BinaryOp.TheVariants.{Compare}
use Rattle.sqlite_sql.specs.declared.ops.CompareOp.TheVariants.{Eq}
use Rattle.sqlite_sql.specs.Ops.{binary, is_true}
use Rattle.sqlite_sql.specs.Term.{holds}
use Rattle.sqlite_rules.specs.Calls.{ids_of}
use Rattle.sqlite_rules.specs.Edit.{without_all, id_in}
use Rattle.sqlite_rules.specs.Lists.{Has}
use Rattle.sqlite_rules.specs.Probe.{AreFound}
use Rattle.sqlite_rules.proofs.ListLemmas.{all_has, all_from, some_has, some_from}
use Rattle.sqlite_rules.proofs.ProbeLemmas.{found_rowids, has_mapped, mapped_has}
use Rattle.sqlite_rules.proofs.TableLemmas.{int_is}
use Rattle.sqlite_tables.specs.declared.pairs.Pair.{Pair}
use Rattle.sqlite_tables.specs.Schema.{store_schema, link_table}
use Rattle.sqlite_tables.specs.Lists.{Lists, AreLists, HaveRowids, member_values, pair_values, shown_member, shown_pair, IsPairBefore, is_pair, without_pair}
use Rattle.sqlite_tables.proofs.RowidLemmas.{own_rowid, same_row, rowids_filter}
use Rattle.sqlite_tables.proofs.Meanings.{delete_text, delete_is, delete_plain, pair_query, equals}
use Rattle.sqlite_tables.proofs.PairLemmas.{same_number, and_true}
use Rattle.sqlite_tables.proofs.InsertLemmas.{went, same_value, apart}

-- the rows of the pair were found, and are gone
pub record Deletes (a b : ℤ) (old new : Database) : Type 0 where
  pub tables : new.schema ≡ store_schema
  pub members : new.trees 0 ≡ old.trees 0
  pub found : List Row
  pub are : AreFound (equals 1 0 ∷ equals 2 1 ∷ []) (old.trees 1) (Int a ∷ Int b ∷ []) found
  pub links : new.trees 1 ≡ without_all (old.trees 1) (ids_of found)

pub deletes : (old new : State) (a b : ℤ) (count : ℕ) → old.now.schema ≡ store_schema → Executes delete_text (Int a ∷ Int b ∷ []) old new (Ok count) → Deletes a b old.now new.now
deletes old new a b count has h =
    let params = Int a ∷ Int b ∷ [] in
    let db = old.now.trees in
    let command = Delete 1 (record { lets = []; body = pair_query }) in
    let w = runs_as delete_text params old new store_schema has command delete_is delete_plain count h in
    let text = statement_of delete_text (understood store_schema delete_text) in
    let done = went (subst (λ s. Does old.step_limit (mode_of old) params (record old.now { schema = s }) text None command (Ok (w.tally, new.now))) has w.changed) in
    let now = ap (λ (p : Tally × Database). p.1) (same_value (went (went done.2).2).2) in
    let given = went done.1 in
    let written = went given.2 in
    let trees : done.0.trees ≡ written.0 = ap (λ (it : Written). it.trees) (same_value written.2) in
    let step = one_step store_schema _ db written.0 (edit_of db link_table (ids_of given.0) Given 0 []) refl written.1 in
    let all : new.now.trees ≡ written.0 = ap (λ (d : Database). d.trees) now ∙ trees in
    let q = given.1.answer Null in
    record {
      tables = ap (λ (d : Database). d.schema) now;
      members = ap (λ (t : Trees). t 0) all ∙ step.tables.0 apart;
      found = given.0;
      are = found_rowids 1 (equals 1 0 ∷ equals 2 1 ∷ []) db params given.0
          (record { staged = q.staged; grouped = q.grouped; kept = q.kept; distinct = q.distinct; ordered = q.ordered; same = q.same; sorted = q.sorted; shown = q.shown });
      links = ap (λ (t : Trees). t 1) all ∙ step.rows;
    }

-- two filters in turn
filter_twice : {X : Type 0} (p q : X → Bool) (xs : List X) → filter (λ x. not (p x)) (filter (λ x. not (q x)) xs) ≡ filter (λ x. not (q x || p x)) xs
filter_twice p q [] = refl
filter_twice p q (x ∷ xs) = elim (cases_Bool (q x)) [
  | inl out ↦ rw (out, filter_twice p q xs) refl
  | inr on ↦ elim (cases_Bool (p x)) [ inl gone ↦ rw (on, gone, filter_twice p q xs) refl | inr kept ↦ rw (on, kept, filter_twice p q xs) refl ]
]

pub filter_all : {X : Type 0} (xs : List X) → filter (λ x. true) xs ≡ xs
filter_all [] = refl
filter_all (x ∷ xs) = ap (λ l. x ∷ l) (filter_all xs)

-- what is left is what has none of the rowids
left_is : (ids : List ℤ) (rows : List Row) → without_all rows ids ≡ filter (λ r. not (list_any (λ id. has_rowid id r) ids)) rows
left_is [] rows = sym (filter_all rows)
left_is (id ∷ ids) rows = left_is ids (without_rowid id rows) ∙ filter_twice (λ r. list_any (λ i. has_rowid i r) ids) (has_rowid id) rows

filter_same : {X : Type 0} (p q : X → Bool) (xs : List X) → AllByRecursion (λ x. p x ≡ q x) xs → filter p xs ≡ filter q xs
filter_same p q [] all = refl
filter_same p q (x ∷ xs) all = rw (all.0, filter_same p q xs all.1) refl

equal_is : (o : Ordering) → is_eq o ≡ true → o ≡ Equal
equal_is Less h = absurd (cc)
equal_is Equal h = refl
equal_is Greater h = absurd (cc)

module _ (terms : List Term) (given : Row) (rows found : List Row) (have : HaveRowids rows) (are : AreFound terms rows given found) where
  abbrev test : Row → Bool
  test r = list_all (holds (given ∷ r ∷ [])) terms

  -- a row has one of the rowids that were found exactly where it passes
  found_is : (r : Row) → Has rows r → list_any (λ id. has_rowid id r) (ids_of found) ≡ test r
  found_is r h = elim (cases_Bool (test r)) [
    | inl passes ↦
        let own = own_rowid r (all_has (λ x. IsTrue (is_int (rowid x))) rows r have.numbers h) in
        some_from (λ id. has_rowid id r) (ids_of found) (id_in (rowid r)) (mapped_has (λ x. id_in (rowid x)) found (rowid r ∷ []) (are.complete r h passes)) own ∙ sym passes
    | inr fails ↦ false_from_ne_true _ (λ any.
        let one = some_has (λ id. has_rowid id r) (ids_of found) any in
        let from = has_mapped (λ x. id_in (rowid x)) found one.0 one.1 in
        let other = are.sound from.0 from.1 in
        let keyed = int_is (rowid other.0) (all_has (λ x. IsTrue (is_int (rowid x))) rows other.0 have.numbers other.1) in
        let number : one.0 ≡ id_in (rowid other.0) = from.2 ∙ ap (λ (x : Row). id_in (rowid x)) other.3 in
        let tie : value_cmp (rowid r) (rowid other.0) ≡ Equal = subst (λ v. value_cmp (rowid r) v ≡ Equal) (ap Int number ∙ sym keyed) (equal_is _ one.2) in
        let same = same_row rows r other.0 have h other.1 tie in
        true≢false (sym other.2 ∙ sym (ap test same) ∙ fails)) ∙ sym fails
  ]

  pub rest_is : without_all rows (ids_of found) ≡ filter (λ r. not (test r)) rows
  rest_is = left_is (ids_of found) rows ∙ filter_same _ _ rows (all_from _ rows (λ r h. ap not (found_is r h)))

module _ (a b : ℕ) where
  abbrev passes : Row → Bool
  passes values = is_true (binary (Compare Eq Binary) (column values 0) (Int (pos a))) && (is_true (binary (Compare Eq Binary) (column values 1) (Int (pos b))) && true)

  passes_is : (pair : Pair) → passes (pair_values pair) ≡ is_pair a b pair
  passes_is pair = ap (λ c. c && (is_true (binary (Compare Eq Binary) (Int (pos pair.b)) (Int (pos b))) && true)) (same_number pair.a a)
      ∙ ap (λ c. (pair.a == a) && c) (and_true _ ∙ same_number pair.b b)

  -- the pair is gone
  pub deleted : (old new : Database) (lists : Lists) → AreLists old lists → Deletes (pos a) (pos b) old new → AreLists new (without_pair a b lists)
  deleted old new lists are h =
      let rows = old.trees 1 in
      let keeps = λ (v : Row). not (passes v) in
      let rest : new.trees 1 ≡ filter (λ r. keeps (shown_pair r)) rows =
      h.links ∙ rest_is (equals 1 0 ∷ equals 2 1 ∷ []) (Int (pos a) ∷ Int (pos b) ∷ []) rows h.found are.rowids h.are in
      let shown : map shown_pair (new.trees 1) ≡ filter keeps (map shown_pair rows) = ap (map shown_pair) rest ∙ sym (filter-map keeps shown_pair rows) in
      let kept : filter keeps (map pair_values lists.pairs) ≡ map pair_values (filter (λ pair. not (is_pair a b pair)) lists.pairs) =
      filter-map keeps pair_values lists.pairs ∙ (λ i. map pair_values (filter (λ pair. not (passes_is pair i)) lists.pairs)) in
      record {
        tables = h.tables;
        members = subst (λ (l : List Row). IsPermutation (map member_values lists.members) (map shown_member l)) (sym h.members) are.members;
        members_ascend = are.members_ascend;
        rowids = subst HaveRowids (sym rest) (rowids_filter (λ r. keeps (shown_pair r)) rows are.rowids);
        pairs = subst (λ l. IsPermutation l (map shown_pair (new.trees 1))) kept (subst (IsPermutation (filter keeps (map pair_values lists.pairs))) (sym shown)
            (IsPermutation-filter keeps _ _ are.pairs));
        pairs_ascend = AllPairs-filter IsPairBefore (λ pair. not (is_pair a b pair)) lists.pairs are.pairs_ascend;
      }
