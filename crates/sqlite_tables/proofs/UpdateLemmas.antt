-- What the update of a name makes of the lists.
use Rattle.std.proofs.Common.{◌≡◌, inl, inr, ℕ, suc, ◌==◌, ◌<◌, pos, true, false, cond, List, [], ◌∷◌, map, find, length, get_or}
use Rattle.std.proofs.Common.{Option, None, Some, Ok, is_eq, refl, sym, ap, subst, ◌∙◌, arith, IsPermutation, filter, not, ◌++◌, ap₂, ◌&&◌, Bool}
use Rattle.std.specs.List.{AllPairs, All}
use Rattle.std.specs.Option.{option_to_list}
use Rattle.std.proofs.lemmas.Bool.{cases_Bool}
use Rattle.std.proofs.lemmas.Bool.Decides.{nat_tests}
use Rattle.std.proofs.lemmas.Int.{ints}
use Rattle.std.proofs.lemmas.List.{get_or-map, length-map}
use Rattle.std.proofs.lemmas.List.Elements.{All-nil, All-cons, filter_passes}
use Rattle.std.proofs.lemmas.List.Sorted.{IsPermutation-map, IsPermutation-trans, IsPermutation-cons, IsPermutation-filter_both}
use Rattle.rows_model.specs.declared.rows.Member.{Member}
use Rattle.rows_model.specs.Changes.{renamed}
use Rattle.rows_model.proofs.FitLemmas.{not_true}
use Rattle.sqlite.specs.declared.types.Value.TheVariants.{Int, Null, Text}
use Rattle.sqlite.specs.Order.{Row}
use Rattle.sqlite.specs.Term.{lit, col}
use Rattle.sqlite.specs.Command.TheVariants.{Update}
use Rattle.sqlite.specs.Edit.{Edit, edit_of, edited}
use Rattle.sqlite.specs.Rowids.TheVariants.{Given}
use Rattle.sqlite.specs.Does.{Tally, Does}
use Rattle.sqlite.specs.Rows.{Written}
use Rattle.sqlite.specs.Tree.{Trees, put_row, without_rowid}
use Rattle.sqlite.specs.Effect.{Database}
use Rattle.sqlite.specs.Listing.{understood}
use Rattle.sqlite.specs.State.{State, mode_of, Executes}
use Rattle.sqlite.proofs.Callers.{statement_of, runs_as, one_step}
use Rattle.sqlite_value.specs.Order.{column, value_cmp}
use Rattle.sqlite_value.proofs.OrderLemmas.{value_cmp-Int}
use Rattle.sqlite_trees.proofs.ListLemmas.{map-map, filter-map, IsPermutation-filter}
use Rattle.sqlite_rules.specs.Calls.{ids_of}
use Rattle.sqlite_rules.specs.Edit.{is_taken}
use Rattle.sqlite_tables.specs.Schema.{store_schema, member_table}
use Rattle.sqlite_tables.specs.Lists.{Lists, AreLists, HaveRowids, member_values, pair_values, shown_member, shown_pair, with_name}
use Rattle.sqlite_tables.proofs.Meanings.{update_text, update_is, update_plain, member_query}
use Rattle.sqlite_tables.proofs.RowidLemmas.{put_mixes}
use Rattle.sqlite_tables.proofs.NameLemmas as names
use Rattle.sqlite_tables.proofs.InsertLemmas.{went, same_value, cast_int, cast_null, is_free, not_taken}

apart : ◌≡◌ {A = ℕ} 1 0 → ⊥
apart e = cc

-- what the update reads of a member: its rowid, and the row that takes its place
abbrev pub read_of : List ℕ → Member → Row
read_of name m = Int (pos m.id) ∷ Int (pos m.id) ∷ Null ∷ Text name ∷ []

abbrev pub found_in : ℕ → List Member → List Member
found_in id members = option_to_list (find (λ (m : Member). m.id == id) members)

-- the edit of the members that were found
abbrev pub edit_for : Trees → List ℕ → List Member → Edit
edit_for db name found = edit_of db member_table (ids_of (map (read_of name) found)) Given 1 (map (read_of name) found)

-- the rows of the member are read, and others are put in their place
pub record Updates (id : ℕ) (name : List ℕ) (members : List Member) (old new : Database) : Type 0 where
  pub tables : new.schema ≡ store_schema
  pub links : new.trees 1 ≡ old.trees 1
  pub free : is_free old.trees (edit_for old.trees name (found_in id members)) ≡ true
  pub rows : new.trees 0 ≡ edited old.trees (edit_for old.trees name (found_in id members))

pub updates : (old new : State) (id : ℕ) (name : List ℕ) (lists : Lists) (count : ℕ) → AreLists old.now lists
    → Executes update_text (Int (pos id) ∷ Text name ∷ []) old new (Ok count) → Updates id name lists.members old.now new.now
updates old new id name lists count are h =
    let params = Int (pos id) ∷ Text name ∷ [] in
    let db = old.now.trees in
    let has = are.tables in
    let command = Update 0 (record { lets = []; body = member_query }) in
    let w = runs_as update_text params old new store_schema has command update_is update_plain count h in
    let text = statement_of update_text (understood store_schema update_text) in
    let done = went (subst (λ s. Does old.step_limit (mode_of old) params (record old.now { schema = s }) text None command (Ok (w.tally, new.now))) has w.changed) in
    let now = ap (λ (p : Tally × Database). p.1) (same_value (went (went done.2).2).2) in
    let given = went done.1 in
    let written = went given.2 in
    let trees : done.0.trees ≡ written.0 = ap (λ (it : Written). it.trees) (same_value written.2) in
    let step = one_step store_schema _ db written.0 (edit_of db member_table (ids_of given.0) Given 1 given.0) refl written.1 in
    let all : new.now.trees ≡ written.0 = ap (λ (d : Database). d.trees) now ∙ trees in
    let found : given.0 ≡ map (read_of name) (found_in id lists.members) =
    names.answered id (Text name ∷ []) (col 1 0 ∷ col 1 0 ∷ lit Null ∷ col 0 1 ∷ []) (λ values. column values 0 ∷ column values 0 ∷ Null ∷ Text name ∷ []) (λ r. refl) lists.members are.members_ascend
    Null _ given.0 are.members (given.1.answer Null) in
    let fresh : is_free db (edit_of db member_table (ids_of given.0) Given 1 given.0) ≡ true = step.fresh in
    record {
      tables = ap (λ (d : Database). d.schema) now;
      links = ap (λ (t : Trees). t 1) all ∙ step.tables.1.0 apart;
      free = sym (ap (λ given. is_free db (edit_of db member_table (ids_of given) Given 1 given)) found) ∙ fresh;
      rows = ap (λ (t : Trees). t 0) all ∙ step.rows ∙ ap (λ given. edited db (edit_of db member_table (ids_of given) Given 1 given)) found;
    }

-- whether a member's values have an id
has_id : (n : ℕ) (m : Member) → is_eq (value_cmp (Int (pos m.id)) (Int (pos n))) ≡ (m.id == n)
has_id n m = ap is_eq (value_cmp-Int (pos m.id) (pos n)) ∙ grind (arith, ints, nat_tests)

renamed_others : (id : ℕ) (name : List ℕ) (members : List Member) → All (λ (m : Member). (m.id == id) ≡ false) members → map (renamed id name) members ≡ members
renamed_others id name [] all = refl
renamed_others id name (m ∷ members) all =
    let other = all 0 m (omega arith) in
    rw (other, renamed_others id name members (λ k d low. all (suc k) d (omega arith))) refl

none_named : (id : ℕ) (members : List Member) → find (λ (m : Member). m.id == id) members ≡ None → All (λ (m : Member). (m.id == id) ≡ false) members
none_named id [] none = All-nil (λ (m : Member). (m.id == id) ≡ false)
none_named id (m ∷ members) none = elim (cases_Bool (m.id == id)) [
  | inl here ↦ absurd (let e = rw here at none in cc)
  | inr other ↦ All-cons (λ (x : Member). (x.id == id) ≡ false) m members other (none_named id members (rw other at none))
]

-- the member that is found has the id
found_id : (id : ℕ) (members : List Member) (one : Member) → find (λ (m : Member). m.id == id) members ≡ Some one → one.id ≡ id
found_id id [] one found = absurd (cc)
found_id id (m ∷ members) one found = elim (cases_Bool (m.id == id)) [
  | inl here ↦ let e = rw here at found in let same : m ≡ one = cc in rw (← same) (grind (arith, nat_tests))
  | inr other ↦ found_id id members one (rw other at found)
]

found_has : (id : ℕ) (members : List Member) (one : Member) → find (λ (m : Member). m.id == id) members ≡ Some one → (one.id == id) ≡ true
found_has id members one found = let same = found_id id members one found in grind (arith, nat_tests)

-- the row of a member's new name
abbrev row_of : ℕ → List ℕ → Row
row_of id name = Int (pos id) ∷ Null ∷ Text name ∷ []

module _ (db : Trees) (id : ℕ) (name : List ℕ) (members : List Member) (same : IsPermutation (map member_values members) (map shown_member (db 0)))
    (up : AllPairs (λ member later. member.id < later.id) members) where
  abbrev has : Member → Bool
  has m = m.id == id

  -- the others stay
  others_are : map (renamed id name) (filter (λ m. not (has m)) members) ≡ filter (λ m. not (has m)) members
  others_are = renamed_others id name (filter (λ m. not (has m)) members)
      (λ k d low. not_true _ (filter_passes (λ (m : Member). not (has m)) members k d low))

  -- the values of the renamed members: those of the one, and those of the others
  values_are : (m : Member) → find has members ≡ Some m
      → IsPermutation (map member_values (map (renamed id name) members)) (member_values (record { id = id; name = name }) ∷ map member_values (filter (λ m. not (has m)) members))
  values_are m found =
      let give = λ (x : Member). member_values (renamed id name x) in
      let one : filter has members ≡ m ∷ [] = names.one_has id members up ∙ ap option_to_list found in
      let mixed = IsPermutation-map give members (filter has members ++ filter (λ x. not (has x)) members) (IsPermutation-filter_both has (λ x. not (has x)) (λ x. refl) members) in
      let here : has m ≡ true = found_has id members m found in
      let first : give m ≡ member_values (record { id = id; name = name }) = rw (here, found_id id members m found) refl in
      let rest : map give (filter (λ x. not (has x)) members) ≡ map member_values (filter (λ x. not (has x)) members) = sym (map-map member_values
      (renamed id name) _) ∙ ap (map member_values) others_are in
      let shown : map give (filter has members ++ filter (λ x. not (has x)) members) ≡ member_values (record { id = id; name = name }) ∷ map member_values (filter (λ x. not (has x)) members) =
      ap (λ l. map give (l ++ filter (λ x. not (has x)) members)) one ∙ ap₂ ◌∷◌ first rest in
      subst (λ l. IsPermutation l (member_values (record { id = id; name = name }) ∷ map member_values (filter (λ x. not (has x)) members))) (sym (map-map member_values (renamed id name) members))
      (subst (IsPermutation (map give members)) shown mixed)

  -- the rows of the others show the others
  rest_shows : IsPermutation (map member_values (filter (λ m. not (has m)) members)) (map shown_member (without_rowid (pos id) (db 0)))
  rest_shows =
      let keeps = λ (v : Row). not (is_eq (value_cmp (column v 0) (Int (pos id)))) in
      let shown : map shown_member (without_rowid (pos id) (db 0)) ≡ filter keeps (map shown_member (db 0)) = sym (filter-map keeps shown_member (db 0)) in
      let kept : filter keeps (map member_values members) ≡ map member_values (filter (λ m. not (has m)) members) =
      filter-map keeps member_values members ∙ (λ i. map member_values (filter (λ m. not (has_id id m i)) members)) in
      subst (λ l. IsPermutation l (map shown_member (without_rowid (pos id) (db 0)))) kept (subst (IsPermutation (filter keeps (map member_values members)))
      (sym shown) (IsPermutation-filter keeps _ _ same))

  -- the rows after the edit, by what was found
  after : (found : Option Member) → find has members ≡ found → is_free db (edit_for db name (option_to_list found)) ≡ true
      → IsPermutation (map member_values (map (renamed id name) members)) (map shown_member (edited db (edit_for db name (option_to_list found))))
  after None none free = subst (λ ms. IsPermutation (map member_values ms) (map shown_member (db 0))) (sym (renamed_others id name members (none_named id members none))) same
  after (Some m) some free =
      let number = found_id id members m some in
      let row = row_of id name in
      let rest = without_rowid (pos id) (db 0) in
      let edit : edited db (edit_for db name (m ∷ [])) ≡ put_row row rest = rw (cast_int (pos m.id), cast_null, number) refl in
      let fresh : is_free db (edit_for db name (m ∷ [])) ≡ (not (is_taken rest row) && true) = rw (cast_int (pos m.id), number) refl in
      let untaken : is_taken rest row ≡ false = not_taken _ (sym fresh ∙ free) in
      subst (λ l. IsPermutation (map member_values (map (renamed id name) members)) (map shown_member l)) (sym edit)
      (IsPermutation-trans _ _ _ (values_are m some)
      (IsPermutation-trans _ (map shown_member (row ∷ rest)) _ (IsPermutation-cons (member_values (record { id = id; name = name })) _ _ rest_shows)
      (IsPermutation-map shown_member _ _ (put_mixes row rest untaken))))

same_ids : (id : ℕ) (name : List ℕ) (m : Member) → (renamed id name m).id ≡ m.id
same_ids id name m = elim (m.id == id) as (λ b. (cond b (record { id = m.id; name = name }) m).id ≡ m.id) [ true ↦ refl | false ↦ refl ]

still_ascend : (id : ℕ) (name : List ℕ) (members : List Member) → AllPairs (λ member later. member.id < later.id) members → AllPairs
    (λ member later. member.id < later.id) (map (renamed id name) members)
still_ascend id name members up = λ i j d low high.
    let within : j < length members = rw length-map at high in
    rw (
      get_or-map (renamed id name) members i d d (omega (arith, low, within)),
      get_or-map (renamed id name) members j d d within,
      same_ids id name
          (get_or members i d),
      same_ids id name (get_or members j d),
    )
    (up i j d low within)

-- the member has the name
pub named : (old new : Database) (id : ℕ) (name : List ℕ) (lists : Lists) → AreLists old lists → Updates id name lists.members old new → AreLists new (with_name id name lists)
named old new id name lists are h = record {
  tables = h.tables;
  members = subst (λ (l : List Row). IsPermutation (map member_values (map (renamed id name) lists.members)) (map shown_member l)) (sym h.rows)
      (after old.trees id name lists.members are.members are.members_ascend _ refl h.free);
  members_ascend = still_ascend id name lists.members are.members_ascend;
  rowids = subst HaveRowids (sym h.links) are.rowids;
  pairs = subst (λ (l : List Row). IsPermutation (map pair_values lists.pairs) (map shown_pair l)) (sym h.links) are.pairs;
  pairs_ascend = are.pairs_ascend;
}
