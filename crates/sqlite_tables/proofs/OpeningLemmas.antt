-- What the statements make that open a new database.
use Rattle.std.proofs.Common.{◌≡◌, ℕ, ◌<◌, pos, false, List, [], ◌∷◌, ◌++◌, map, None, Ok, refl, sym, ap, subst, ◌∙◌, arith, not, ◌&&◌, IsPermutation, true, inl, inr}
use Rattle.std.specs.List.{All, AllByRecursion}
use Rattle.std.proofs.lemmas.List.Quantifiers.{all_pairs_push}
use Rattle.std.proofs.lemmas.List.Sorted.{IsPermutation-refl, IsPermutation-map, IsPermutation-trans, IsPermutation-cons, IsPermutation-to_front}
use Rattle.rows_model.specs.declared.rows.Member.{Member}
use Rattle.sqlite.specs.declared.types.Value.TheVariants.{Int, Null, Text}
use Rattle.sqlite.specs.Order.{Row}
use Rattle.sqlite.specs.Term.{lit, col}
use Rattle.sqlite.specs.Source.TheVariants.{Values}
use Rattle.sqlite.specs.Command.TheVariants.{Insert, CreateTable, CreateIndex, Nothing}
use Rattle.sqlite.specs.Edit.{Edit, edit_of, edited}
use Rattle.sqlite_rules.specs.Edit.{is_taken, are_fresh}
use Rattle.sqlite.specs.Rowids.TheVariants.{Chosen}
use Rattle.sqlite.specs.Change.{created, indexed, next_tree}
use Rattle.sqlite.specs.Does.{Tally, Does, lacks_sequence}
use Rattle.sqlite.specs.Rows.{Written}
use Rattle.sqlite.specs.Table.{Table}
use Rattle.sqlite.specs.Schema.{Schema}
use Rattle.sqlite.specs.Tree.{Trees, put_row}
use Rattle.sqlite.specs.Effect.{Database}
use Rattle.sqlite.specs.Listing.{understood}
use Rattle.sqlite.specs.State.{State, mode_of, Writes, Executes}
use Rattle.sqlite.proofs.Callers.{statement_of, runs_as, one_step}
use Rattle.sqlite_schema.specs.declared.schema.Index.{Index}
use Rattle.sqlite_tables.specs.Schema.{store_schema, unindexed_schema, member_schema, empty_schema, member_table, link_table, link_by_b}
use Rattle.sqlite_tables.specs.Lists.{Lists, AreLists, HoldLists, HasTables, HaveRowids, IsBare, member_values, pair_values, shown_member, shown_pair, with_member, no_lists}
use Rattle.sqlite_tables.proofs.Meanings.{member_text, link_text, index_text, put_text, member_is, member_plain, link_is, link_plain}
use Rattle.sqlite_tables.proofs.Meanings.{link_created, index_is, index_plain, put_is, put_plain, add_text, add_is, add_plain, added_is}
use Rattle.sqlite_tables.proofs.InsertLemmas.{went, same_value, cast_int, cast_null, is_free, not_taken}
use Rattle.sqlite_tables.proofs.RowidLemmas.{put_mixes}

-- the table of members, with no row
pub member_made : (old new : State) (count : ℕ) → old.now.schema ≡ empty_schema → Executes member_text [] old new (Ok count) → IsBare member_schema new.now
member_made old new count has h =
    let w = subst (λ t. Writes old new None CreateTable t [] count) member_is.1 (runs_as member_text [] old new empty_schema has CreateTable member_is.0 member_plain count h) in
    let all = went w.changed in
    let first = went all.1 in
    let made = first.1 in
    let both : Ok made.table ≡ Ok member_table = sym made.defined ∙ member_is.2 in
    let same : made.table ≡ member_table = cc in
    let schema : first.0.schema ≡ member_schema = made.is ∙ ap (λ s. created s made.table) has ∙ ap (created empty_schema) same in
    let plain : lacks_sequence first.0.schema ≡ false = ap lacks_sequence schema in
    let now : new.now ≡ first.0 = ap (λ (p : Tally × Database). p.1) (same_value all.2) ∙ same_value (rw plain at first.2) in
    record {
      tables = ap (λ (d : Database). d.schema) now ∙ schema;
      rows = (ap (λ (d : Database). d.trees 0) now ∙ subst (λ s. first.0.trees (next_tree s) ≡ []) has made.empty, tt);
    }

-- the table of links beside it
pub link_made : (old new : State) (count : ℕ) → IsBare member_schema old.now → Executes link_text [] old new (Ok count) → IsBare unindexed_schema new.now
link_made old new count bare h =
    let has = bare.tables in
    let w = subst (λ t. Writes old new None CreateTable t [] count) link_is.1 (runs_as link_text [] old new member_schema has CreateTable link_is.0 link_plain count h) in
    let all = went w.changed in
    let first = went all.1 in
    let made = first.1 in
    let table : Table = record link_table { tree = 0 } in
    let both : Ok made.table ≡ Ok table = sym made.defined ∙ link_is.2 in
    let same : made.table ≡ table = cc in
    let schema : first.0.schema ≡ unindexed_schema = made.is ∙ ap (λ s. created s made.table) has ∙ ap (created member_schema) same ∙ link_created in
    let plain : lacks_sequence first.0.schema ≡ false = ap lacks_sequence schema in
    let now : new.now ≡ first.0 = ap (λ (p : Tally × Database). p.1) (same_value all.2) ∙ same_value (rw plain at first.2) in
    let others = subst (λ (s : Schema). AllByRecursion (λ t. first.0.trees t.tree ≡ old.now.trees t.tree) s.tables) has made.others in
    record {
      tables = ap (λ (d : Database). d.schema) now ∙ schema;
      rows = (
        ap (λ (d : Database). d.trees 0) now ∙ others.0 ∙ bare.rows.0,
        (ap (λ (d : Database). d.trees 1) now ∙ subst (λ s. first.0.trees (next_tree s) ≡ []) has made.empty, tt),
      );
    }

-- and the index
pub index_made : (old new : State) (count : ℕ) → IsBare unindexed_schema old.now → Executes index_text [] old new (Ok count) → IsBare store_schema new.now
index_made old new count bare h =
    let has = bare.tables in
    let db = old.now.trees in
    let w = subst (λ t. Writes old new None (CreateIndex 1) t [] count) index_is.1 (runs_as index_text [] old new unindexed_schema has (CreateIndex 1) index_is.0 index_plain count h) in
    let all = went (subst (λ s. Does old.step_limit (mode_of old) [] (record old.now { schema = s }) index_text None (CreateIndex 1) (Ok (w.tally, new.now))) has w.changed) in
    let made = all.1 in
    let index : Index = record link_by_b { tree = 0 } in
    let both : Ok made.index ≡ Ok index = sym made.defined ∙ index_is.2 in
    let same : made.index ≡ index = cc in
    let schema : all.0.schema ≡ store_schema = made.is ∙ ap (indexed unindexed_schema link_table) same in
    let now : new.now ≡ all.0 = ap (λ (p : Tally × Database). p.1) (same_value all.2) in
    record {
      tables = ap (λ (d : Database). d.schema) now ∙ schema;
      rows = (ap (λ (d : Database). d.trees 0) now ∙ made.rows.0 ∙ bare.rows.0, (ap (λ (d : Database). d.trees 1) now ∙ made.rows.1.0 ∙ bare.rows.1.0, tt));
    }

-- a bare database with all of it holds no lists
pub bare_holds : (db : Database) → IsBare store_schema db → AreLists db no_lists
bare_holds db bare = record {
  tables = bare.tables;
  members = subst (λ (l : List Row). IsPermutation [] (map shown_member l)) (sym bare.rows.0) (IsPermutation-refl []);
  members_ascend = λ i j d low high. absurd (omega arith);
  rowids = subst HaveRowids (sym bare.rows.1.0) (record { numbers = tt; apart = λ id. omega arith });
  pairs = subst (λ (l : List Row). IsPermutation [] (map shown_pair l)) (sym bare.rows.1.0) (IsPermutation-refl []);
  pairs_ascend = λ i j d low high. absurd (omega arith);
}

apart : ◌≡◌ {A = ℕ} 1 0 → ⊥
apart e = cc

-- the row of a member
abbrev row_of : Member → Row
row_of m = Int (pos m.id) ∷ Null ∷ Text m.name ∷ []

abbrev put_edit : Trees → Member → Edit
put_edit db m = edit_of db member_table [] Chosen 0 (row_of m ∷ [])

member_put_is : (db : Trees) (m : Member) → edited db (put_edit db m) ≡ put_row (row_of m) (db 0)
member_put_is db m = rw (cast_null, cast_int (pos m.id)) refl

member_news : (db : Trees) (m : Member) → (put_edit db m).news ≡ row_of m ∷ []
member_news db m = rw (cast_null, cast_int (pos m.id)) refl

member_free_is : (db : Trees) (m : Member) → is_free db (put_edit db m) ≡ (not (is_taken (db 0) (row_of m)) && true)
member_free_is db m = ap (are_fresh (db 0)) (member_news db m)

-- a member with the greatest id stands behind the others
pub member_put : (old new : State) (m : Member) (lists : Lists) (count : ℕ) → AreLists old.now lists → All (λ (other : Member). other.id < m.id) lists.members
    → Executes put_text (Int (pos m.id) ∷ Text m.name ∷ []) old new (Ok count) → AreLists new.now (with_member m lists)
member_put old new m lists count are last h =
    let params = Int (pos m.id) ∷ Text m.name ∷ [] in
    let db = old.now.trees in
    let has = are.tables in
    let command = Insert 0 (Values (col 0 0 ∷ lit Null ∷ col 0 1 ∷ []) 3) in
    let w = runs_as put_text params old new store_schema has command put_is put_plain count h in
    let text = statement_of put_text (understood store_schema put_text) in
    let done = went (subst (λ s. Does old.step_limit (mode_of old) params (record old.now { schema = s }) text None command (Ok (w.tally, new.now))) has w.changed) in
    let now = ap (λ (p : Tally × Database). p.1) (same_value (went (went done.2).2).2) in
    let given = went done.1 in
    let written = went (went given.2).2 in
    let counted = went written.2 in
    let trees : done.0.trees ≡ written.0 = ap (λ (it : Written). it.trees) (same_value counted.2) ∙ same_value counted.1 in
    let step = one_step store_schema _ db written.0 (edit_of db member_table [] Chosen 0 given.0) refl written.1 in
    let fresh : is_free db (edit_of db member_table [] Chosen 0 given.0) ≡ true = step.fresh in
    let free = not_taken _ (sym (member_free_is db m) ∙ sym (ap (λ all. is_free db (edit_of db member_table [] Chosen 0 all)) given.1.1) ∙ fresh) in
    let edit : edited db (edit_of db member_table [] Chosen 0 given.0) ≡ edited db (put_edit db m) = ap (λ all. edited db (edit_of db member_table [] Chosen 0 all)) given.1.1 in
    let all : new.now.trees ≡ written.0 = ap (λ (d : Database). d.trees) now ∙ trees in
    let links : new.now.trees 1 ≡ db 1 = ap (λ (t : Trees). t 1) all ∙ step.tables.1.0 apart in
    record {
      tables = ap (λ (d : Database). d.schema) now;
      members = subst (λ (l : List Row). IsPermutation (map member_values (lists.members ++ m ∷ [])) (map shown_member l)) (sym (ap (λ (t : Trees). t 0) all ∙ step.rows ∙ edit ∙ member_put_is db m))
          (IsPermutation-trans _ (map member_values (m ∷ lists.members)) _ (IsPermutation-map member_values _ _ (IsPermutation-to_front lists.members m))
          (IsPermutation-trans _ (map shown_member (row_of m ∷ db 0)) _ (IsPermutation-cons (member_values m) _ _ are.members)
          (IsPermutation-map shown_member _ _ (put_mixes (row_of m) (db 0) free))));
      members_ascend = all_pairs_push (λ (x y : Member). x.id < y.id) lists.members m are.members_ascend last;
      rowids = subst HaveRowids (sym links) are.rowids;
      pairs = subst (λ (l : List Row). IsPermutation (map pair_values lists.pairs) (map shown_pair l)) (sym links) are.pairs;
      pairs_ascend = are.pairs_ascend;
    }

-- lists that the rows of the tables hold, under the store's schema
holds : (db : Database) (lists : Lists) (trees : Trees) → db.schema ≡ store_schema → db.trees 0 ≡ trees 0 → db.trees 1 ≡ trees 1 → HoldLists trees lists → AreLists db lists
holds db lists trees has members links h = record {
  tables = has;
  members = subst (λ (l : List Row). IsPermutation (map member_values lists.members) (map shown_member l)) (sym members) h.members;
  members_ascend = h.members_ascend;
  rowids = subst HaveRowids (sym links) h.rowids;
  pairs = subst (λ (l : List Row). IsPermutation (map pair_values lists.pairs) (map shown_pair l)) (sym links) h.pairs;
  pairs_ascend = h.pairs_ascend;
}

-- the index is there, and the lists are as they were
pub index_added : (old new : State) (lists : Lists) (count : ℕ) → HasTables old.now.schema → HoldLists old.now.trees lists → Executes add_text [] old new (Ok count) → AreLists new.now lists
index_added old new lists count (inr has) hold h =
    let same = (runs_as add_text [] old new store_schema has Nothing added_is.0 added_is.1 count h).0.0.now_is in
    holds new.now lists old.now.trees (ap (λ (d : Database). d.schema) same ∙ has) (ap (λ (d : Database). d.trees 0) same) (ap (λ (d : Database). d.trees 1) same) hold
index_added old new lists count (inl has) hold h =
    let w = subst (λ t. Writes old new None (CreateIndex 1) t [] count) add_is.1 (runs_as add_text [] old new unindexed_schema has (CreateIndex 1) add_is.0 add_plain count h) in
    let all = went (subst (λ s. Does old.step_limit (mode_of old) [] (record old.now { schema = s }) add_text None (CreateIndex 1) (Ok (w.tally, new.now))) has w.changed) in
    let made = all.1 in
    let index : Index = record link_by_b { tree = 0 } in
    let both : Ok made.index ≡ Ok index = sym made.defined ∙ add_is.2 in
    let same : made.index ≡ index = cc in
    let schema : all.0.schema ≡ store_schema = made.is ∙ ap (indexed unindexed_schema link_table) same in
    let now : new.now ≡ all.0 = ap (λ (p : Tally × Database). p.1) (same_value all.2) in
    holds new.now lists old.now.trees (ap (λ (d : Database). d.schema) now ∙ schema)
    (ap (λ (d : Database). d.trees 0) now ∙ made.rows.0) (ap (λ (d : Database). d.trees 1) now ∙ made.rows.1.0) hold
