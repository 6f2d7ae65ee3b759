-- What the insert of a pair makes of the lists.
use Rattle.std.proofs.Common.{◌≡◌, ◌⊎◌, inl, inr, ℕ, ℤ, pos, Bool, true, false, cond, List, [], ◌∷◌, map, insert}
use Rattle.std.proofs.Common.{count_by, get_or, None, Result, Ok, Err, refl, sym, ap, subst, ◌∙◌, arith, true≢false, IsPermutation, not, ◌&&◌}
use Rattle.std.specs.List.{All, list_any}
use Rattle.std.proofs.lemmas.Bool.{or_parts}
use Rattle.std.proofs.lemmas.Bool.Decides.{nat_tests}
use Rattle.std.proofs.lemmas.List.Elements.{All-nil, All-cons}
use Rattle.std.proofs.lemmas.List.Sorted.{IsPermutation-sym, IsPermutation-trans, IsPermutation-cons, IsPermutation-map, IsPermutation-insert}
use Rattle.rows_model.proofs.FitLemmas.{pairs_insert}
use Rattle.sqlite.specs.declared.types.Value.{Value}
use Rattle.sqlite.specs.declared.types.Value.TheVariants.{Int, Null}
use Rattle.sqlite.specs.Order.{Row}
use Rattle.sqlite.specs.Term.{lit, col}
use Rattle.sqlite.specs.Source.TheVariants.{Values}
use Rattle.sqlite.specs.Command.TheVariants.{Insert}
use Rattle.sqlite.specs.Kind.TheVariants as kind
use Rattle.sqlite.specs.Cast.{cast}
use Rattle.sqlite.specs.Ops.{unary}
use Rattle.sqlite.specs.Edit.{Edit, edit_of, edited}
use Rattle.sqlite.specs.Rowids.TheVariants.{Chosen}
use Rattle.sqlite.specs.Does.{Tally, Does}
use Rattle.sqlite.specs.Rows.{Written}
use Rattle.sqlite.specs.Tree.{Trees, put_row}
use Rattle.sqlite.specs.Effect.{Database}
use Rattle.sqlite.specs.Listing.{understood}
use Rattle.sqlite.specs.State.{State, mode_of, Executes}
use Rattle.sqlite.proofs.Callers.{statement_of, runs_as, one_step}
use Rattle.sqlite_rules.specs.Edit.{next_rowid, is_taken, are_fresh, left_by}
use Rattle.sqlite_tables.specs.declared.pairs.Pair.{Pair}
use Rattle.sqlite_tables.specs.Schema.{store_schema, link_table}
use Rattle.sqlite_tables.specs.Lists.{Lists, AreLists, HaveRowids, member_values, pair_values, shown_member, shown_pair, state_number, IsPairBefore, is_pair, is_pair_before, has_pair, with_pair}
use Rattle.sqlite_tables.proofs.RowidLemmas.{put_mixes, rowids_put}
use Rattle.sqlite_tables.proofs.Meanings.{insert_text, insert_is, insert_plain}

either : (b : Bool) (x : Value) → cond b x x ≡ x
either true x = refl
either false x = refl

-- what is written to a column of integers stays
pub cast_null : cast kind.Integer Null ≡ Null
unfolding unary
cast_null = either _ Null

pub cast_int : (n : ℤ) → cast kind.Integer (Int n) ≡ Int n
unfolding unary
cast_int n = either _ (Int n)

-- a part that gave a value did not stop on the way
pub went : {B E R : Type 0} {b : B} {Stops : E → Type 0} → ((stop : E) × Stops stop × (Ok b ≡ Err stop)) ⊎ R → R
went (inl stopped) = absurd (let e = stopped.2 in cc)
went (inr on) = on

pub same_value : {B E : Type 0} {a b : B} → ◌≡◌ {A = Result B E} (Ok a) (Ok b) → a ≡ b
same_value e = cc

pub apart : ◌≡◌ {A = ℕ} 0 1 → ⊥
apart e = cc

-- the new row of a pair: its rowid is the next
abbrev pub row_for : ℤ → ℤ → ℤ → List Row → Row
row_for a b st rows = Int (next_rowid rows) ∷ Int a ∷ Int b ∷ Int st ∷ []

pub record Inserts (a b st : ℤ) (old new : Database) : Type 0 where
  pub tables : new.schema ≡ store_schema
  pub members : new.trees 0 ≡ old.trees 0
  pub free : is_taken (old.trees 1) (row_for a b st (old.trees 1)) ≡ false
  pub links : new.trees 1 ≡ put_row (row_for a b st (old.trees 1)) (old.trees 1)

put_is : (db : Trees) (a b st : ℤ) → edited db (edit_of db link_table [] Chosen 0 ((Null ∷ Int a ∷ Int b ∷ Int st ∷ []) ∷ [])) ≡ put_row (row_for a b st (db 1)) (db 1)
put_is db a b st = rw (cast_null, cast_int a, cast_int b, cast_int st) refl

-- whether the rowids of new rows are free
abbrev pub is_free : Trees → Edit → Bool
is_free db edit = are_fresh (left_by db edit) edit.news

news_are : (db : Trees) (a b st : ℤ) → (edit_of db link_table [] Chosen 0 ((Null ∷ Int a ∷ Int b ∷ Int st ∷ []) ∷ [])).news ≡ row_for a b st (db 1) ∷ []
news_are db a b st = rw (cast_null, cast_int a, cast_int b, cast_int st) refl

free_is : (db : Trees) (a b st : ℤ) → is_free db (edit_of db link_table [] Chosen 0 ((Null ∷ Int a ∷ Int b ∷ Int st ∷ []) ∷ [])) ≡ (not (is_taken (db 1) (row_for a b st (db 1))) && true)
free_is db a b st = ap (are_fresh (db 1)) (news_are db a b st)

-- a row whose rowid is free is not taken
pub not_taken : (taken : Bool) → (not taken && true) ≡ true → taken ≡ false
not_taken true h = absurd (true≢false (sym h))
not_taken false h = refl

pub inserts : (old new : State) (a b st : ℤ) (count : ℕ) → old.now.schema ≡ store_schema → Executes insert_text (Int a ∷ Int b ∷ Int st ∷ []) old new (Ok count)
    → Inserts a b st old.now new.now
inserts old new a b st count has h =
    let params = Int a ∷ Int b ∷ Int st ∷ [] in
    let db = old.now.trees in
    let command = Insert 1 (Values (lit Null ∷ col 0 0 ∷ col 0 1 ∷ col 0 2 ∷ []) 4) in
    let w = runs_as insert_text params old new store_schema has command insert_is insert_plain count h in
    let text = statement_of insert_text (understood store_schema insert_text) in
    let done = went (subst (λ s. Does old.step_limit (mode_of old) params (record old.now { schema = s }) text None command (Ok (w.tally, new.now))) has w.changed) in
    let now = ap (λ (p : Tally × Database). p.1) (same_value (went (went done.2).2).2) in
    let given = went done.1 in
    let written = went (went given.2).2 in
    let counted = went written.2 in
    let trees : done.0.trees ≡ written.0 = ap (λ (it : Written). it.trees) (same_value counted.2) ∙ same_value counted.1 in
    let step = one_step store_schema _ db written.0 (edit_of db link_table [] Chosen 0 given.0) refl written.1 in
    let edit : edited db (edit_of db link_table [] Chosen 0 given.0) ≡ edited db (edit_of db link_table [] Chosen 0
    ((Null ∷ Int a ∷ Int b ∷ Int st ∷ []) ∷ [])) = ap (λ all. edited db (edit_of db link_table [] Chosen 0 all)) given.1.1 in
    let all : new.now.trees ≡ written.0 = ap (λ (d : Database). d.trees) now ∙ trees in
    let fresh : is_free db (edit_of db link_table [] Chosen 0 given.0) ≡ true = step.fresh in
    record {
      tables = ap (λ (d : Database). d.schema) now;
      members = ap (λ (t : Trees). t 0) all ∙ step.tables.0 apart;
      free = not_taken _ (sym (free_is db a b st) ∙ sym (ap (λ all. is_free db (edit_of db link_table [] Chosen 0 all)) given.1.1) ∙ fresh);
      links = ap (λ (t : Trees). t 1) all ∙ step.rows ∙ edit ∙ put_is db a b st;
    }

stops : (new x y : Pair) → IsPairBefore x y → is_pair_before new x ≡ false → is_pair_before new y ≡ false
stops new x y before past = grind (arith, nat_tests)

stands_before : (new x : Pair) → is_pair_before new x ≡ true → IsPairBefore x new
stands_before new x h = grind (arith, nat_tests)

stands_behind : (new x : Pair) → is_pair new.a new.b x ≡ false → is_pair_before new x ≡ false → IsPairBefore new x
stands_behind new x other h = grind (arith, nat_tests)

none_passes : {X : Type 0} (p : X → Bool) (xs : List X) → list_any p xs ≡ false → All (λ x. p x ≡ false) xs
none_passes p [] none = All-nil (λ x. p x ≡ false)
none_passes p (x ∷ xs) none = All-cons (λ y. p y ≡ false) x xs (or_parts _ _ none).0 (none_passes p xs (or_parts _ _ none).1)

-- the pair stands in its place
pub inserted : (old new : Database) (pair : Pair) (lists : Lists) → AreLists old lists → has_pair pair.a pair.b lists ≡ false
    → Inserts (pos pair.a) (pos pair.b) (pos (state_number pair.state)) old new → AreLists new (with_pair pair lists)
inserted old new pair lists are free h =
    let rows = old.trees 1 in
    let row = row_for (pos pair.a) (pos pair.b) (pos (state_number pair.state)) rows in
    let place = count_by (is_pair_before pair) lists.pairs in
    record {
      tables = h.tables;
      members = subst (λ (l : List Row). IsPermutation (map member_values lists.members) (map shown_member l)) (sym h.members) are.members;
      members_ascend = are.members_ascend;
      rowids = subst HaveRowids (sym h.links) (rowids_put row rows are.rowids refl h.free);
      pairs = subst (λ (l : List Row). IsPermutation (map pair_values (insert lists.pairs place pair)) (map shown_pair l)) (sym h.links)
          (IsPermutation-trans _ (map pair_values (pair ∷ lists.pairs)) _
          (IsPermutation-sym _ _ (IsPermutation-map pair_values _ _ (IsPermutation-insert lists.pairs place pair)))
          (IsPermutation-trans _ (map shown_pair (row ∷ rows)) _ (IsPermutation-cons (pair_values pair) _ _ are.pairs) (IsPermutation-map shown_pair _ _ (put_mixes row rows h.free))));
      pairs_ascend = pairs_insert IsPairBefore (is_pair_before pair) pair lists.pairs are.pairs_ascend (stops pair)
          (λ k d low. stands_before pair (get_or lists.pairs k d)) (λ k d low. stands_behind pair (get_or lists.pairs k d) (none_passes (is_pair pair.a pair.b) lists.pairs free k d low));
    }
