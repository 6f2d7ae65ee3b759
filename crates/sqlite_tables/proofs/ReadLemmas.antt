-- What each query shows, by its text.
use Rattle.std.proofs.Common.{◌≡◌, ℕ, pos, ◌==◌, List, [], ◌∷◌, map, find, Option, Some, None, option_map, refl, ◌∙◌}
use Rattle.std.specs.Option.{option_to_list}
use Rattle.rows_model.specs.declared.rows.Member.{Member}
use Rattle.sqlite.specs.declared.types.Value.TheVariants.{Int, Text, Null}
use Rattle.sqlite.specs.Order.{Row, column}
use Rattle.sqlite.specs.Term.{col}
use Rattle.sqlite.specs.State.{State, Shown}
use Rattle.sqlite.proofs.Callers.{reads_as}
use Rattle.sqlite_tables.specs.Lists.{Lists, AreLists, pair_values, pairs_from, pairs_to, pairs_between, name_in, name_rows}
use Rattle.sqlite_tables.specs.Schema.{store_schema}
use Rattle.sqlite_tables.proofs.Meanings.{name_text, from_text, to_text, between_text, name_is, from_is, to_is, between_is, name_plain, from_plain, to_plain, between_plain}
use Rattle.sqlite_tables.proofs.PairLemmas as pairs
use Rattle.sqlite_tables.proofs.NameLemmas as names

module _ (old new : State) (id : ℕ) (lists : Lists) (are : AreLists old.now lists) (rows : List Row) where
  pub from_shown : Shown from_text (Int (pos id) ∷ []) old new rows → rows ≡ map pair_values (pairs_from id lists)
  from_shown h =
      let read = reads_as from_text (Int (pos id) ∷ []) old new store_schema are.tables _ from_is from_plain.0 from_plain.1 rows h in
      pairs.answered 0 id (λ r. refl) (λ pair. pair.a) (λ pair. refl) lists.pairs are.pairs_ascend Null _ rows are.pairs (read.answer Null)

  pub to_shown : Shown to_text (Int (pos id) ∷ []) old new rows → rows ≡ map pair_values (pairs_to id lists)
  to_shown h =
      let read = reads_as to_text (Int (pos id) ∷ []) old new store_schema are.tables _ to_is to_plain.0 to_plain.1 rows h in
      pairs.answered 1 id (λ r. refl) (λ pair. pair.b) (λ pair. refl) lists.pairs are.pairs_ascend Null _ rows are.pairs (read.answer Null)

  pub name_shown : Shown name_text (Int (pos id) ∷ []) old new rows → rows ≡ name_rows (name_in id lists)
  name_shown h =
      let read = reads_as name_text (Int (pos id) ∷ []) old new store_schema are.tables _ name_is name_plain.0 name_plain.1 rows h in
      names.answered id [] (col 1 2 ∷ []) (λ values. column values 1 ∷ []) (λ r. refl) lists.members are.members_ascend Null _ rows are.members (read.answer Null)
      ∙ rows_of (find (λ (m : Member). m.id == id) lists.members)
    where
      rows_of : (found : Option Member) → map (λ (m : Member). Text m.name ∷ []) (option_to_list found) ≡ name_rows (option_map (λ (m : Member). m.name) found)
      rows_of None = refl
      rows_of (Some m) = refl

pub between_shown : (old new : State) (a b : ℕ) (lists : Lists) → AreLists old.now lists → (rows : List Row)
    → Shown between_text (Int (pos a) ∷ Int (pos b) ∷ []) old new rows → rows ≡ map pair_values (pairs_between a b lists)
between_shown old new a b lists are rows h =
    let read = reads_as between_text (Int (pos a) ∷ Int (pos b) ∷ []) old new store_schema are.tables _ between_is between_plain.0 between_plain.1 rows h in
    pairs.answered_both a b lists.pairs are.pairs_ascend Null _ rows are.pairs (read.answer Null)
