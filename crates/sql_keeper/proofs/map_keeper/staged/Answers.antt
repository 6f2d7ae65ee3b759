use Rattle.std.proofs.Common.{ℕ, ◌≡◌, List, All, Option, Some, sym, ap, ◌∙◌, is_some}
use Rattle.std.proofs.lemmas.Option.{same_Some}
use Rattle.rows_model.specs.declared.keys.QKey.{QKey}
use Rattle.rows_model.specs.declared.changes.Change.{Change}
use Rattle.rows_model.specs.Rows.{Tables, Fit}
use Rattle.rows_model.specs.Query.{answer}
use Rattle.rows_model.specs.Refresh.{refreshed}
use Rattle.rows_model.specs.Changes.{HasIds}
use Rattle.rows_model.specs.ApplyFaults.{AllApply}
use Rattle.rows_model.proofs.RefreshLawLemmas.{refreshed_is}
use Rattle.sql_keeper.proofs.map_keeper.staged.Goals as goal

-- what changes that all apply make of the answer before them is the answer after them
after_is : (key : QKey) (changes : List Change) (rows : Tables) (before : List ℕ) (after : Option (List ℕ))
    → Fit rows → All HasIds changes → (all : AllApply changes rows)
    → before ≡ answer key rows → after ≡ refreshed key before changes → after ≡ Some (answer key all.0)
after_is key changes rows before after fit ids all asked made =
    made ∙ ap (λ (old : List ℕ). refreshed key old changes) asked ∙ refreshed_is key changes rows all.0 fit ids all.1

pub unwrap-requires : goal.unwrap-requires
unwrap-requires c =
    let judged = c.in_default.ensures in
    ap is_some (after_is c.args.key.now c.args.txn.now c.args.rows.now _ _ judged.fit judged.ids judged.none
    c.in_ok-before.ensures c.in_ok-refresh.ensures)

pub returns-clause-answers : goal.returns-clause-answers
returns-clause-answers c =
    let judged = c.in_default.ensures in
    let is = after_is c.args.key.now c.args.txn.now c.args.rows.now _ _ judged.fit judged.ids judged.none
    c.in_ok-before.ensures c.in_ok-refresh.ensures in
    (judged.none.0, judged.none.1, same_Some _ _ (sym c.unwrap.ensures ∙ is))
