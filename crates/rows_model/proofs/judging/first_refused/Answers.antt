use Rattle.std.proofs.Common.{◌≡◌, true, false, sym, ap, ◌∙◌, rules}
use Rattle.rows_model.specs.declared.changes.Change.{Change}
use Rattle.rows_model.specs.Changes.{applies}
use Rattle.rows_model.proofs.ApplyLemmas.{apply_all_is}
use Rattle.rows_model.proofs.JudgeLemmas.{one_more_applies, first_fails}
use Rattle.rows_model.proofs.judging.first_refused.Goals as goal

pub loop-index-init : goal.loop-index-init
loop-index-init c = (c.args.rows.now, apply_all_is _ c.args.rows.now)

pub returns-then-not-applies_after-clause-first : goal.returns-then-not-applies_after-clause-first
returns-then-not-applies_after-clause-first c =
    let mid = c.loop-index.invariant.0 in
    let e = c.loop-index.invariant.1 in
    let refused : c.applies_after.result ≡ false = search rules in
    first_fails c.args.changes.now c.loop-index.index c.index-changes-index.result c.args.rows.now mid c.loop-index-test.true e
    (ap (λ (change : Change). applies change mid) (sym c.index-changes-index.is) ∙ (sym (c.applies_after.ensures mid e) ∙ refused))

pub loop-index-preserved : goal.loop-index-preserved
loop-index-preserved c =
    let mid = c.loop-index.invariant.0 in
    let e = c.loop-index.invariant.1 in
    let takes : c.applies_after.result ≡ true = search rules in (
      _,
      one_more_applies c.args.changes.now c.loop-index.index c.index-changes-index.result c.args.rows.now mid c.loop-index-test.true e
          (ap (λ (change : Change). applies change mid) (sym c.index-changes-index.is) ∙ (sym (c.applies_after.ensures mid e) ∙ takes)),
    )
