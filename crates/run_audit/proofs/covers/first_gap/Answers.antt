use Rattle.std.proofs.Common.{◌≡◌, not, find, None, Some, arith, sym, ap, ◌∙◌}
use Rattle.rows_model.specs.declared.keys.QKey.{QKey}
use Rattle.rows_model.specs.Changes.{footprint}
use Rattle.run_audit.specs.Grants.{holds}
use Rattle.run_audit.proofs.GapLemmas.{covered-more, gap-found, none-found}
use Rattle.run_audit.proofs.covers.first_gap.Goals as goal

pub returns-in-Some : goal.returns-in-Some
returns-in-Some c =
    let grants = c.args.grants.now in
    let commit = c.index-log-place.result in
    let keys : c.as_slice.result.now ≡ footprint commit.txn = c.as_slice.ensures.value ∙ c.in_ok-keys.ensures in
    let found : find (λ (key : QKey). not (holds grants commit.sid key)) (footprint commit.txn) ≡ Some c.in-Some.key =
    ap (find (λ (key : QKey). not (holds grants commit.sid key))) (sym keys) ∙ sym c.first_without.ensures ∙ c.in-Some.is in
    gap-found (holds grants) c.args.log.now c.loop-place.place commit c.in-Some.key (omega arith) c.index-log-place.is c.loop-place.invariant found

pub loop-place-preserved : goal.loop-place-preserved
loop-place-preserved c =
    let grants = c.args.grants.now in
    let commit = c.index-log-place.result in
    let keys : c.as_slice.result.now ≡ footprint commit.txn = c.as_slice.ensures.value ∙ c.in_ok-keys.ensures in
    let none : find (λ (key : QKey). not (holds grants commit.sid key)) (footprint commit.txn) ≡ None =
    ap (find (λ (key : QKey). not (holds grants commit.sid key))) (sym keys)
    ∙ sym c.first_without.ensures ∙ none-found c.first_without.result c.in_default.not-Some in
    covered-more (holds grants) c.args.log.now c.loop-place.place commit (omega arith) c.index-log-place.is c.loop-place.invariant none
