use Rattle.std.proofs.Common.{◌≡◌, ℕ, ◌++◌, ◌∷◌, [], List, sym, ap, ◌∙◌}
use Rattle.rows_model.specs.declared.keys.QKey.{QKey}
use Rattle.run_audit.specs.Answers.{version, renewed}
use Rattle.run_audit.proofs.ThroughLemmas.{noted-through}
use Rattle.run_audit.proofs.answers.note_key.Goals as goal

pub returns-in_ok-push : goal.returns-in_ok-push
returns-in_ok-push c =
    let txn = c.args.txn.now in
    let rows = c.args.rows.now in
    let key = c.args.key.now in
    let old = c.in-Some.versions.now.items in
    let value : c.in_ok-value.value ≡ renewed key txn rows old = c.in_ok-value.ensures ∙ ap (renewed key txn rows) c.as_slice.ensures.value in
    noted-through key c.args.answers.now (c.get_mut.follows.lender c.push.new.self) c.in-Some.versions.now c.push.new.self c.args.from
    (λ (other : QKey). renewed other txn rows)
    (sym c.in-Some.ensures.value) (c.in_ok-push.ensures.items
    ∙ ap (λ (v : List ℕ). old ++ version c.args.from v ∷ []) value) (c.get_mut.follows.holds c.push.new.self)
