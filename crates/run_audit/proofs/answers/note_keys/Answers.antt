use Rattle.std.proofs.Common.{arith}
use Rattle.rows_model.specs.declared.keys.QKey.{QKey}
use Rattle.run_audit.specs.Answers.{noted, renewed}
use Rattle.run_audit.proofs.NoteLemmas.{versions-more}
use Rattle.run_audit.proofs.answers.note_keys.Goals as goal

pub loop-key-preserved : goal.loop-key-preserved
loop-key-preserved c =
    versions-more (λ (key : QKey). renewed key c.args.txn.now c.args.rows.now) c.args.from c.args.keys.now c.loop-key.key-index _
    (λ (key : QKey). noted key c.args.answers.now) (λ (key : QKey). noted key c.loop-key.answers) (λ (key : QKey). noted key c.note_key.new.answers)
    (omega arith) c.requires c.loop-key.invariant c.in_ok-note_key.ensures
