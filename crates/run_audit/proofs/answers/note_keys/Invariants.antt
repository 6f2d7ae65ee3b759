use Rattle.std.proofs.Common.{◌≡◌, take, if◌then◌else◌}
use Rattle.rows_model.specs.declared.keys.QKey.{QKey}
use Rattle.rows_model.specs.Changes.{has_key}
use Rattle.run_audit.specs.Answers.{noted, pushed, renewed}
use Rattle.run_audit.proofs.answers.note_keys.Given as goal

abbrev pub invariant-loop-key : goal.invariant-loop-key
invariant-loop-key l =
    (key : QKey) → noted key l.answers
    ≡ (if has_key key (take l.key-index l.keys) then pushed l.from (renewed key l.txn l.rows) (noted key l.initial.answers) else noted key l.initial.answers)
