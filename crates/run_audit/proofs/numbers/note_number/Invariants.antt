use Rattle.std.proofs.Common.{◌≡◌, take, if◌then◌else◌, ◌==◌, ◌&&◌}
use Rattle.rows_model.specs.Changes.{has_key}
use Rattle.run_audit.specs.declared.holds.Hold.{Hold}
use Rattle.run_audit.specs.Numbers.{number_of}
use Rattle.run_audit.proofs.numbers.note_number.Given as goal

abbrev pub invariant-loop-key : goal.invariant-loop-key
invariant-loop-key l =
    (hold : Hold) → number_of hold l.numbers
    ≡ (if (l.sid.number == hold.sid.number) && has_key hold.key (take l.key-index l.keys) then l.number else number_of hold l.initial.numbers)
