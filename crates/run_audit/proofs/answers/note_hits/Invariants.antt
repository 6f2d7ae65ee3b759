use Rattle.std.proofs.Common.{All, take}
use Rattle.run_audit.specs.Answers.{AreOpening, Keeps, Knows}
use Rattle.run_audit.proofs.answers.note_hits.Given as goal

abbrev pub invariant-loop-step : goal.invariant-loop-step
invariant-loop-step l =
    AreOpening l.opening l.answers × Keeps l.initial.answers l.answers × All (λ step. Knows l.answers step) (take l.step-index l.history)
