use Rattle.std.proofs.Common.{sym, ◌∙◌}
use Rattle.run_inputs.proofs.LineLemmas.{no_place}
use Rattle.run_inputs.proofs.stages.Progress.said_by.Goals as goal

pub returns-in_err-said-clause-none : goal.returns-in_err-said-clause-none
returns-in_err-said-clause-none c = rw c.from_residual.ensures (λ said h. c.in_err-said.ensures.none said h.words)

pub returns-else-has_place_for-clause-none : goal.returns-else-has_place_for-clause-none
returns-else-has_place_for-clause-none c =
    no_place c.args.self.now c.args.line.now c.in_ok-said.said c.in_ok-said.ensures.found
    (sym c.has_place_for.ensures ∙ c.if-has_place_for.false)
