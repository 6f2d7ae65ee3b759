use Rattle.run_inputs.proofs.WordLemmas.{no_head}
use Rattle.run_inputs.proofs.lines.head_of.Goals as goal

pub returns-in_err-number-clause-none : goal.returns-in_err-number-clause-none
returns-in_err-number-clause-none c =
    rw c.from_residual.ensures (no_head c.args.part _ (λ number h. c.in_err-number.ensures.none number h.2))
