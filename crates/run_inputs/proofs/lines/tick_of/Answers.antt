use Rattle.run_inputs.proofs.WordLemmas.{no_tick}
use Rattle.run_inputs.proofs.lines.tick_of.Goals as goal

pub returns-in_err-ticks-clause-none : goal.returns-in_err-ticks-clause-none
returns-in_err-ticks-clause-none c = rw c.from_residual.ensures (no_tick _ c.in_err-ticks.ensures.none)
