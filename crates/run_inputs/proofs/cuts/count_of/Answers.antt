use Rattle.run_inputs.proofs.WordLemmas.{no_count}
use Rattle.run_inputs.proofs.cuts.count_of.Goals as goal

pub returns-in_err-count-clause-none : goal.returns-in_err-count-clause-none
returns-in_err-count-clause-none c =
    rw (c.from_residual.ensures, c.in-Some.is) (no_count c.in-Some.field-0.now (rw c.in-Some.is at c.in_err-count.ensures.none))
