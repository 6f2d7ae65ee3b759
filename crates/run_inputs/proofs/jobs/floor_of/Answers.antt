use Rattle.run_inputs.proofs.WordLemmas.{no_floor}
use Rattle.run_inputs.proofs.jobs.floor_of.Goals as goal

pub returns-in_err-floor-clause-none : goal.returns-in_err-floor-clause-none
returns-in_err-floor-clause-none c =
    rw (c.from_residual.ensures, c.in-Some.is, c.cut.ensures.parts) (no_floor c.cut.result.0.now _ c.in_err-floor.ensures.none)
