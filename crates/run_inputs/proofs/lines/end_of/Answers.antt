use Rattle.run_inputs.proofs.WordLemmas.{no_end, some_part}
use Rattle.run_inputs.proofs.lines.end_of.Goals as goal

pub returns-in-Some-clause-none : goal.returns-in-Some-clause-none
returns-in-Some-clause-none c = rw c.in-Some.is (no_end _ (some_part 32 c.in-Some.field-0.now))
