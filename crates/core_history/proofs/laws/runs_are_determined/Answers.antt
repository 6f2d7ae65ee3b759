use Rattle.core_history.proofs.DeterminedLemmas.{runs_determined}
use Rattle.core_history.proofs.laws.runs_are_determined.Goals as goal

pub returns : goal.returns
returns c = runs_determined
