use Rattle.core_history.proofs.FreshRuns.{runs_fresh}
use Rattle.core_history.proofs.laws.runs_are_fresh.Goals as goal

pub returns : goal.returns
returns c = runs_fresh
