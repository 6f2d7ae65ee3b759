use Rattle.core_history.proofs.GoingLemmas.{runs_go_on}
use Rattle.core_history.proofs.laws.runs_go_on.Goals as goal

pub returns : goal.returns
returns c = runs_go_on
