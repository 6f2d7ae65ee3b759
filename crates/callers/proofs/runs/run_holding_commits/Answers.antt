use Rattle.callers.proofs.RunLemmas.{hold-run}
use Rattle.callers.proofs.runs.run_holding_commits.Goals as goal

pub returns : goal.returns
returns g c = hold-run _ _ c.run_fresh.result.opening _ _ _ c.run_fresh.ensures
