use Rattle.callers.proofs.RunLemmas.{covered-run}
use Rattle.callers.proofs.runs.run_covered.Goals as goal

pub returns : goal.returns
returns g c = covered-run c.replay.result.status _ _ _ _ c.replay.result.written c.replay.ensures.ended
