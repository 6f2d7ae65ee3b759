use Rattle.callers.proofs.RunLemmas.{run-at}
use Rattle.callers.proofs.runs.run_at.Goals as goal

pub returns : goal.returns
returns g c = run-at c.replay.result.status _ _ _ _ c.replay.result.written c.replay.ensures.ended
