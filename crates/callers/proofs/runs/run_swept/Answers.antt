use Rattle.callers.proofs.DropLemmas.{swept-run}
use Rattle.callers.proofs.runs.run_swept.Goals as goal

pub returns : goal.returns
returns g c = swept-run c.sweeps_are_final.ensures c.replay.result.status _ _ _ _ c.replay.result.written c.replay.ensures.ended
