use Rattle.callers.proofs.RunLemmas.{above-floors}
use Rattle.callers.proofs.runs.run_above_floors.Goals as goal

pub returns : goal.returns
returns g c = above-floors c.hits_meet_their_floors.ensures c.replay.result.status _ _ _ _ c.replay.result.written c.replay.ensures.ended
