use Rattle.callers.proofs.WriteLemmas.{serve-run}
use Rattle.callers.proofs.runs.run_serving_writes.Goals as goal

pub returns : goal.returns
returns g c = serve-run c.replay.result.status _ _ _ _ c.replay.result.written c.replay.ensures.ended
    (λ some. g.met.K.Telling.always_tells c.replay.result.keeper (c.replay.ensures.started some))
