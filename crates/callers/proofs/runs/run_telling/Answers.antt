use Rattle.callers.proofs.RunLemmas.{run-at, run-telling}
use Rattle.callers.proofs.runs.run_telling.Goals as goal

pub returns : goal.returns
returns g c = run-telling c.replay.result.opening (g.K.Keeper.rows c.replay.result.keeper) _ (run-at c.replay.result.status _ _ _ _ c.replay.result.written c.replay.ensures.ended)
    (λ some. g.met.K.Telling.always_tells c.replay.result.keeper (c.replay.ensures.started some))
