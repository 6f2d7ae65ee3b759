use Rattle.std.proofs.Common.{refl}
use Rattle.callers.proofs.RunLemmas.{fresh-run}
use Rattle.callers.proofs.runs.run_fresh.Goals as goal

pub returns : goal.returns
returns g c = fresh-run c.replay.result.status _ _ _ _ c.replay.result.written c.replay.ensures.ended refl
    (λ some. g.met.K.Telling.always_tells c.replay.result.keeper (c.replay.ensures.started some))
