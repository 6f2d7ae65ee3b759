use Rattle.std.proofs.lemmas.Result.{IfOk-weaker}
use Rattle.callers.proofs.StoreLemmas.{are-covered}
use Rattle.callers.proofs.stores.commit_covered.Goals as goal

pub returns : goal.returns
returns g c =
    IfOk-weaker c.commit.result _ _ (λ number. are-covered c.footprints_are_exact.ensures _ _ _ _ _ _) c.commit.ensures.admitted
