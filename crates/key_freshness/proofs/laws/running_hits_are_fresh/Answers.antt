use Rattle.key_freshness.proofs.RunningLemmas.{running_hit_is_fresh}
use Rattle.key_freshness.proofs.laws.running_hits_are_fresh.Goals as goal

pub returns : goal.returns
returns c = running_hit_is_fresh
