use Rattle.key_freshness.proofs.MomentLemmas.{known_then}
use Rattle.key_freshness.proofs.laws.known_then.Goals as goal

pub returns : goal.returns
returns c = known_then
