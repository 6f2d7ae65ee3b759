use Rattle.bound_hub.proofs.GrantLemmas.{grants_are_seen}
use Rattle.bound_hub.proofs.laws.grants_are_seen.Goals as goal

pub returns : goal.returns
returns c = grants_are_seen
