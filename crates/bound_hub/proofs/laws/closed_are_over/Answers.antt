use Rattle.bound_hub.proofs.GrantLemmas.{closed_are_over}
use Rattle.bound_hub.proofs.laws.closed_are_over.Goals as goal

pub returns : goal.returns
returns c = closed_are_over
