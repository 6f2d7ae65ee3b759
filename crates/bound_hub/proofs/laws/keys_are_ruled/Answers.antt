use Rattle.bound_hub.proofs.RuledLemmas.{keys_are_ruled}
use Rattle.bound_hub.proofs.laws.keys_are_ruled.Goals as goal

pub returns : goal.returns
returns c = keys_are_ruled
