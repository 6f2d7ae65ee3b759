use Rattle.bound_hub.proofs.RuledLemmas.{more_is_known}
use Rattle.bound_hub.proofs.laws.more_is_known.Goals as goal

pub returns : goal.returns
returns c = more_is_known
