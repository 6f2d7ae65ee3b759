use Rattle.expiry_sweeper.proofs.SweepLemmas.{ends_before_drops}
use Rattle.expiry_sweeper.proofs.laws.ends_before_drops.Goals as goal

pub returns : goal.returns
returns c = ends_before_drops
