use Rattle.key_freshness.proofs.HitLemmas.{hit_is_fresh, lacking_stands}
use Rattle.key_freshness.proofs.laws.hits_are_fresh.Goals as goal

pub returns-clause-fresh : goal.returns-clause-fresh
returns-clause-fresh c = hit_is_fresh

pub returns-clause-lacking : goal.returns-clause-lacking
returns-clause-lacking c = lacking_stands
