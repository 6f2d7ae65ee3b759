use Rattle.key_freshness.proofs.MomentLemmas.{more_is_held, more_is_right}
use Rattle.key_freshness.proofs.laws.more_is_held.Goals as goal

pub returns-clause-held : goal.returns-clause-held
returns-clause-held c = more_is_held

pub returns-clause-right : goal.returns-clause-right
returns-clause-right c = more_is_right
