use Rattle.key_freshness.proofs.MomentLemmas.{stored_is_held, stored_is_latest, stored_is_right}
use Rattle.key_freshness.proofs.laws.stored_is_held.Goals as goal

pub returns-clause-held : goal.returns-clause-held
returns-clause-held c = stored_is_held

pub returns-clause-latest : goal.returns-clause-latest
returns-clause-latest c = stored_is_latest

pub returns-clause-right : goal.returns-clause-right
returns-clause-right c = stored_is_right
