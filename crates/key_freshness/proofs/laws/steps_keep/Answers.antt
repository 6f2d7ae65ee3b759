use Rattle.key_freshness.proofs.StepLemmas.{steps_keep}
use Rattle.key_freshness.proofs.TieLemmas.{steps_tie}
use Rattle.key_freshness.proofs.laws.steps_keep.Goals as goal

pub returns-clause-held : goal.returns-clause-held
returns-clause-held c = steps_keep

pub returns-clause-tied : goal.returns-clause-tied
returns-clause-tied c = steps_tie
