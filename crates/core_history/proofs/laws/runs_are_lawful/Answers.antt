use Rattle.core_history.proofs.GrantLemmas.{runs_are_lawful_is}
use Rattle.core_history.proofs.laws.runs_are_lawful.Goals as goal

-- src/laws.rt:7:1
pub returns : goal.returns
returns c = runs_are_lawful_is
