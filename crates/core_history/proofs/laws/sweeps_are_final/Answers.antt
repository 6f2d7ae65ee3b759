use Rattle.core_history.proofs.FinalLemmas.{sweeps_final}
use Rattle.core_history.proofs.laws.sweeps_are_final.Goals as goal

pub returns : goal.returns
returns c = sweeps_final
