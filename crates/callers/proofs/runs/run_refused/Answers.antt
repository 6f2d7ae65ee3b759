use Rattle.callers.proofs.RunLemmas.{same_of_usage}
use Rattle.callers.proofs.SaveLemmas.{same_files_of_usage}
use Rattle.callers.proofs.runs.run_refused.Goals as goal

pub returns-clause-same : goal.returns-clause-same
returns-clause-same g c = λ is. (same_of_usage c.run.ensures.ended.read c.run.result.status _ c.run.ensures.ended.ended_as is).1

pub returns-clause-files : goal.returns-clause-files
returns-clause-files g c = λ is.
    same_files_of_usage c.run.ensures.saves.read c.run.result.status _ _ _ _ c.run.ensures.saves.saved is
