use Rattle.run_inputs.proofs.WordLemmas.{no_job}
use Rattle.run_inputs.proofs.jobs.job_of.Goals as goal

pub returns-in_default-clause-none : goal.returns-in_default-clause-none
returns-in_default-clause-none c = rw c.in_default.is (no_job c.args.task)
