use Rattle.rows_model.proofs.UntouchedLemmas.{untouched_keeps}
use Rattle.rows_model.proofs.footprints.untouched_keeps_its_answer.Goals as goal

pub returns : goal.returns
returns c = untouched_keeps
