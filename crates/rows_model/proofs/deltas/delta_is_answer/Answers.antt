use Rattle.rows_model.proofs.DeltaLemmas.{delta_shifts}
use Rattle.rows_model.proofs.deltas.delta_is_answer.Goals as goal

pub returns : goal.returns
returns c = delta_shifts
