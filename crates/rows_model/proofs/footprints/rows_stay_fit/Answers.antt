use Rattle.rows_model.proofs.StayFitLemmas.{rows_stay}
use Rattle.rows_model.proofs.footprints.rows_stay_fit.Goals as goal

pub returns : goal.returns
returns c = rows_stay
