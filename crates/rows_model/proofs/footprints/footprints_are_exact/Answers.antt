use Rattle.rows_model.proofs.FootprintLemmas.{footprints_are_exact_is}
use Rattle.rows_model.proofs.footprints.footprints_are_exact.Goals as goal

pub returns : goal.returns
returns c = footprints_are_exact_is
