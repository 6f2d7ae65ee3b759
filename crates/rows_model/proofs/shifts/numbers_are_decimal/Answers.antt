use Rattle.rows_model.proofs.ShiftLemmas.{numbers_are_decimal_is}
use Rattle.rows_model.proofs.shifts.numbers_are_decimal.Goals as goal

pub returns : goal.returns
returns c = numbers_are_decimal_is
