use Rattle.std.proofs.lemmas.Grind.{common_steps}
use Rattle.std.proofs.Common.{arith}
use Rattle.rows_model.specs.Shift.{shifted}
use Rattle.rows_model.proofs.shifts.shift.Goals as goal

pub returns-in_err-number_of : goal.returns-in_err-number_of
unfolding shifted
returns-in_err-number_of c = grind (arith, common_steps)

pub returns : goal.returns
unfolding shifted
returns c = grind (arith, common_steps)
