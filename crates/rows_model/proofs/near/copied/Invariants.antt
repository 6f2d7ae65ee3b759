use Rattle.std.proofs.Common.{take}
use Rattle.std.specs.List.{AllZip}
use Rattle.rows_model.specs.NearSteps.{IsSame}
use Rattle.rows_model.proofs.near.copied.Given as goal

abbrev pub invariant-loop-one : goal.invariant-loop-one
invariant-loop-one l = AllZip IsSame (take l.one-index l.near) l.copy.items
