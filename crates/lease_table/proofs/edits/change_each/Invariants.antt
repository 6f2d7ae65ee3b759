use Rattle.std.proofs.Common.{◌≡◌, ◌++◌, take, drop, map}
use Rattle.lease_table.specs.Standing.{changed}
use Rattle.lease_table.proofs.edits.change_each.Given as goal

-- those so far are changed, and the others are as they were
abbrev pub invariant-loop-quar : goal.invariant-loop-quar
invariant-loop-quar l =
    l.quar-items ≡ map (changed l.change l.token) (take l.quar-index l.fn.quars.items) ++ drop l.quar-index l.fn.quars.items
