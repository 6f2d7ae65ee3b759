use Rattle.std.proofs.Common.{◌≡◌, ◌-◌, ◌^◌, sum_by, min, take}
use Rattle.gate_workers.specs.Tallies.{agains_in}
use Rattle.gate_workers.proofs.tallies.agains.Given as goal

abbrev pub invariant-loop-row : goal.invariant-loop-row
invariant-loop-row l = l.agains ≡ min (sum_by agains_in (take l.row-index l.rows)) (2 ^ 64 - 1)
