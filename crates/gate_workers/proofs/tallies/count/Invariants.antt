use Rattle.std.proofs.Common.{◌≡◌, ◌≤◌, take}
use Rattle.gate_workers.specs.Tallies.{count_of}
use Rattle.gate_workers.proofs.tallies.count.Given as goal

abbrev pub invariant-loop-row : goal.invariant-loop-row
invariant-loop-row l =
    (l.count ≡ count_of l.counted (take l.row-index l.rows)) × (l.count ≤ l.row-index)
