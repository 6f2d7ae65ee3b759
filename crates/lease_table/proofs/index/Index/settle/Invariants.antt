use Rattle.std.specs.BinaryHeap.{heap_len}
use Rattle.lease_table.specs.Index.{IsSound, KeepsEach}
use Rattle.lease_table.proofs.index.Index.settle.Given as goal

-- what was listed still is
abbrev pub invariant-loop-self : goal.invariant-loop-self
invariant-loop-self l = record { sound : IsSound l.self; keeps : KeepsEach l.initial.self l.self }

abbrev pub decreases-loop-self : goal.decreases-loop-self
decreases-loop-self l = heap_len l.self.later
