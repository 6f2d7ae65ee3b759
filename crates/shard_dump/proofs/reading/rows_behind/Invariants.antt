use Rattle.std.proofs.Common.{◌-◌, length}
use Rattle.shard_dump.specs.Faults.{BeginsWith}
use Rattle.shard_dump.proofs.reading.rows_behind.Given as goal

abbrev pub invariant-loop-alloc : goal.invariant-loop-alloc
invariant-loop-alloc l = BeginsWith l.text l.head l.rows l.rest

abbrev pub decreases-loop-alloc : goal.decreases-loop-alloc
decreases-loop-alloc l = l.head.rows - length l.rows
