use Rattle.std.proofs.Common.{◌-◌, length}
use Rattle.cache_file.specs.Reading.{BeginsWith}
use Rattle.cache_file.proofs.reading.dumps_in.Given as goal

abbrev pub invariant-loop-alloc : goal.invariant-loop-alloc
invariant-loop-alloc l = BeginsWith l.count l.body l.dumps.items l.rest

abbrev pub decreases-loop-alloc : goal.decreases-loop-alloc
decreases-loop-alloc l = l.count - length l.dumps.items
