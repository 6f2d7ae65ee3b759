use Rattle.std.proofs.Common.{take}
use Rattle.shard_dump.specs.Touches.{TellsTouches}
use Rattle.shard_dump.proofs.touches.LastTouches.of.Given as goal

abbrev pub invariant-loop-place : goal.invariant-loop-place
invariant-loop-place l = TellsTouches (take l.place l.log) l.touches
