use Rattle.std.proofs.Common.{◌≡◌}
use Rattle.door_workers.proofs.workers.work.Given as goal

-- the worker has its part, and serves no line
abbrev pub invariant-loop : goal.invariant-loop
invariant-loop g l = (l.mine.parts ≡ l.initial.mine.parts) × (l.mine.amount ≡ 0)
