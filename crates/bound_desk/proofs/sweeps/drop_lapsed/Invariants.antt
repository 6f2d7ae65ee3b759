use Rattle.bound_desk.specs.Swept.{StaysButLeases}
use Rattle.bound_desk.proofs.sweeps.drop_lapsed.Given as goal

-- only leases to read were dropped so far
abbrev pub invariant-loop-count : goal.invariant-loop-count
invariant-loop-count g l = record { stays : StaysButLeases l.fn.shard l.shard }
