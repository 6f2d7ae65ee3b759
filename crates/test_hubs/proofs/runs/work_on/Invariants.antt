use Rattle.std.proofs.Common.{◌≡◌}
use Rattle.test_hubs.proofs.runs.work_on.Given as goal

-- the pass is of the hub's word
abbrev pub invariant-loop-worker : goal.invariant-loop-worker
invariant-loop-worker g l = l.pass.word ≡ g.H.BoundName.word
