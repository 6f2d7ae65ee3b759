use Rattle.std.proofs.Common.{false, ◌≡◌, None}
use Rattle.run_audit.specs.Findings.{IsNumbered}
use Rattle.test_values.proofs.audits.shard_after.Given as goal

-- the events leave the shard's number, of how many it is, and that it is whole
abbrev pub invariant-loop-event : goal.invariant-loop-event
invariant-loop-event g l = IsNumbered l.no l.count l.shard × (l.shard.terms.rolls ≡ false)
