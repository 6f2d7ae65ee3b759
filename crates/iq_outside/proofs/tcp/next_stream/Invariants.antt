use Rattle.std.proofs.Common.{◌≤◌}
use Rattle.iq_outside.proofs.tcp.next_stream.Given as goal

-- no pause is longer than the longest
abbrev pub invariant-loop : goal.invariant-loop
invariant-loop g l = l.pause ≤ 100
