use Rattle.std.proofs.Common.{◌≡◌}
use Rattle.expiry_sweeper.specs.Follows.{shards_of}
use Rattle.bound_desk.proofs.turns.turned.Given as goal

-- it is a sweeper of as many shards
abbrev pub invariant-loop : goal.invariant-loop
invariant-loop l = shards_of l.turned ≡ shards_of l.fn.sweeper
