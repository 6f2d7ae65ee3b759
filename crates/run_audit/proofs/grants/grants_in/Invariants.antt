use Rattle.std.proofs.Common.{◌≡◌, take, All}
use Rattle.std.specs.List.{list_any}
use Rattle.key_shard.specs.Answers.{Legal}
use Rattle.run_audit.specs.declared.holds.Hold.{Hold}
use Rattle.run_audit.specs.Findings.{histories_in}
use Rattle.run_audit.specs.Grants.{has_hold, grants_it}
use Rattle.run_audit.proofs.grants.grants_in.Given as goal

abbrev pub invariant-loop-shard : goal.invariant-loop-shard
invariant-loop-shard l =
    ((hold : Hold) → has_hold hold l.grants ≡ list_any (grants_it hold) (histories_in (take l.shard-index l.shards)))
    × All (λ shard. Legal shard.terms shard.history) (take l.shard-index l.shards)
