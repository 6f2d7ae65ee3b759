use Rattle.std.proofs.Common.{ℕ, ◌<◌, subst, arith}
use Rattle.lease_table.specs.Expiry.{NoneDue}
use Rattle.key_shard.specs.Past.{standing}
use Rattle.key_shard.specs.Shards.{past_of}
use Rattle.bound_hub.specs.Ties.{BoundShardView}
use Rattle.bound_hub.proofs.bound_shards.BoundShard.next_look.Goals as goal

pub returns-then-rolls-clause-quarantines : goal.returns-then-rolls-clause-quarantines
returns-then-rolls-clause-quarantines g c =
    subst (λ (v : BoundShardView). (now : ℕ) → now < c.min.result → NoneDue now (λ key. standing key (past_of v.shard)))
    c.self.view_is (λ now below. c.next_due.ensures now (omega (arith, below)))

pub returns-else-rolls-clause-quarantines : goal.returns-else-rolls-clause-quarantines
returns-else-rolls-clause-quarantines g c =
    subst (λ (v : BoundShardView). (now : ℕ) → now < c.next_due-else-rolls.result → NoneDue now (λ key. standing key (past_of v.shard)))
    c.self.view_is c.next_due-else-rolls.ensures
