use Rattle.std.proofs.Common.{ℕ, ◌<◌, subst}
use Rattle.lease_table.specs.Expiry.{NoneDue}
use Rattle.key_shard.specs.Past.{standing}
use Rattle.key_shard.specs.Shards.{past_of}
use Rattle.bound_hub.specs.Ties.{BoundShardView}
use Rattle.bound_hub.proofs.bound_shards.BoundShard.next_due.Goals as goal

pub returns : goal.returns
returns g c =
    subst (λ (v : BoundShardView). (now : ℕ) → now < c.next_due.result → NoneDue now (λ key. standing key (past_of v.shard)))
    c.self.view_is c.next_due.ensures
