use Rattle.std.proofs.Common.{◌≡◌, ◌<◌, ◌∙◌, ℕ, ap, sym, arith}
use Rattle.std.specs.Sync.Mutex.{mutex_guard_value}
use Rattle.rows_model.specs.Placement.{shard_of}
use Rattle.rows_model.proofs.PlacementLemmas.{shard_below}
use Rattle.key_shard.specs.Past.{Terms}
use Rattle.key_shard.specs.Shards.{ShardView}
use Rattle.bound_hub.proofs.hubs.BoundHub.lock_of.Goals as goal

pub lock_at-requires : goal.lock_at-requires
lock_at-requires g c =
    let below = shard_below c.args.key.now c.self.inside.count c.self.invariant.0 in
    grind (arith, below, c.shard_number.ensures, c.self.view_is)

pub returns-clause-home : goal.returns-clause-home
returns-clause-home g c =
    let kept : ShardView = (mutex_guard_value c.lock_at.result).shard in
    let below = shard_below c.args.key.now c.self.inside.count c.self.invariant.0 in
    let same : kept.terms.no ≡ shard_of c.args.key.now c.self.inside.count = grind (arith, c.lock_at.ensures.number, c.shard_number.ensures) in
    let few : kept.terms.no < c.self.inside.count = rw same below in
    let counted = ap (λ (terms : Terms). terms.count) c.lock_at.ensures.named ∙ c.self.invariant.5 kept.terms.no few in
    ap (λ (n : ℕ). shard_of c.args.key.now n) counted ∙ sym same
