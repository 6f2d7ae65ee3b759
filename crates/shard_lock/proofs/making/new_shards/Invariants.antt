use Rattle.std.proofs.Common.{ℕ, ◌≡◌, ◌≤◌, All, [], length, Some, slice_get, vec_capacity}
use Rattle.key_shard.specs.Shards.{ShardView}
use Rattle.shard_lock.specs.Names.{IsNamed, terms_at}
use Rattle.shard_lock.proofs.making.new_shards.Given as goal

-- the shards so far are new, named and placed, and there is room for all
abbrev pub invariant-loop-no : goal.invariant-loop-no
invariant-loop-no l =
    (length l.shards.items ≡ l.no) × (l.count ≤ vec_capacity l.shards)
    × All (IsNamed (terms_at l.count l.room l.life l.rolls)) l.shards.items
    × All (λ shard. shard.terms.count ≡ l.count) l.shards.items
    × All (λ shard. shard.history ≡ []) l.shards.items
    × All (λ shard. shard.out ≡ []) l.shards.items
    × ((place : ℕ) (shard : ShardView) → slice_get l.shards.items place ≡ Some shard → shard.terms.no ≡ place)
