-- Where a key lies.
use Rattle.std.proofs.Common.{ℕ, ◌<◌, ◌≤◌, arith}
use Rattle.rows_model.specs.declared.keys.QKey.{QKey}
use Rattle.rows_model.specs.Placement.{shard_of}

-- a key's shard is one of them
pub shard_below : (key : QKey) (count : ℕ) → 1 ≤ count → shard_of key count < count
unfolding shard_of
shard_below key count some = omega arith
