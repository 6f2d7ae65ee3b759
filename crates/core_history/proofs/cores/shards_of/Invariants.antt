use Rattle.std.proofs.Common.{◌≡◌, ℕ, ◌<◌, [], length, slice_get, Some}
use Rattle.core_history.specs.Cores.{shard_after}
use Rattle.core_history.proofs.cores.shards_of.Given as goal

abbrev pub invariant-loop-no : goal.invariant-loop-no
invariant-loop-no l =
    (length l.shards.items ≡ l.no) × ((place : ℕ) → place < l.no → slice_get l.shards.items place ≡ Some (shard_after l.shape [] place))
