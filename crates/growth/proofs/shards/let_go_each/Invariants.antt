use Rattle.std.proofs.Common.{length}
use Rattle.growth.proofs.shards.let_go_each.Given as goal

abbrev pub decreases-loop-grant : goal.decreases-loop-grant
decreases-loop-grant l = length l.left.items
