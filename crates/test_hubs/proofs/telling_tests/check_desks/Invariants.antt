use Rattle.std.proofs.Common.{length}
use Rattle.test_hubs.proofs.telling_tests.check_desks.Given as goal

abbrev pub decreases-loop-desk : goal.decreases-loop-desk
decreases-loop-desk g l = length l.desks.items
