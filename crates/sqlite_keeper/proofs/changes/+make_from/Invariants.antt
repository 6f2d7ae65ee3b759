use Rattle.std.proofs.Common.{length}
use Rattle.sqlite_keeper.proofs.changes.+make_from.Given as goal

abbrev pub decreases-make_from : goal.decreases-make_from
decreases-make_from g p = length p.changes.now
