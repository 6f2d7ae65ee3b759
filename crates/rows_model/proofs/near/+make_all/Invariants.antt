use Rattle.std.proofs.Common.{length}
use Rattle.rows_model.proofs.near.+make_all.Given as goal

abbrev pub decreases-make_all : goal.decreases-make_all
decreases-make_all p = length p.changes.now
