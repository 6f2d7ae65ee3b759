use Rattle.std.proofs.Common.{length}
use Rattle.rows_model.proofs.near.+make_room.Given as goal

abbrev pub decreases-make_room : goal.decreases-make_room
decreases-make_room p = length p.changes.now
