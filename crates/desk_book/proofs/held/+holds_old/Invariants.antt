use Rattle.std.proofs.Common.{length}
use Rattle.desk_book.proofs.held.+holds_old.Given as goal

abbrev pub decreases-holds_old : goal.decreases-holds_old
decreases-holds_old l = length l.held.now
