use Rattle.std.proofs.Common.{length}
use Rattle.desk_book.proofs.held.+holds_shift.Given as goal

abbrev pub decreases-holds_shift : goal.decreases-holds_shift
decreases-holds_shift l = length l.held.now
