use Rattle.std.proofs.Common.{length}
use Rattle.test_hubs.proofs.telling_desks.TellingDesk.into_marks.Given as goal

abbrev pub decreases-loop-call : goal.decreases-loop-call
decreases-loop-call g l = length l.calls.items
