use Rattle.std.proofs.Common.{length}
use Rattle.door_workers.proofs.workers.+fn-work_from-join+arg3+work_from.Given as goal

abbrev pub decreases-join+arg3 : goal.decreases-join+arg3
decreases-join+arg3 g l = length l.back.now

abbrev pub decreases-work_from : goal.decreases-work_from
decreases-work_from g l = length l.desks.now
