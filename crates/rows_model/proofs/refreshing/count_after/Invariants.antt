use Rattle.std.proofs.Common.{◌≡◌, drop}
use Rattle.rows_model.specs.Refresh.{count_after}
use Rattle.rows_model.proofs.refreshing.count_after.Given as goal

abbrev pub invariant-loop-change : goal.invariant-loop-change
invariant-loop-change l =
    count_after l.fn.circle l.fn.id (drop l.change-index l.changes) l.count ≡ count_after l.fn.circle l.fn.id l.changes l.fn.old
