use Rattle.std.proofs.Common.{◌≡◌, drop, fold}
use Rattle.rows_model.specs.Refresh.{named}
use Rattle.rows_model.proofs.refreshing.name_after.Given as goal

abbrev pub invariant-loop-change : goal.invariant-loop-change
invariant-loop-change l = fold (named l.fn.id) l.name (drop l.change-index l.changes) ≡ fold (named l.fn.id) l.fn.old l.changes
