use Rattle.std.proofs.Common.{◌≡◌, take, pos, neg_ℤ, ◌≤ℤ◌}
use Rattle.rows_model.specs.Delta.{sum_of}
use Rattle.rows_model.proofs.deltas.sum_of.Given as goal

abbrev pub invariant-loop-change : goal.invariant-loop-change
invariant-loop-change l =
    (l.sum ≡ sum_of l.fn.circle l.fn.id (take l.change-index l.changes)) × (neg_ℤ (pos l.change-index) ≤ℤ l.sum) × (l.sum ≤ℤ pos l.change-index)
