use Rattle.std.proofs.Common.{◌≡◌, ◌-◌, map}
use Rattle.std.specs.List.{range_with_len}
use Rattle.rows_model.specs.Rows.{start_member}
use Rattle.rows_model.proofs.rows.Rows.start.Given as goal

abbrev pub invariant-loop-id : goal.invariant-loop-id
invariant-loop-id l = l.rows.items ≡ map start_member (range_with_len 1 (l.id - 1))
