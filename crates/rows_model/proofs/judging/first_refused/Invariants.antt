use Rattle.std.proofs.Common.{◌≡◌, Ok, take}
use Rattle.rows_model.specs.Rows.{Tables}
use Rattle.rows_model.specs.Changes.{apply_all}
use Rattle.rows_model.proofs.judging.first_refused.Given as goal

abbrev pub invariant-loop-index : goal.invariant-loop-index
invariant-loop-index l = (after : Tables) × (apply_all (take l.index l.changes) l.rows ≡ Ok after)
