use Rattle.std.proofs.Common.{All}
use Rattle.rows_model.specs.Changes.{HasIds}
use Rattle.test_values.proofs.txns.changes_in.Given as goal

-- the ids of the changes so far
abbrev pub invariant-loop : goal.invariant-loop
invariant-loop g l = All HasIds l.changes.items
