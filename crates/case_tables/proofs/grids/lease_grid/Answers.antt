-- The table as written is the rules' grid, which the check computes.
use Rattle.case_tables.proofs.RulesGrid.{cell-rules}
use Rattle.case_tables.proofs.grids.lease_grid.Goals as goal

pub returns : goal.returns
returns c = cell-rules
