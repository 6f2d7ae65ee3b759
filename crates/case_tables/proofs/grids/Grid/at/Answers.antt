use Rattle.std.proofs.Common.{arith}
use Rattle.case_tables.proofs.GridLemmas.{cell-within}
use Rattle.case_tables.proofs.grids.Grid.at.Goals as goal

pub returns : goal.returns
returns g c =
    rw (← c.self.view_is) (cell-within c.self.inside.cells g.row.C c.args.r c.args.c _ c.self.invariant (omega arith) c.requires.column)
