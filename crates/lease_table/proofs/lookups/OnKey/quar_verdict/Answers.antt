use Rattle.std.proofs.Common.{arith}
use Rattle.case_tables.specs.Compatibility.{quarantine}
use Rattle.lease_table.specs.Leases.{holding_of, way_of}
use Rattle.lease_table.proofs.VerdictLemmas.{cell-verdict}
use Rattle.lease_table.proofs.lookups.OnKey.quar_verdict.Goals as goal

pub returns : goal.returns
returns c =
    cell-verdict c.lease_grid.result c.lease_grid.ensures (holding_of c.args.who c.args.now c.args.self.now.reader c.args.self.now.quars.now)
    (quarantine (way_of c.args.mode)) _ _ _ c.row.ensures.row (omega (arith, c.place.ensures)) c.at.ensures
