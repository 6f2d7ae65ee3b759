use Rattle.std.proofs.Common.{refl}
use Rattle.case_tables.specs.Compatibility.{read}
use Rattle.lease_table.specs.Leases.{holding_of}
use Rattle.lease_table.proofs.VerdictLemmas.{cell-verdict}
use Rattle.lease_table.proofs.lookups.OnKey.read_verdict.Goals as goal

pub returns : goal.returns
returns c =
    cell-verdict c.lease_grid.result c.lease_grid.ensures
    (holding_of c.args.who c.args.now c.args.self.now.reader c.args.self.now.quars.now) read _ _ _ c.row.ensures.row refl c.at.ensures
