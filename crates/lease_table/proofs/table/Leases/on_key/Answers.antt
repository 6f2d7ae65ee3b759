use Rattle.std.proofs.Common.{sym, ap, ◌∙◌}
use Rattle.lease_table.specs.Leases.{first}
use Rattle.lease_table.proofs.MapLemmas.{records-at}
use Rattle.lease_table.proofs.table.Leases.on_key.Goals as goal

pub returns-clause-reader : goal.returns-clause-reader
returns-clause-reader c =
    let stands = records-at c.args.key.now c.self.inside.leases c.self.invariant.0.in_order in
    rw (← c.self.view_is) (c.on_key.ensures.reader ∙ ap first (sym stands.reads_there))

pub returns-clause-quars : goal.returns-clause-quars
returns-clause-quars c =
    let stands = records-at c.args.key.now c.self.inside.leases c.self.invariant.0.in_order in
    rw (← c.self.view_is) (c.on_key.ensures.quars ∙ sym stands.quars_there)

pub returns-clause-beside : goal.returns-clause-beside
returns-clause-beside c =
    let stands = records-at c.args.key.now c.self.inside.leases c.self.invariant.0.in_order in
    rw (c.on_key.ensures.quars ∙ sym stands.quars_there) (c.self.invariant.0.table c.args.key.now).beside

pub returns-clause-table : goal.returns-clause-table
returns-clause-table c = rw (← c.self.view_is) c.self.invariant.0.table
