use Rattle.lease_table.proofs.RowLemmas.{holder-least}
use Rattle.lease_table.proofs.table.Leases.holder.Goals as goal

pub returns-clause-least : goal.returns-clause-least
returns-clause-least c =
    let stood = c.on_key.ensures.quars in
    rw (← stood) (λ none. holder-least c.args.who c.on_key.result.quars.now c.holder_of.result c.on_key.ensures.beside none c.holder_of.ensures)
