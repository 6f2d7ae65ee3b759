use Rattle.std.proofs.Common.{arith, sym, ◌∙◌}
use Rattle.lease_table.proofs.RowLemmas.{row-others, row-free, row-own, row-beside}
use Rattle.lease_table.proofs.lookups.OnKey.row.Goals as goal

pub returns-in-None-Some-clause-row : goal.returns-in-None-Some-clause-row
returns-in-None-Some-clause-row c =
    let row = row-others c.args.who c.args.now c.args.self.now.reader c.args.self.now.quars.now c.in-None-Some.other c.requires (sym c.own_quar.ensures
    ∙ c.in-None-Some.is-0) (sym c.other_quar.ensures ∙ c.in-None-Some.is-1) in
    omega (arith, row, c.place-in-None-Some.ensures)

pub returns-in-None-None-clause-row : goal.returns-in-None-None-clause-row
returns-in-None-None-clause-row c =
    c.free_row.ensures.row ∙ sym (row-free c.args.who c.args.now c.args.self.now.reader c.args.self.now.quars.now (sym c.own_quar.ensures
    ∙ c.in-None-None.is-0) (sym c.other_quar.ensures ∙ c.in-None-None.is-1))

pub returns-in-Some-None-clause-row : goal.returns-in-Some-None-clause-row
returns-in-Some-None-clause-row c =
    let row = row-own c.args.who c.args.now c.args.self.now.reader c.args.self.now.quars.now c.in-Some-None.own (sym c.own_quar.ensures
    ∙ c.in-Some-None.is-0) (sym c.other_quar.ensures ∙ c.in-Some-None.is-1) in
    omega (arith, row, c.place.ensures)

pub returns-in-Some-Some-clause-row : goal.returns-in-Some-Some-clause-row
returns-in-Some-Some-clause-row c =
    c.beside_row.ensures.row ∙ sym (row-beside c.args.who c.args.now c.args.self.now.reader c.args.self.now.quars.now c.in-Some-Some.own
    c.in-Some-Some.field-0-1 (sym c.own_quar.ensures ∙ c.in-Some-Some.is-0) (sym c.other_quar.ensures ∙ c.in-Some-Some.is-1))
