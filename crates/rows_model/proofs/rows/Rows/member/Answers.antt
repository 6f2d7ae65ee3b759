use Rattle.std.proofs.Common.{Some, sym, ap, ◌∙◌}
use Rattle.rows_model.specs.declared.rows.Member.{Member}
use Rattle.rows_model.specs.Rows.{Tables}
use Rattle.rows_model.specs.Near.{tables_in}
use Rattle.rows_model.proofs.RowsLemmas.{member_placed, member_missing}
use Rattle.rows_model.proofs.rows.Rows.member.Goals as goal

pub returns-in-Some : goal.returns-in-Some
returns-in-Some c =
    let tables : Tables = tables_in c.self.inside.members.items c.self.inside.near.items in
    let at = rw c.as_slice.ensures.value at c.in-Some.ensures.at in
    rw (← c.self.view_is) (ap (λ (m : Member). Some m) c.index.ensures
    ∙ sym (member_placed tables c.args.id c.in-Some.place c.index.result.now c.self.invariant.fit at))

pub returns-in-None : goal.returns-in-None
returns-in-None c =
    let tables : Tables = tables_in c.self.inside.members.items c.self.inside.near.items in
    let none = rw c.as_slice.ensures.value at c.in-None.ensures.none in
    rw (← c.self.view_is) (sym (member_missing tables c.args.id none))
