use Rattle.std.proofs.Common.{◌≡◌, List, ap, ◌∙◌, rules}
use Rattle.rows_model.specs.declared.rows.Member.{Member}
use Rattle.rows_model.specs.Near.{tables_in}
use Rattle.rows_model.proofs.KeptLemmas.{copy_kept, copy_tables}
use Rattle.rows_model.proofs.rows.Rows.copy.Goals as goal

pub invariant_of-result : goal.invariant_of-result
invariant_of-result c =
    let members : c.in_ok-from_slice.field-0.items ≡ c.self.inside.members.items = search rules in
    let zip = rw c.as_slice-2.ensures.value at c.in_ok-copied.ensures in
    rw members (copy_kept _ _ _ _ _ zip c.self.invariant)

pub returns : goal.returns
returns c =
    let members : c.in_ok-from_slice.field-0.items ≡ c.self.inside.members.items = search rules in
    let zip = rw c.as_slice-2.ensures.value at c.in_ok-copied.ensures in
    ap (λ (ms : List Member). tables_in ms c.in_ok-copied.field-0.items) members
    ∙ (copy_tables c.self.inside.members.items _ _ zip ∙ c.self.view_is)
