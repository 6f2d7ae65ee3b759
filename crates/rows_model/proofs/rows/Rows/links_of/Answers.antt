use Rattle.std.proofs.Common.{ap, ◌∙◌}
use Rattle.rows_model.specs.declared.near.Near.{Near}
use Rattle.rows_model.proofs.KeptLemmas.{kept_ascend, no_list, list_at}
use Rattle.rows_model.proofs.rows.Rows.links_of.Goals as goal

pub place_of-requires : goal.place_of-requires
place_of-requires c = record { ascend = rw c.as_slice.ensures.value (kept_ascend _ _ _ _ c.self.invariant) }

pub returns-in-None : goal.returns-in-None
returns-in-None c =
    let none = rw c.as_slice.ensures.value at c.in-None.ensures.none in
    rw (← c.self.view_is) (no_list c.args.id _ _ _ _ c.self.invariant none)

pub returns-in-Some : goal.returns-in-Some
returns-in-Some c =
    let at = rw c.as_slice.ensures.value at c.in-Some.ensures.at in
    rw (← c.self.view_is) (c.as_slice-in-Some.ensures.value
    ∙ (ap (λ (one : Near). one.links.items) c.index.ensures ∙ list_at c.args.id c.in-Some.place _ _ _ _ c.index.result.now c.self.invariant at))
