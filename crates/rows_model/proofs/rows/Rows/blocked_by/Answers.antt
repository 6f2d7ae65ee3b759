use Rattle.std.proofs.Common.{ap, ◌∙◌}
use Rattle.rows_model.specs.declared.near.Near.{Near}
use Rattle.rows_model.proofs.KeptLemmas.{kept_ascend}
use Rattle.rows_model.proofs.BlockLemmas.{own_ids, no_ids}
use Rattle.rows_model.proofs.rows.Rows.blocked_by.Goals as goal

pub place_of-requires : goal.place_of-requires
place_of-requires c = record { ascend = rw c.as_slice.ensures.value (kept_ascend _ _ _ _ c.self.invariant) }

pub returns-in-None : goal.returns-in-None
returns-in-None c =
    let none = rw c.as_slice.ensures.value at c.in-None.ensures.none in
    rw (← c.self.view_is) (no_ids c.args.id c.self.inside.members.items _ none)

pub returns-in-Some : goal.returns-in-Some
returns-in-Some c =
    let at = rw c.as_slice.ensures.value at c.in-Some.ensures.at in
    let d = c.index.result.now in
    rw (← c.self.view_is) (c.as_slice-in-Some.ensures.value
    ∙ (ap (λ (one : Near). one.blocked.items) c.index.ensures
    ∙ own_ids c.args.id c.self.inside.members.items _ c.in-Some.place d (kept_ascend _ _ _ _ c.self.invariant) at.within (at.passes d)))
