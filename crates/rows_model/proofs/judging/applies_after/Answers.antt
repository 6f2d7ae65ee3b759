use Rattle.std.proofs.Common.{◌∙◌, sym, ◌≡◌}
use Rattle.rows_model.specs.declared.judging.Bond.TheVariants.{Invitation, Friendship}
use Rattle.rows_model.specs.Changes.{applies, is_invited}
use Rattle.rows_model.proofs.JudgeLemmas.{invite_judged, block_judged, bond_judged, rename_judged, accept_or_reject}
use Rattle.rows_model.proofs.judging.applies_after.Goals.{in-Accept, in-Accept-2}
use Rattle.rows_model.proofs.judging.applies_after.Goals as goal

pub returns-in-Invite : goal.returns-in-Invite
returns-in-Invite c = λ after e.
    rw c.in-Invite.is (invite_judged c.in-Invite.a c.in-Invite.b
    c.args.count c.args.earlier.now c.args.rows.now after c.can_invite.result c.requires.fit c.requires.ids c.requires.count e c.can_invite.ensures)

pub returns-in-Block : goal.returns-in-Block
returns-in-Block c = λ after e.
    rw c.in-Block.is (block_judged c.in-Block.a c.in-Block.b
    c.block_count.result c.args.earlier.now c.args.rows.now after c.can_block.result c.requires.fit c.requires.ids c.block_count.ensures.count e c.can_block.ensures)

pub returns-in-Thaw : goal.returns-in-Thaw
returns-in-Thaw c = λ after e.
    rw c.in-Thaw.is (bond_judged Friendship c.in-Thaw.a c.in-Thaw.b
    c.args.earlier.now c.args.rows.now after c.has_bond.result c.requires.fit c.requires.ids e c.has_bond.ensures)

pub returns-in-Rename : goal.returns-in-Rename
returns-in-Rename c = λ after e.
    rw c.in-Rename.is
    (rename_judged c.in-Rename.a c.args.earlier.now c.args.rows.now after c.has_member.result c.requires.fit c.requires.ids e c.has_member.ensures)

pub returns-in-Accept : goal.returns-in-Accept
returns-in-Accept c = λ after e.
    let judged = bond_judged Invitation c.in-Accept-1.a c.in-Accept-1.b
    c.args.earlier.now c.args.rows.now after c.has_bond-in-Accept.result c.requires.fit c.requires.ids e c.has_bond-in-Accept.ensures in
    let same : applies c.args.change.now after ≡ is_invited c.in-Accept-1.a c.in-Accept-1.b after = elim c.in-Accept-1.branch [
      | in-Accept w ↦ rw (w.a-is, w.b-is) (accept_or_reject _ _ _ after w.in-Accept.is)
      | in-Accept-2 w ↦ rw (w.a-is, w.b-is) (accept_or_reject _ _ _ after w.in-Accept.is)
    ] in
    judged ∙ sym same
