use Rattle.std.proofs.Common.{ℕ, ◌≡◌, List, refl}
use Rattle.std.specs.Prelude.{◌==◌, ◌||◌}
use Rattle.rows_model.specs.Near.{names, blocked_after}
use Rattle.rows_model.specs.declared.changes.Change.TheVariants.{Block}
use Rattle.rows_model.specs.NearSteps.{IsMadeAtBoth, IsBarredAt, IsMade}
use Rattle.rows_model.proofs.NearLemmas.{zip_map, zip_itself, made_of_both, named_both, free_both}
use Rattle.rows_model.proofs.BlockLemmas.{made_of_barred, room_at_block}
use Rattle.rows_model.proofs.near.make.Goals.{in-Invite, in-Invite-2, in-Invite-3, in-Invite-4}
use Rattle.rows_model.proofs.near.make.Goals as goal

pub returns-in-Rename-clause-near : goal.returns-in-Rename-clause-near
returns-in-Rename-clause-near c =
    zip_itself (IsMade c.args.change.now) c.args.near.now (λ k d l. record {
      id = refl;
      links = rw c.in-Rename.is refl;
      room = refl;
      blocked = rw c.in-Rename.is refl;
      block_room = refl;
    })

pub returns-in-Invite-clause-near : goal.returns-in-Invite-clause-near
returns-in-Invite-clause-near c =
    let a = c.in-Invite-1.a in
    let b = c.in-Invite-1.b in
    let named : (id : ℕ) → names id c.args.change.now ≡ ((a == id) || (b == id)) = elim c.in-Invite-1.branch [
      | in-Invite w ↦ λ id. rw (w.a-is, w.b-is) (named_both _ _ _ w.in-Invite.is id)
      | in-Invite-2 w ↦ λ id. rw (w.a-is, w.b-is) (named_both _ _ _ w.in-Invite.is id)
      | in-Invite-3 w ↦ λ id. rw (w.a-is, w.b-is) (named_both _ _ _ w.in-Invite.is id)
      | in-Invite-4 w ↦ λ id. rw (w.a-is, w.b-is) (named_both _ _ _ w.in-Invite.is id)
    ] in
    let free : (id : ℕ) (ids : List ℕ) → blocked_after id ids c.args.change.now ≡ ids = elim c.in-Invite-1.branch [
      | in-Invite w ↦ λ id ids. free_both _ _ _ w.in-Invite.is id ids
      | in-Invite-2 w ↦ λ id ids. free_both _ _ _ w.in-Invite.is id ids
      | in-Invite-3 w ↦ λ id ids. free_both _ _ _ w.in-Invite.is id ids
      | in-Invite-4 w ↦ λ id ids. free_both _ _ _ w.in-Invite.is id ids
    ] in
    zip_map (IsMadeAtBoth a b c.args.change.now) (IsMade c.args.change.now)
    (made_of_both a b c.args.change.now named free) c.args.near.now c.make_at_both.new.near c.make_at_both.ensures

pub bar_at-requires-clause-room : goal.bar_at-requires-clause-room
bar_at-requires-clause-room c =
    let room = rw c.in-Block.is at c.requires.block_room in
    room_at_block c.in-Block.a c.in-Block.b 1 c.args.near.now room

pub returns-in-Block-clause-near : goal.returns-in-Block-clause-near
returns-in-Block-clause-near c =
    let a = c.in-Block.a in
    let b = c.in-Block.b in
    rw c.in-Block.is (zip_map (IsBarredAt a b) (IsMade (Block a b)) (made_of_barred a b) c.args.near.now c.bar_at.new.near c.bar_at.ensures)
