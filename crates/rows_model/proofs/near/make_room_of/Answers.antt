use Rattle.std.proofs.Common.{ℕ, ◌≡◌, false, All, sym, inl, inr, ◌∙◌, refl}
use Rattle.std.proofs.lemmas.Bool.{false≢true, and_parts}
use Rattle.rows_model.specs.Near.{puts, blocks_by}
use Rattle.rows_model.specs.NearSteps.{HasBlockRoomAt}
use Rattle.rows_model.proofs.NearLemmas.{grown_itself, on_ok, on_any}
use Rattle.rows_model.proofs.BlockLemmas.{room_of_block, no_block, no_block_room}
use Rattle.rows_model.proofs.near.make_room_of.Goals.{in-Invite, in-Invite-2}
use Rattle.rows_model.proofs.near.make_room_of.Goals as goal

pub returns-in-Reject : goal.returns-in-Reject
returns-in-Reject c =
    let none : puts c.args.change.now ≡ false = elim c.in-Reject.is [
      | inl reject ↦ rw reject.2
      | inr other ↦ elim other [
        | inl thaw ↦ rw thaw.2
        | inr rename ↦ rw rename.2
      ]
    ] in
    let free : (id : ℕ) → blocks_by id c.args.change.now ≡ false = elim c.in-Reject.is [
      | inl reject ↦ λ id. rw reject.2
      | inr other ↦ elim other [
        | inl thaw ↦ λ id. rw thaw.2
        | inr rename ↦ λ id. rw rename.2
      ]
    ] in
    record {
      grown = grown_itself c.args.near.now;
      room = λ k d l e. absurd (false≢true (sym none ∙ (and_parts _ _ e).0));
      block_room = no_block_room c.args.change.now free c.args.more c.args.near.now;
    }

pub returns-in-Invite-clause-block_room : goal.returns-in-Invite-clause-block_room
returns-in-Invite-clause-block_room c =
    let free : (id : ℕ) → blocks_by id c.args.change.now ≡ false = elim c.in-Invite-1.branch [
      | in-Invite w ↦ λ id. no_block _ _ _ w.in-Invite.is id
      | in-Invite-2 w ↦ λ id. no_block _ _ _ w.in-Invite.is id
    ] in
    on_any c.reserve_both.result (no_block_room c.args.change.now free c.args.more c.reserve_both.new.near)

pub returns-in-Block-clause-room : goal.returns-in-Block-clause-room
returns-in-Block-clause-room c =
    let none : puts c.args.change.now ≡ false = rw c.in-Block.is refl in
    on_any c.reserve_block.result (λ k d l e. absurd (false≢true (sym none ∙ (and_parts _ _ e).0)))

pub returns-in-Block-clause-block_room : goal.returns-in-Block-clause-block_room
returns-in-Block-clause-block_room c =
    on_ok c.reserve_block.result (λ (room : All (HasBlockRoomAt c.in-Block.a c.args.more) c.reserve_block.new.near).
    rw c.in-Block.is (room_of_block c.in-Block.a c.in-Block.b c.args.more c.reserve_block.new.near room)) c.reserve_block.ensures.room
