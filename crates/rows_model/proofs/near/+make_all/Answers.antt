use Rattle.std.proofs.Common.{◌≡◌, ◌+◌, ◌∷◌, length, sym, arith, rules}
use Rattle.std.proofs.lemmas.List.Elements.{All-tail, All-same}
use Rattle.rows_model.specs.Near.{AreTwo}
use Rattle.rows_model.specs.NearSteps.{IsMade, IsMadeAll, HasRoomFor, HasBlockRoomFor}
use Rattle.rows_model.proofs.NearLemmas.{zip_all, zip_chain, ascend_after, rest_of_room, made_all_on, none_made, members_ascend_after}
use Rattle.rows_model.proofs.BlockLemmas.{first_block_room, rest_block_room}
use Rattle.rows_model.proofs.near.+make_all.Goals as goal

pub make-requires-clause-block_room : goal.make-requires-clause-block_room
make-requires-clause-block_room t c =
    let parts : c.args.changes.now ≡ c.in-Some.change.now ∷ c.in-Some.rest.now = search rules in
    first_block_room c.in-Some.change.now c.in-Some.rest.now c.args.changes.now parts c.args.near.now c.requires.block_room

pub make_all-requires : goal.make_all-requires
make_all-requires t c =
    let parts : c.args.changes.now ≡ c.in-Some.change.now ∷ c.in-Some.rest.now = search rules in
    let n : length c.in-Some.rest.now + 1 ≡ length c.args.changes.now = search rules in
    let change = c.in-Some.change.now in
    let rest = c.in-Some.rest.now in
    let two = All-tail AreTwo change rest (All-same AreTwo _ _ (sym parts) c.requires.two) in (
      omega (arith, n),
      (
        members_ascend_after change c.args.members.now c.make.new.members c.make.ensures.members c.requires.members_ascend,
        (
          ascend_after (IsMade change) (λ x y h. h.id) c.args.near.now c.make.new.near c.make.ensures.near c.requires.ascend,
          (
            two,
            (
              zip_all (IsMade change) (HasRoomFor c.args.changes.now (length c.args.changes.now)) (HasRoomFor rest (length rest))
                  (rest_of_room change rest c.args.changes.now parts) c.args.near.now c.make.new.near c.make.ensures.near c.requires.room,
              zip_all (IsMade change) (HasBlockRoomFor c.args.changes.now (length c.args.changes.now)) (HasBlockRoomFor rest (length rest))
                  (rest_block_room change rest c.args.changes.now parts) c.args.near.now c.make.new.near c.make.ensures.near c.requires.block_room,
            ),
          ),
        ),
      ),
    )

pub returns-in-Some-clause-near : goal.returns-in-Some-clause-near
returns-in-Some-clause-near t c =
    let parts : c.args.changes.now ≡ c.in-Some.change.now ∷ c.in-Some.rest.now = search rules in
    let change = c.in-Some.change.now in
    let rest = c.in-Some.rest.now in
    zip_chain (IsMade change) (IsMadeAll rest) (IsMadeAll c.args.changes.now)
    (made_all_on change rest c.args.changes.now parts) c.args.near.now c.make.new.near c.make_all.new.near c.make.ensures.near c.make_all.ensures.near

pub returns-in_default-clause-near : goal.returns-in_default-clause-near
returns-in_default-clause-near t c =
    let none : length c.args.changes.now ≡ 0 = search rules in
    none_made c.args.changes.now none c.args.near.now
