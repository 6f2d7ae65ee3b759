use Rattle.std.proofs.Common.{◌≡◌, ◌+◌, ◌∷◌, All, length, arith, rules}
use Rattle.rows_model.specs.NearSteps.{HasRoomFor, HasBlockRoomFor}
use Rattle.rows_model.proofs.NearLemmas.{grown_itself, grown_on, grown_ascends, room_for_all, on_ok}
use Rattle.rows_model.proofs.BlockLemmas.{block_room_for_all}
use Rattle.rows_model.proofs.near.+make_room.Goals as goal

pub returns-in_default-clause-grown : goal.returns-in_default-clause-grown
returns-in_default-clause-grown t c = grown_itself c.args.near.now

pub make_room-requires : goal.make_room-requires
make_room-requires t c =
    let n : length c.in-Some.rest.now + 1 ≡ length c.args.changes.now = search rules in
    (omega (arith, n), grown_ascends c.args.near.now c.make_room_of.new.near c.make_room_of.ensures.grown c.requires.ascend)

pub returns-clause-grown : goal.returns-clause-grown
returns-clause-grown t c = grown_on c.args.near.now c.make_room_of.new.near c.make_room.new.near c.make_room_of.ensures.grown c.make_room.ensures.grown

pub returns-clause-room : goal.returns-clause-room
returns-clause-room t c =
    let parts : c.args.changes.now ≡ c.in-Some.change.now ∷ c.in-Some.rest.now = search rules in
    on_ok c.make_room.result (λ (room : All (HasRoomFor c.in-Some.rest.now c.args.more) c.make_room.new.near).
    room_for_all c.in-Some.change.now c.in-Some.rest.now c.args.changes.now
    c.args.more c.make_room_of.new.near c.make_room.new.near parts c.make_room.ensures.grown c.in_ok-make_room_of.ensures.room room) c.make_room.ensures.room

pub returns-clause-block_room : goal.returns-clause-block_room
returns-clause-block_room t c =
    let parts : c.args.changes.now ≡ c.in-Some.change.now ∷ c.in-Some.rest.now = search rules in
    on_ok c.make_room.result (λ (room : All (HasBlockRoomFor c.in-Some.rest.now c.args.more) c.make_room.new.near).
    block_room_for_all c.in-Some.change.now c.in-Some.rest.now c.args.changes.now
    c.args.more c.make_room_of.new.near c.make_room.new.near parts c.make_room.ensures.grown c.in_ok-make_room_of.ensures.block_room room)
    c.make_room.ensures.block_room
