use Rattle.rows_model.proofs.NearLemmas.{grown_on, grown_ascends, room_at_both, on_ok}
use Rattle.rows_model.specs.NearSteps.{HasRoomAt}
use Rattle.std.proofs.Common.{All}
use Rattle.rows_model.proofs.near.reserve_both.Goals as goal

pub reserve-requires-2 : goal.reserve-requires-2
reserve-requires-2 c = record { ascend = grown_ascends c.args.near.now c.reserve.new.near c.reserve.ensures.grown c.requires.ascend }

pub returns-clause-grown : goal.returns-clause-grown
returns-clause-grown c = grown_on c.args.near.now c.reserve.new.near c.reserve-2.new.near c.reserve.ensures.grown c.reserve-2.ensures.grown

pub returns-clause-room : goal.returns-clause-room
returns-clause-room c =
    on_ok c.reserve-2.result (λ (room : All (HasRoomAt c.args.b c.args.more) c.reserve-2.new.near).
    room_at_both c.args.a c.args.b c.args.more c.reserve.new.near c.reserve-2.new.near c.reserve-2.ensures.grown c.in_ok-reserve.ensures.room room)
    c.reserve-2.ensures.room
