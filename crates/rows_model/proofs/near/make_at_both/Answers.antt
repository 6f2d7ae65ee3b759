use Rattle.rows_model.specs.NearSteps.{HasRoomAt, HasRoomAtBoth, IsMadeAt, IsMadeAtBoth}
use Rattle.rows_model.proofs.NearLemmas.{zip_chain, zip_all, ascend_after, made_both, second_room}
use Rattle.rows_model.proofs.near.make_at_both.Goals as goal

pub make_at-requires-2-clause-ascend : goal.make_at-requires-2-clause-ascend
make_at-requires-2-clause-ascend c =
    ascend_after (IsMadeAt c.args.a c.args.change.now) (λ x y h. h.id) c.args.near.now c.make_at.new.near c.make_at.ensures c.requires.ascend

pub make_at-requires-2-clause-room : goal.make_at-requires-2-clause-room
make_at-requires-2-clause-room c = λ e.
    zip_all (IsMadeAt c.args.a c.args.change.now) (HasRoomAtBoth c.args.a c.args.b 1) (HasRoomAt c.args.b 1)
    (second_room c.args.a c.args.b c.args.change.now c.requires.two) c.args.near.now c.make_at.new.near c.make_at.ensures (c.requires.room e)

pub returns : goal.returns
returns c =
    zip_chain (IsMadeAt c.args.a c.args.change.now) (IsMadeAt c.args.b c.args.change.now) (IsMadeAtBoth c.args.a c.args.b c.args.change.now)
    (made_both c.args.a c.args.b c.args.change.now c.requires.two) c.args.near.now c.make_at.new.near c.make_at-2.new.near c.make_at.ensures c.make_at-2.ensures
