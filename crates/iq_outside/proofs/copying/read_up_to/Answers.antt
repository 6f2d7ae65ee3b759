use Rattle.iq_outside.proofs.CopyingStates.{TakesAtMost-append}
use Rattle.std.proofs.Common.{◌≤◌, ◌+◌, length, take, rules}
use Rattle.iq_outside.specs.Outside.{TakesAtMost}
use Rattle.iq_outside.proofs.copying.read_up_to.Goals as goal

pub returns-in_err-extend_from_slice-clause-lost :
    goal.returns-in_err-extend_from_slice-clause-lost
returns-in_err-extend_from_slice-clause-lost g c =
    let few : length c.loop-room.text.items + length (take c.in_ok-given.given c.read.new.room) ≤ c.args.limit = search rules in
    let lost : TakesAtMost c.args.limit (g.S.Source.left c.args.source.now) (g.S.Source.left c.read.new.self) =
    TakesAtMost-append c.args.limit _ _ _ _ _ c.loop-room.invariant.takes c.in_ok-given.ensures.gives few in search rules
