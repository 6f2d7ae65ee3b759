use Rattle.std.proofs.Common.{vec_len, ◌-◌}
use Rattle.iq_outside.proofs.CopyingStates.{HasRead}
use Rattle.iq_outside.proofs.copying.read_up_to.Given as goal

abbrev pub invariant-loop-room : goal.invariant-loop-room
invariant-loop-room g l =
    HasRead (g.S.Source.left l.initial.source) (g.S.Source.left l.source) (g.S.Source.faults l.initial.source) (g.S.Source.faults l.source) l.text.items l.limit

abbrev pub decreases-loop-room : goal.decreases-loop-room
decreases-loop-room g l = l.limit - vec_len l.text
