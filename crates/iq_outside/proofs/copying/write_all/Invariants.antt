use Rattle.std.proofs.Common.{length, ◌-◌}
use Rattle.iq_outside.proofs.CopyingStates.{HasWritten}
use Rattle.iq_outside.proofs.copying.write_all.Given as goal

abbrev pub invariant-loop-written : goal.invariant-loop-written
invariant-loop-written g l =
    HasWritten (g.W.Sink.taken l.initial.sink) (g.W.Sink.taken l.sink) (g.W.Sink.faults l.initial.sink) (g.W.Sink.faults l.sink)
    (g.W.Sink.read_side l.initial.sink) (g.W.Sink.read_side l.sink) l.bytes l.written

abbrev pub decreases-loop-written : goal.decreases-loop-written
decreases-loop-written g l = length l.bytes - l.written
