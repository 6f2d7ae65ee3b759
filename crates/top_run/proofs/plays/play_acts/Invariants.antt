use Rattle.std.proofs.Common.{length}
use Rattle.top_run.proofs.PlayStates.{HasPlayed}
use Rattle.top_run.proofs.plays.play_acts.Given as goal

abbrev pub invariant-loop-act : goal.invariant-loop-act
invariant-loop-act g l =
    HasPlayed l.initial.core l.core l.fn.acts.items (length l.yielded)
    (g.W.Sink.taken l.initial.sink) (g.W.Sink.taken l.sink) (g.W.Sink.faults l.initial.sink) (g.W.Sink.faults l.sink) l.initial.tally l.tally
