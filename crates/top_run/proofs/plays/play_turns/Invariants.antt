use Rattle.top_run.proofs.PlayStates.{HasTaken}
use Rattle.top_run.proofs.plays.play_turns.Given as goal

abbrev pub invariant-loop-taken : goal.invariant-loop-taken
invariant-loop-taken g l =
    HasTaken l.initial.core l.core l.turn l.count l._taken (g.W.Sink.taken l.initial.sink)
    (g.W.Sink.taken l.sink) (g.W.Sink.faults l.initial.sink) (g.W.Sink.faults l.sink) l.initial.tally l.tally
