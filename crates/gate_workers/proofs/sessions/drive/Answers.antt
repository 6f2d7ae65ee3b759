use Rattle.gate_workers.proofs.SessionLemmas.{has_ended}
use Rattle.gate_workers.proofs.sessions.drive.Goals as goal

pub returns-in-Some-done-clause-ended : goal.returns-in-Some-done-clause-ended
returns-in-Some-done-clause-ended g c =
    λ who plan before u.
    has_ended who plan c.loop.session before (g.D.Desk.record_of c.loop.desk) c.loop.notes
    c.in-Some-done.outcome c.done.result c.loop.invariant.0.ready c.done.ensures.done c.in-Some-done.is (c.loop.invariant.0.so_far who plan before u)
