use Rattle.std.proofs.Common.{◌≡◌}
use Rattle.gate_workers.proofs.SessionLemmas.{HasDriven}
use Rattle.gate_workers.proofs.sessions.drive.Given as goal

abbrev pub invariant-loop : goal.invariant-loop
invariant-loop g l =
    HasDriven l.initial.session l.session (g.D.Desk.record_of l.initial.desk) (g.D.Desk.record_of l.desk) l.initial.notes l.notes
    × (g.D.Desk.tends l.desk ≡ g.D.Desk.tends l.initial.desk) × (g.D.Desk.worker l.desk ≡ g.D.Desk.worker l.initial.desk) × (goal.iterator-loop g).can_next l.iterator' × (goal.iterator-loop g).is_finite l.iterator'
