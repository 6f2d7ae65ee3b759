use Rattle.std.proofs.Common.{◌-◌}
use Rattle.conn_server.proofs.CourseLemmas.{StillOn}
use Rattle.conn_server.specs.Course.{desk_side}
use Rattle.conn_server.proofs.serving.Serving.answer_all.Given as goal

abbrev pub invariant-loop : goal.invariant-loop
invariant-loop g l =
    StillOn (g.L.Sink.read_side l.initial.line) (g.L.Sink.read_side l.line) (g.L.Source.write_side l.initial.line) (g.L.Source.write_side l.line)
    (desk_side g.D.Desk.record_of g.D.Desk.tends g.P.PlainDesk.record_of l.initial.desk l.initial.plain) (desk_side g.D.Desk.record_of g.D.Desk.tends g.P.PlainDesk.record_of l.desk l.plain) l.initial.self l.self

abbrev pub decreases-loop : goal.decreases-loop
decreases-loop g l = 1000000 - l.self.count
