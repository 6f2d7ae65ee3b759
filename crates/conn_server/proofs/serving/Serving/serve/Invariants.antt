use Rattle.conn_server.proofs.CourseLemmas.{OnCourse}
use Rattle.conn_server.specs.Course.{desk_side}
use Rattle.conn_server.proofs.serving.Serving.serve.Given as goal

abbrev pub invariant-loop : goal.invariant-loop
invariant-loop g l =
    OnCourse (record { reads = g.L.Sink.read_side l.initial.line; writes = g.L.Source.write_side l.initial.line; desk = desk_side g.D.Desk.record_of g.D.Desk.tends g.P.PlainDesk.record_of l.initial.desk l.initial.plain })
    l.counter (g.L.Sink.read_side l.line) (g.L.Source.write_side l.line) (desk_side g.D.Desk.record_of g.D.Desk.tends g.P.PlainDesk.record_of l.desk l.plain) l.self
