use Rattle.std.proofs.Common.{refl}
use Rattle.conn_server.specs.Course.{Start, desk_side}
use Rattle.conn_server.proofs.CourseLemmas.{never_served, finished}
use Rattle.conn_server.proofs.serving.serve_line.Goals as goal

pub returns-in-Ok-clause-served : goal.returns-in-Ok-clause-served
returns-in-Ok-clause-served g c =
    let start : Start = record {
      reads = g.L.Sink.read_side c.args.line.now;
      writes = g.L.Source.write_side c.args.line.now;
      desk = desk_side g.D.Desk.record_of g.D.Desk.tends g.P.PlainDesk.record_of c.args.desk.now c.args.plain.now;
    } in
    let f = finished c.serve-end.result c.finish.result start (g.L.Sink.read_side c.serve-end.new.line) (g.L.Sink.read_side c.finish.new.line)
    (g.L.Source.write_side c.serve-end.new.line) (g.L.Source.write_side c.finish.new.line) (desk_side g.D.Desk.record_of g.D.Desk.tends g.P.PlainDesk.record_of c.serve-end.new.desk c.serve-end.new.plain)
    (desk_side g.D.Desk.record_of g.D.Desk.tends g.P.PlainDesk.record_of c.finish.new.desk c.serve-end.new.plain) c.serve-end.new.self c.serve-end.ensures.ends c.finish.ensures.finishes c.finish.ensures.keeps_reading
    c.finish.ensures.given_up c.finish.ensures.untended refl in
    f.served

pub returns-in-Err-clause-served : goal.returns-in-Err-clause-served
returns-in-Err-clause-served g c =
    never_served (g.L.Sink.read_side c.args.line.now) (g.L.Source.write_side c.args.line.now) (desk_side g.D.Desk.record_of g.D.Desk.tends g.P.PlainDesk.record_of c.args.desk.now c.args.plain.now)
