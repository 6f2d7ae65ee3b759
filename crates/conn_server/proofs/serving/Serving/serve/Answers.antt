use Rattle.std.proofs.Common.{arith}
use Rattle.conn_server.proofs.CourseLemmas.{course_begins, rounds_end}
use Rattle.conn_server.specs.Course.{desk_side}
use Rattle.conn_server.proofs.serving.Serving.serve.Goals as goal

pub loop-init : goal.loop-init
loop-init g c = record {
  within = omega (arith, c.requires.count);
  course = course_begins (g.L.Sink.read_side c.args.line.now) (g.L.Source.write_side c.args.line.now) (desk_side g.D.Desk.record_of g.D.Desk.tends g.P.PlainDesk.record_of c.args.desk.now c.args.plain.now)
      c.args.self.now c.requires;
}

pub loop-preserved : goal.loop-preserved
loop-preserved g c = record {
  within = c.in-Ok.ensures.within;
  course = c.in-Ok.ensures.goes_on _ c.loop.counter c.loop.invariant.course;
}

pub returns-in-Err : goal.returns-in-Err
returns-in-Err g c = record { ends = c.in-Err.ensures.ends _ c.loop.counter c.loop.invariant.course }

pub unreachable-requires : goal.unreachable-requires
unreachable-requires g c = rounds_end _ c.loop.counter _ _ _ _ c.loop.invariant.course (omega (arith, c.loop-test.false))
