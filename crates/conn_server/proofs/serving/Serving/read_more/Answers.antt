use Rattle.std.proofs.Common.{rules, take, refl, arith}
use Rattle.conn_server.proofs.CourseLemmas.{is_side, closed_by, fed_by, unfed_by, read_failed}
use Rattle.conn_server.proofs.serving.Serving.read_more.Goals as goal

pub returns-in-Ok-eq0-clause-ends : goal.returns-in-Ok-eq0-clause-ends
returns-in-Ok-eq0-clause-ends g c =
    closed_by c.left.result (g.L.Sink.read_side c.args.line.now) (g.L.Sink.read_side c.read.new.self) (g.L.Source.write_side c.args.line.now)
    (g.L.Source.write_side c.read.new.self) (g.L.Source.left c.args.line.now) (g.L.Source.left c.read.new.self) (g.L.Source.given c.args.line.now)
    (g.L.Source.given c.read.new.self) (g.L.Source.faults c.args.line.now) (g.L.Source.faults c.read.new.self) c.in-Ok-eq0.field-0 c.read.new.room c.args.self.now _ (is_side _ _ _ _ (g.met.L.Line.reading c.args.line.now))
    (is_side _ _ _ _ (g.met.L.Line.reading c.read.new.self)) c.in-Ok-eq0.ensures.gives c.in-Ok-eq0.ensures.adds c.in-Ok-eq0.ensures.ends (omega (arith, c.in-Ok-eq0.field-0-test))
    c.in-Ok-eq0.ensures.no_fault c.in-Ok-eq0.ensures.keeps_writing c.requires.stops c.left.ensures c.requires.written refl refl

pub returns-in-Ok-feed-clause-goes_on : goal.returns-in-Ok-feed-clause-goes_on
returns-in-Ok-feed-clause-goes_on g c =
    fed_by (g.L.Sink.read_side c.args.line.now) (g.L.Sink.read_side c.read.new.self) (g.L.Source.write_side c.args.line.now)
    (g.L.Source.write_side c.read.new.self) (g.L.Source.left c.args.line.now) (g.L.Source.left c.read.new.self) (g.L.Source.given c.args.line.now)
    (g.L.Source.given c.read.new.self) (g.L.Source.faults c.args.line.now) (g.L.Source.faults c.read.new.self) (take c.in-Ok.given c.read.new.room) c.args.self.now _ (is_side _ _ _ _ (g.met.L.Line.reading c.args.line.now))
    (is_side _ _ _ _ (g.met.L.Line.reading c.read.new.self)) c.in-Ok.ensures.gives c.in-Ok.ensures.adds c.in-Ok.ensures.no_fault c.in-Ok.ensures.keeps_writing
    (search rules) c.requires.stops c.in-Ok-feed.ensures.ok refl refl refl

pub returns-in-Err-feed-clause-ends : goal.returns-in-Err-feed-clause-ends
returns-in-Err-feed-clause-ends g c =
    unfed_by (g.L.Sink.read_side c.args.line.now) (g.L.Sink.read_side c.read.new.self) (g.L.Source.write_side c.args.line.now)
    (g.L.Source.write_side c.read.new.self) (g.L.Source.left c.args.line.now) (g.L.Source.left c.read.new.self) (g.L.Source.given c.args.line.now)
    (g.L.Source.given c.read.new.self) (g.L.Source.faults c.args.line.now) (g.L.Source.faults c.read.new.self) (take c.in-Ok.given c.read.new.room) c.args.self.now _ (is_side _ _ _ _ (g.met.L.Line.reading c.args.line.now))
    (is_side _ _ _ _ (g.met.L.Line.reading c.read.new.self)) c.in-Ok.ensures.gives c.in-Ok.ensures.adds c.in-Ok.ensures.no_fault c.in-Ok.ensures.keeps_writing refl refl

pub returns-in-Err-clause-ends : goal.returns-in-Err-clause-ends
returns-in-Err-clause-ends g c =
    read_failed (g.L.Sink.read_side c.args.line.now) (g.L.Sink.read_side c.read.new.self) (g.L.Source.write_side c.args.line.now)
    (g.L.Source.write_side c.read.new.self) (g.L.Source.left c.args.line.now) (g.L.Source.left c.read.new.self) (g.L.Source.given c.args.line.now)
    (g.L.Source.given c.read.new.self) (g.L.Source.faults c.args.line.now) (g.L.Source.faults c.read.new.self) c.args.self.now c.args.self.now (is_side _ _ _ _ (g.met.L.Line.reading c.args.line.now))
    (is_side _ _ _ _ (g.met.L.Line.reading c.read.new.self)) c.in-Err.ensures.keeps c.in-Err.ensures.keeps_given c.in-Err.ensures.failed_rose c.in-Err.ensures.never_falls
    c.in-Err.ensures.keeps_writing c.requires.stops refl refl
