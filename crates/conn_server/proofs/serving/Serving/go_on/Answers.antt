use Rattle.std.proofs.Common.{Ok, refl}
use Rattle.std.proofs.lemmas.Result.{err_from_is_err_and, IfErr-at_err, IfErr-weaker, on_ok_weaker}
use Rattle.conn_server.proofs.CourseLemmas.{flushed_goes_on, flushed_ends}
use Rattle.conn_server.specs.Course.{desk_side}
use Rattle.conn_server.specs.declared.serving.Serving.{Serving}
use Rattle.conn_server.proofs.serving.Serving.go_on.Goals as goal

pub returns-in_err-flush-clause-ends : goal.returns-in_err-flush-clause-ends
returns-in_err-flush-clause-ends g c =
    let p = err_from_is_err_and c.from_residual-in_err-flush.result c.from_residual-in_err-flush.ensures.1 in
    let s = c.answer_all.new.self in
    let t : Serving = record { framer = s.framer; out = c.flush.new.self; client = s.client; count = s.count } in
    rw (p.1, p.2) (λ start rounds course.
    IfErr-at_err _ c.in_err-flush.was (flushed_ends c.flush.result (g.L.Sink.read_side c.answer_all.new.line) (g.L.Sink.read_side c.flush.new.line)
    (g.L.Source.write_side c.answer_all.new.line) (g.L.Source.write_side c.flush.new.line) s t
    c.flush.ensures.flushes c.flush.ensures.keeps_reading c.flush.ensures.none refl) start rounds
    (desk_side g.D.Desk.record_of g.D.Desk.tends g.P.PlainDesk.record_of c.answer_all.new.desk c.answer_all.new.plain) (c.in_ok-answer_all.ensures.goes_on start rounds course))

pub returns-clause-goes_on : goal.returns-clause-goes_on
returns-clause-goes_on g c =
    let s = c.answer_all.new.self in
    let t : Serving = record { framer = s.framer; out = c.flush.new.self; client = s.client; count = s.count } in
    on_ok_weaker c.read_more.result (λ goes. λ start rounds course.
    goes start rounds (desk_side g.D.Desk.record_of g.D.Desk.tends g.P.PlainDesk.record_of c.answer_all.new.desk c.answer_all.new.plain)
    (flushed_goes_on (Ok c.in_ok-flush.field-0) (g.L.Sink.read_side c.answer_all.new.line) (g.L.Sink.read_side c.flush.new.line)
    (g.L.Source.write_side c.answer_all.new.line) (g.L.Source.write_side c.flush.new.line) s t
    c.in_ok-flush.ensures.flushes c.in_ok-flush.ensures.keeps_reading c.in_ok-flush.ensures.none refl refl refl
    start rounds (desk_side g.D.Desk.record_of g.D.Desk.tends g.P.PlainDesk.record_of c.answer_all.new.desk c.answer_all.new.plain)
    (c.in_ok-answer_all.ensures.goes_on start rounds course))) c.read_more.ensures.goes_on

pub returns-clause-ends : goal.returns-clause-ends
returns-clause-ends g c =
    let s = c.answer_all.new.self in
    let t : Serving = record { framer = s.framer; out = c.flush.new.self; client = s.client; count = s.count } in
    IfErr-weaker c.read_more.result _ _ (λ end ends. λ start rounds course.
    ends start rounds (desk_side g.D.Desk.record_of g.D.Desk.tends g.P.PlainDesk.record_of c.answer_all.new.desk c.answer_all.new.plain)
    (flushed_goes_on (Ok c.in_ok-flush.field-0) (g.L.Sink.read_side c.answer_all.new.line) (g.L.Sink.read_side c.flush.new.line)
    (g.L.Source.write_side c.answer_all.new.line) (g.L.Source.write_side c.flush.new.line) s t
    c.in_ok-flush.ensures.flushes c.in_ok-flush.ensures.keeps_reading c.in_ok-flush.ensures.none refl refl refl
    start rounds (desk_side g.D.Desk.record_of g.D.Desk.tends g.P.PlainDesk.record_of c.answer_all.new.desk c.answer_all.new.plain)
    (c.in_ok-answer_all.ensures.goes_on start rounds course))) c.read_more.ensures.ends
