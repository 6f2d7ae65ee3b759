use Rattle.std.proofs.Common.{◌∙◌, refl, sym, ap, subst}
use Rattle.session_client.specs.Desks.{one_more}
use Rattle.conn_server.specs.declared.clients.Client.{Client}
use Rattle.conn_server.specs.declared.outgoing.Response.TheVariants as outgoing
use Rattle.mixed_lines.specs.Items.{command}
use Rattle.conn_server.specs.Answers.{ItemAnswers}
use Rattle.conn_server.proofs.CourseLemmas.{Answered, answered_goes_on, answered_ends, tells_within, tells_more}
use Rattle.conn_server.specs.Course.{desk_side}
use Rattle.conn_server.proofs.serving.Serving.answer_next.Goals as goal

pub returns-in-Some : goal.returns-in-Some
returns-in-Some g c =
    let t = c.in-Some.ensures.takes in
    let heard = outgoing.Lease c.answer-reply.result in
    let a : Answered (desk_side g.D.Desk.record_of g.D.Desk.tends g.P.PlainDesk.record_of c.args.desk.now c.args.plain.now) (desk_side g.D.Desk.record_of g.D.Desk.tends g.P.PlainDesk.record_of c.tell.new.desk c.args.plain.now) c.args.self.now c.tell.new.self heard =
    record {
      item = command c.in-Some.command;
      taken = t.taken;
      calls = c.answer-reply.ensures.answers.calls;
      stands = t.stands;
      framer = c.tell.ensures.framer ∙ t.goes_on;
      tended = c.tell.ensures.tended ∙ ap one_more c.answer-reply.ensures.untended;
      plains = refl;
      asks = c.tell.ensures.asks_nothing ∙ c.answer-reply.ensures.answers.record_is;
      answers = subst (λ (x : Client). ItemAnswers c.args.self.now.client (command c.in-Some.command) c.answer-reply.ensures.answers.calls heard x)
          (sym c.tell.ensures.client) c.answer-reply.ensures.answers.answers;
      count = c.tell.ensures.counts;
    } in
    record {
      within = tells_within c.tell.result heard _ _ _ c.tell.new.self c.tell.ensures.tells;
      counts = λ e. c.tell.ensures.counts;
      stops = λ e. absurd (tells_more c.tell.result heard _ _ _ c.tell.new.self c.tell.ensures.tells e);
      goes_on = answered_goes_on c.tell.result (g.L.Sink.read_side c.args.line.now) (g.L.Sink.read_side c.tell.new.line) (g.L.Source.write_side c.args.line.now) (g.L.Source.write_side c.tell.new.line) _ _ c.args.self.now c.tell.new.self heard c.tell.ensures.tells c.tell.ensures.keeps_reading a;
      ends = answered_ends c.tell.result (g.L.Sink.read_side c.args.line.now) (g.L.Sink.read_side c.tell.new.line) (g.L.Source.write_side c.args.line.now) (g.L.Source.write_side c.tell.new.line) _ _ c.args.self.now c.tell.new.self heard c.tell.ensures.tells c.tell.ensures.keeps_reading a;
    }

pub returns-in-None-clause-goes_on : goal.returns-in-None-clause-goes_on
returns-in-None-clause-goes_on g c = rw c.in-None.ensures.none at c.answer_any.ensures.goes_on

pub returns-in-None-clause-ends : goal.returns-in-None-clause-ends
returns-in-None-clause-ends g c = rw c.in-None.ensures.none at c.answer_any.ensures.ends
