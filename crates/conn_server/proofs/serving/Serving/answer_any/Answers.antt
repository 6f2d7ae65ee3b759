use Rattle.std.proofs.Common.{◌≡◌, ◌∙◌, [], refl, sym, ap, subst, Some, None}
use Rattle.std.specs.Prelude.{Ok}
use Rattle.session_client.specs.Desks.{one_more}
use Rattle.mc_text.specs.declared.commands.Command.TheVariants.{Quit}
use Rattle.mc_text.specs.declared.replies.LineReply.TheVariants as LineReply
use Rattle.conn_server.specs.declared.clients.Client.{Client}
use Rattle.conn_server.specs.declared.outgoing.Response.TheVariants as outgoing
use Rattle.mixed_lines.specs.declared.streams.Said.TheVariants as said
use Rattle.mixed_lines.specs.Items.{command, plain}
use Rattle.conn_server.specs.Answers.{ItemAnswers}
use Rattle.conn_server.proofs.CourseLemmas.{Answered, answered_goes_on, answered_ends, tells_within, tells_more, next_said, next_none, next_fault}
use Rattle.conn_server.proofs.CourseLemmas.{bad_line_answered, course_open, ending_quit, ending_memory, shut_by_fault}
use Rattle.conn_server.specs.Course.{desk_side}
use Rattle.conn_server.proofs.serving.Serving.answer_any.Goals as goal

pub returns-in-Ok-Some-Lease-Quit-clause-ends : goal.returns-in-Ok-Some-Lease-Quit-clause-ends
returns-in-Ok-Some-Lease-Quit-clause-ends g c =
    let is : c.next_said-next.result ≡ Ok (Some (said.Lease Quit)) = cc in
    let t = next_said c.args.self.now.framer c.next_said-next.new.framer c.next_said-next.result (said.Lease Quit) c.next_said-next.ensures is in
    λ start rounds course.
    ending_quit start rounds (g.L.Sink.read_side c.args.line.now) (g.L.Source.write_side c.args.line.now) (desk_side g.D.Desk.record_of g.D.Desk.tends g.P.PlainDesk.record_of c.args.desk.now c.args.plain.now) c.args.self.now _ t.taken t.stands refl refl course

pub returns-in-Ok-Some-Lease : goal.returns-in-Ok-Some-Lease
returns-in-Ok-Some-Lease g c =
    let is : c.next_said-next.result ≡ Ok (Some (said.Lease c.in-Ok-Some-Lease.command)) = cc in
    let t = next_said c.args.self.now.framer c.next_said-next.new.framer c.next_said-next.result (said.Lease c.in-Ok-Some-Lease.command) c.next_said-next.ensures is in
    let heard = outgoing.Lease c.answer-reply.result in
    let a : Answered (desk_side g.D.Desk.record_of g.D.Desk.tends g.P.PlainDesk.record_of c.args.desk.now c.args.plain.now) (desk_side g.D.Desk.record_of g.D.Desk.tends g.P.PlainDesk.record_of c.tell.new.desk c.args.plain.now) c.args.self.now c.tell.new.self heard =
    record {
      item = command c.in-Ok-Some-Lease.command;
      taken = t.taken;
      calls = c.answer-reply.ensures.answers.calls;
      stands = t.stands;
      framer = c.tell.ensures.framer ∙ t.goes_on;
      tended = c.tell.ensures.tended ∙ ap one_more c.answer-reply.ensures.untended;
      plains = refl;
      asks = c.tell.ensures.asks_nothing ∙ c.answer-reply.ensures.answers.record_is;
      answers = subst (λ (x : Client). ItemAnswers c.args.self.now.client (command c.in-Ok-Some-Lease.command) c.answer-reply.ensures.answers.calls heard x)
          (sym c.tell.ensures.client) c.answer-reply.ensures.answers.answers;
      count = c.tell.ensures.counts;
    } in
    record {
      within = tells_within c.tell.result heard _ _ _ c.tell.new.self c.tell.ensures.tells;
      counts = λ e. c.tell.ensures.counts;
      stops = λ e. absurd (tells_more c.tell.result heard _ _ _ c.tell.new.self c.tell.ensures.tells e);
      goes_on = answered_goes_on c.tell.result (g.L.Sink.read_side c.args.line.now) (g.L.Sink.read_side c.tell.new.line) (g.L.Source.write_side c.args.line.now) (g.L.Source.write_side c.tell.new.line) _ _ c.args.self.now c.tell.new.self heard c.tell.ensures.tells c.tell.ensures.keeps_reading a;
      ends = answered_ends c.tell.result (g.L.Sink.read_side c.args.line.now) (g.L.Sink.read_side c.tell.new.line) (g.L.Source.write_side c.args.line.now) (g.L.Source.write_side c.tell.new.line) _ _ c.args.self.now c.tell.new.self heard c.tell.ensures.tells c.tell.ensures.keeps_reading a;
    }

pub returns-in-Ok-Some-Plain : goal.returns-in-Ok-Some-Plain
returns-in-Ok-Some-Plain g c =
    let is : c.next_said-next.result ≡ Ok (Some (said.Plain c.in-Ok-Some-Plain.said c.in-Ok-Some-Plain.noreply)) = cc in
    let t = next_said c.args.self.now.framer c.next_said-next.new.framer c.next_said-next.result (said.Plain c.in-Ok-Some-Plain.said c.in-Ok-Some-Plain.noreply) c.next_said-next.ensures is in
    let p = c.answer_plain.ensures in
    let heard = outgoing.Plain p.tells.reply c.in-Ok-Some-Plain.noreply in
    let a : Answered (desk_side g.D.Desk.record_of g.D.Desk.tends g.P.PlainDesk.record_of c.args.desk.now c.args.plain.now) (desk_side g.D.Desk.record_of g.D.Desk.tends g.P.PlainDesk.record_of c.answer_plain.new.desk c.answer_plain.new.plain) c.args.self.now c.answer_plain.new.self heard =
    record {
      item = plain c.in-Ok-Some-Plain.said c.in-Ok-Some-Plain.noreply;
      taken = t.taken;
      calls = [];
      stands = t.stands;
      framer = p.framer ∙ t.goes_on;
      tended = p.tended;
      plains = p.tells.recorded;
      asks = p.asks_nothing;
      answers = (refl, (p.tells.belongs, refl), p.client);
      count = p.counts;
    } in
    record {
      within = tells_within c.answer_plain.result heard _ _ _ c.answer_plain.new.self p.tells.tells;
      counts = λ e. p.counts;
      stops = λ e. absurd (tells_more c.answer_plain.result heard _ _ _ c.answer_plain.new.self p.tells.tells e);
      goes_on = answered_goes_on c.answer_plain.result (g.L.Sink.read_side c.args.line.now) (g.L.Sink.read_side c.answer_plain.new.line) (g.L.Source.write_side c.args.line.now) (g.L.Source.write_side c.answer_plain.new.line) _ _ c.args.self.now c.answer_plain.new.self heard p.tells.tells p.keeps_reading a;
      ends = answered_ends c.answer_plain.result (g.L.Sink.read_side c.args.line.now) (g.L.Sink.read_side c.answer_plain.new.line) (g.L.Source.write_side c.args.line.now) (g.L.Source.write_side c.answer_plain.new.line) _ _ c.args.self.now c.answer_plain.new.self heard p.tells.tells p.keeps_reading a;
    }

pub returns-in-Ok-None-clause-goes_on : goal.returns-in-Ok-None-clause-goes_on
returns-in-Ok-None-clause-goes_on g c =
    let is : c.next_said-next.result ≡ Ok None = cc in
    let same = next_none c.args.self.now.framer c.next_said-next.new.framer c.next_said-next.result c.next_said-next.ensures is in
    λ start rounds course.
    course_open start rounds (g.L.Sink.read_side c.args.line.now) (g.L.Source.write_side c.args.line.now) (desk_side g.D.Desk.record_of g.D.Desk.tends g.P.PlainDesk.record_of c.args.desk.now c.args.plain.now) c.args.self.now _ same refl refl refl course

pub returns-in-BadLine-clause-goes_on : goal.returns-in-BadLine-clause-goes_on
returns-in-BadLine-clause-goes_on g c =
    let f = next_fault c.args.self.now.framer c.next_said-next.new.framer c.next_said-next.result c.in-Err.fault _ c.next_said-next.ensures
    c.in-Err.is c.in-BadLine.is in
    let t = c.answer_bad_line.ensures in
    let a = bad_line_answered (desk_side g.D.Desk.record_of g.D.Desk.tends g.P.PlainDesk.record_of c.args.desk.now c.args.plain.now) (desk_side g.D.Desk.record_of g.D.Desk.tends g.P.PlainDesk.record_of c.answer_bad_line.new.desk c.args.plain.now) c.args.self.now
    c.answer_bad_line.new.self _ c.next_said-next.new.framer f t.framer t.asks_nothing t.tended refl t.client t.counts in
    answered_goes_on c.answer_bad_line.result (g.L.Sink.read_side c.args.line.now) (g.L.Sink.read_side c.answer_bad_line.new.line) (g.L.Source.write_side c.args.line.now) (g.L.Source.write_side c.answer_bad_line.new.line) _ _ c.args.self.now c.answer_bad_line.new.self (outgoing.Lease LineReply.BadLine) t.tells t.keeps_reading a

pub returns-in-BadLine-clause-ends : goal.returns-in-BadLine-clause-ends
returns-in-BadLine-clause-ends g c =
    let f = next_fault c.args.self.now.framer c.next_said-next.new.framer c.next_said-next.result c.in-Err.fault _ c.next_said-next.ensures
    c.in-Err.is c.in-BadLine.is in
    let t = c.answer_bad_line.ensures in
    let a = bad_line_answered (desk_side g.D.Desk.record_of g.D.Desk.tends g.P.PlainDesk.record_of c.args.desk.now c.args.plain.now) (desk_side g.D.Desk.record_of g.D.Desk.tends g.P.PlainDesk.record_of c.answer_bad_line.new.desk c.args.plain.now) c.args.self.now
    c.answer_bad_line.new.self _ c.next_said-next.new.framer f t.framer t.asks_nothing t.tended refl t.client t.counts in
    answered_ends c.answer_bad_line.result (g.L.Sink.read_side c.args.line.now) (g.L.Sink.read_side c.answer_bad_line.new.line) (g.L.Source.write_side c.args.line.now) (g.L.Source.write_side c.answer_bad_line.new.line) _ _ c.args.self.now c.answer_bad_line.new.self (outgoing.Lease LineReply.BadLine) t.tells t.keeps_reading a

pub returns-in-Memory-clause-ends : goal.returns-in-Memory-clause-ends
returns-in-Memory-clause-ends g c =
    λ start rounds course.
    ending_memory start rounds (g.L.Sink.read_side c.args.line.now) (g.L.Source.write_side c.args.line.now) (desk_side g.D.Desk.record_of g.D.Desk.tends g.P.PlainDesk.record_of c.args.desk.now c.args.plain.now) c.args.self.now _ refl refl course

pub returns-in-LongLine-clause-ends : goal.returns-in-LongLine-clause-ends
returns-in-LongLine-clause-ends g c =
    let f = next_fault c.args.self.now.framer c.next_said-next.new.framer c.next_said-next.result c.in-Err.fault c.in-Err.fault c.next_said-next.ensures
    c.in-Err.is refl in
    λ start rounds course.
    shut_by_fault c.shut.result c.in-Err.fault start rounds (g.L.Sink.read_side c.args.line.now) (g.L.Sink.read_side c.shut.new.line) (g.L.Source.write_side c.args.line.now) (g.L.Source.write_side c.shut.new.line)
    (desk_side g.D.Desk.record_of g.D.Desk.tends g.P.PlainDesk.record_of c.args.desk.now c.args.plain.now)
    c.args.self.now c.shut.new.self c.next_said-next.new.framer c.in-LongLine.is f c.shut.ensures.shuts c.shut.ensures.keeps_reading
    c.shut.ensures.client course
