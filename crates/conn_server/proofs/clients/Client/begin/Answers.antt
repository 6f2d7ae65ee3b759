use Rattle.std.proofs.Common.{refl}
use Rattle.conn_server.proofs.AnswerLemmas.{begun}
use Rattle.conn_server.proofs.clients.Client.begin.Goals as goal

pub returns-in-Ok-clause-answers : goal.returns-in-Ok-clause-answers
returns-in-Ok-clause-answers g c =
    rw (← c.self.view_is)
    (begun (g.D.Desk.record_of c.args.desk.now) (g.D.Desk.record_of c.begin.new.self) (record { present = c.self.inside.present; grants = c.self.inside.grants })
    c.args.role c.is_writer.result c.in-Ok.sid c.first_stage-stage.result c.self.inside.grants c.is_writer.ensures c.in-Ok.ensures.recorded
    c.first_stage-stage.ensures refl)
