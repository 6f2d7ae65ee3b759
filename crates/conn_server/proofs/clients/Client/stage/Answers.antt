use Rattle.std.proofs.Common.{Some}
use Rattle.mc_text.specs.declared.commands.Command.TheVariants as commands
use Rattle.session_client.specs.declared.replies.Wanted.TheVariants as wanted
use Rattle.conn_server.proofs.AnswerLemmas.{made_question, stages}
use Rattle.conn_server.proofs.clients.Client.stage.Goals as goal

pub returns-clause-answers : goal.returns-clause-answers
returns-clause-answers g c = λ sid.
    made_question _ _ c.args.self.now c.asker.result (wanted.Staged c.args.key c.args.txn) (commands.Stage (Some c.args.key) sid c.args.txn)
    c.call.result _ c.asker.ensures c.call.ensures.belongs c.call.ensures.recorded
    (c.tell_staged.ensures c.asker.result sid c.args.txn c.call.ensures.belongs)
    (stages c.asker.result c.args.key c.args.txn c.call.result c.call.ensures.belongs)
