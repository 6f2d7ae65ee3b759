use Rattle.std.proofs.Common.{Some}
use Rattle.mc_text.specs.declared.commands.Command.TheVariants as commands
use Rattle.session_client.specs.declared.replies.Wanted.TheVariants as wanted
use Rattle.conn_server.proofs.AnswerLemmas.{made_question, sets}
use Rattle.conn_server.proofs.clients.Client.set.Goals as goal

pub returns-clause-answers : goal.returns-clause-answers
returns-clause-answers g c = λ flags exptime bytes.
    made_question _ _ c.args.self.now c.asker.result (wanted.Set c.args.key c.args.token c.args.block c.args.stamp)
    (commands.IqSet (Some c.args.key) flags exptime bytes c.args.token c.args.stamp c.args.block)
    c.call.result _ c.asker.ensures c.call.ensures.belongs c.call.ensures.recorded
    (c.tell_set.ensures c.asker.result c.args.key flags exptime bytes c.args.token c.args.stamp c.args.block c.call.ensures.belongs)
    (sets c.asker.result c.args.key c.args.token c.args.stamp c.args.block c.call.result c.call.ensures.belongs)
