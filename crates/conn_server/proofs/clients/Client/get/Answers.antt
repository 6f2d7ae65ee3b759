use Rattle.std.proofs.Common.{Some}
use Rattle.mc_text.specs.declared.commands.Command.TheVariants as commands
use Rattle.session_client.specs.Belongs.{get_reply}
use Rattle.session_client.specs.declared.replies.Wanted.TheVariants as wanted
use Rattle.conn_server.proofs.AnswerLemmas.{looks, made_question}
use Rattle.conn_server.proofs.clients.Client.get.Goals as goal

pub returns-clause-answers : goal.returns-clause-answers
returns-clause-answers g c = λ sid.
    made_question _ _ c.args.self.now c.asker.result (wanted.Get c.args.key c.args.floor) (commands.IqGet (Some c.args.key) sid c.args.floor)
    (get_reply c.get.result) _ c.asker.ensures c.get.ensures.belongs c.get.ensures.recorded
    (c.tell_lookup.ensures c.asker.result sid c.args.floor c.get.ensures.belongs)
    (looks c.asker.result c.args.key c.args.floor (get_reply c.get.result) c.get.ensures.belongs)
