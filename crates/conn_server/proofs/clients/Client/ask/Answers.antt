use Rattle.std.proofs.Common.{Some}
use Rattle.mc_text.specs.declared.commands.Command.TheVariants as commands
use Rattle.session_client.specs.declared.replies.Wanted.TheVariants as wanted
use Rattle.conn_server.proofs.AnswerLemmas.{made_question, questions}
use Rattle.conn_server.proofs.clients.Client.ask.Goals as goal

pub returns-clause-answers : goal.returns-clause-answers
returns-clause-answers g c = λ sid.
    made_question _ _ c.args.self.now c.asker.result (wanted.Ask c.args.key) (commands.Ask (Some c.args.key) sid)
    c.call.result _ c.asker.ensures c.call.ensures.belongs c.call.ensures.recorded
    (c.tell_answer.ensures c.asker.result sid c.args.key c.call.ensures.belongs)
    (questions c.asker.result c.args.key c.call.result c.call.ensures.belongs)
