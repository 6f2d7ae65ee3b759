use Rattle.std.proofs.Common.{Some, false}
use Rattle.mc_text.specs.declared.commands.Command.TheVariants as commands
use Rattle.session_client.specs.declared.replies.Wanted.TheVariants as wanted
use Rattle.conn_server.proofs.AnswerLemmas.{invalidates, made_quarantine, invalidate_reply}
use Rattle.conn_server.proofs.clients.Client.invalidate.Goals as goal

pub returns-clause-answers : goal.returns-clause-answers
returns-clause-answers g c = λ sid.
    let who = rw (← c.self.view_is) at c.asker.ensures in
    let belongs = c.call-heard.ensures.belongs in
    let answers = invalidates c.asker.result c.args.key c.call-heard.result belongs in
    rw (← c.self.view_is) (made_quarantine _ _ (record { present = c.self.inside.present; grants = c.self.inside.grants }) c.asker.result
    c.tell_quarantine.new.grants (wanted.QaReg c.args.key) (commands.QaReg (Some c.args.key) sid) false
    c.call-heard.result _ who belongs c.call-heard.ensures.recorded answers
    (invalidate_reply c.args.key sid c.call-heard.result answers) c.tell_quarantine.ensures.told c.tell_quarantine.ensures.items c.tell_quarantine.ensures.room)
