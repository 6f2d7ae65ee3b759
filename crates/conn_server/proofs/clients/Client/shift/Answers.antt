use Rattle.std.proofs.Common.{ℤ, w32, to_z, of_z, Some, false, subst}
use Rattle.std.proofs.lemmas.Int.{to_z-of_z}
use Rattle.mc_text.specs.declared.commands.Command.TheVariants as commands
use Rattle.session_client.specs.declared.replies.Wanted.TheVariants as wanted
use Rattle.conn_server.specs.Answers.{Makes}
use Rattle.conn_server.proofs.AnswerLemmas.{made_quarantine, shifts, shift_reply}
use Rattle.conn_server.proofs.clients.Client.shift.Goals as goal

pub returns-clause-answers : goal.returns-clause-answers
returns-clause-answers g c = λ sid.
    let who = rw (← c.self.view_is) at c.asker.ensures in
    let belongs = c.call-heard.ensures.belongs in
    let by = to_z w32 (of_z w32 c.args.by) in
    let answers = shifts c.asker.result c.args.key by c.call-heard.result belongs in
    rw (← c.self.view_is) (subst (λ (by : ℤ). Makes (g.D.Desk.record_of c.args.desk.now) (g.D.Desk.record_of c.call-heard.new.self)
    (record { present = c.self.inside.present; grants = c.self.inside.grants }) (wanted.Delta c.args.key by)
    (commands.IqDelta (Some c.args.key) sid by) c.tell_quarantine.result
    (record { present = c.self.inside.present; grants = c.tell_quarantine.new.grants })) (to_z-of_z w32 c.args.by c.ranges.by)
    (made_quarantine _ _ (record { present = c.self.inside.present; grants = c.self.inside.grants }) c.asker.result
    c.tell_quarantine.new.grants (wanted.Delta c.args.key by) (commands.IqDelta (Some c.args.key) sid by) false
    c.call-heard.result _ who belongs c.call-heard.ensures.recorded answers
    (shift_reply c.args.key sid by c.call-heard.result answers)
    c.tell_quarantine.ensures.told c.tell_quarantine.ensures.items c.tell_quarantine.ensures.room))
