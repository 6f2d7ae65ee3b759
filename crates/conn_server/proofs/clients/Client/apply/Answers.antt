use Rattle.std.proofs.Common.{ℕ, ◌≡◌, Some, sym, subst, ◌∙◌}
use Rattle.std.proofs.lemmas.Option.{same_Some}
use Rattle.lease_table.specs.declared.records.Mode.TheVariants as modes
use Rattle.key_shard.specs.Permit.{Permit}
use Rattle.mc_text.specs.declared.commands.Command.TheVariants as commands
use Rattle.session_client.specs.declared.replies.Wanted.TheVariants as wanted
use Rattle.conn_server.specs.Answers.{Makes}
use Rattle.conn_server.proofs.AnswerLemmas.{made_shift}
use Rattle.conn_server.proofs.clients.Client.apply.Goals as goal

pub take_on-grant-requires : goal.take_on-grant-requires
take_on-grant-requires g c = record { grant = c.requires.grant; is_first = c.requires.is_first }

pub call-requires : goal.call-requires
call-requires g c =
    subst (λ (grant : Permit). grant.mode ≡ modes.Delta)
    (same_Some c.requires.grant c.take_on-grant.result.1 (sym c.requires.is_first ∙ c.take_on-grant.ensures.grant)) c.requires.in_mode

pub returns-clause-answers : goal.returns-clause-answers
returns-clause-answers g c = (
  c.take_on-grant.result.1,
  c.take_on-grant.ensures.grant,
  λ sid. subst (λ (stamp : ℕ). Makes (g.D.Desk.record_of c.args.desk.now) (g.D.Desk.record_of c.call.new.self) c.args.self.now
      (wanted.Apply c.take_on-grant.result.1 stamp) (commands.IqCommit (Some c.args.key) sid) c.tell_release.result c.take_on-grant.new.self) c.stamp-stamp.ensures
      (made_shift _ _ c.args.self.now c.take_on-grant.new.self c.asker-who.result c.args.key sid c.take_on-grant.result.1 c.stamp-stamp.result c.call.result _
      c.asker-who.ensures c.call.ensures.belongs c.call.ensures.recorded c.tell_release.ensures c.take_on-grant.ensures.others),
)
