use Rattle.std.proofs.Common.{ℕ, ◌≡◌, Some, sym, subst, ◌∙◌}
use Rattle.std.proofs.lemmas.Option.{same_Some}
use Rattle.lease_table.specs.declared.records.Mode.TheVariants as modes
use Rattle.key_shard.specs.Permit.{Permit}
use Rattle.mc_text.specs.declared.commands.Command.TheVariants as commands
use Rattle.mc_text.specs.declared.replies.LineReply.TheVariants as LineReply
use Rattle.session_client.specs.declared.replies.Wanted.TheVariants as wanted
use Rattle.conn_server.specs.Answers.{Makes}
use Rattle.conn_server.specs.Clients.{grants_but}
use Rattle.conn_server.proofs.AnswerLemmas.{back_from_put, made_put, put_in_place}
use Rattle.conn_server.proofs.clients.Client.put.Goals as goal

pub take_on-place-requires : goal.take_on-place-requires
take_on-place-requires g c = record { grant = c.requires.grant; is_first = c.requires.is_first }

pub call-requires : goal.call-requires
call-requires g c =
    subst (λ (grant : Permit). grant.mode ≡ modes.Refresh)
    (same_Some c.requires.grant c.take_on-place.result.1 (sym c.requires.is_first ∙ c.take_on-place.ensures.grant)) c.requires.in_mode

pub returns-in-SarBack-clause-answers : goal.returns-in-SarBack-clause-answers
returns-in-SarBack-clause-answers g c = (
  c.take_on-place.result.1,
  c.take_on-place.ensures.grant,
  λ flags exptime bytes sid.
      let belongs = c.in-SarBack.ensures.belongs in
      let back = rw (← c.self.view_is) at c.take_on-place.ensures.back in
      let same = put_in_place c.args.self.now (record { present = c.self.inside.present; grants = c.self.inside.grants }) c.put_back.new.self
      (grants_but c.args.key c.args.self.now.grants.items) c.take_on-place.result.0 c.take_on-place.result.1 c.in-SarBack.grant
      (c.self.view_is ∙ c.take_on-place.ensures.others) back belongs c.put_back.ensures.items c.put_back.ensures.room in
      subst (λ (stamp : ℕ). Makes (g.D.Desk.record_of c.args.desk.now) (g.D.Desk.record_of c.call.new.self) c.args.self.now
      (wanted.Sar c.take_on-place.result.1 (Some c.args.block) stamp) (commands.Sar (Some c.args.key) flags exptime bytes sid c.args.block)
      LineReply.Memory (record { present = c.self.inside.present; grants = c.put_back.new.self })) c.stamp-stamp.ensures
      (back_from_put _ _ c.args.self.now _ c.asker-who.result c.args.key flags exptime bytes sid c.take_on-place.result.1 c.in-SarBack.grant c.args.block
      c.stamp-stamp.result c.asker-who.ensures belongs c.in-SarBack.ensures.recorded same),
)

pub returns-in_default-clause-answers : goal.returns-in_default-clause-answers
returns-in_default-clause-answers g c = (
  c.take_on-place.result.1,
  c.take_on-place.ensures.grant,
  λ flags exptime bytes sid. subst (λ (stamp : ℕ). Makes (g.D.Desk.record_of c.args.desk.now) (g.D.Desk.record_of c.call.new.self) c.args.self.now
      (wanted.Sar c.take_on-place.result.1 (Some c.args.block) stamp) (commands.Sar (Some c.args.key) flags exptime bytes sid c.args.block)
      c.tell_release.result c.take_on-place.new.self) c.stamp-stamp.ensures
      (made_put _ _ c.args.self.now c.take_on-place.new.self c.asker-who.result c.args.key flags exptime bytes sid c.take_on-place.result.1 c.args.block
      c.stamp-stamp.result c.call.result _ c.asker-who.ensures c.call.ensures.belongs c.call.ensures.recorded c.in_default.not-SarBack
      c.tell_release.ensures c.take_on-place.ensures.others),
)
