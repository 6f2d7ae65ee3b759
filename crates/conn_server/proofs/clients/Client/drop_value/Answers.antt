use Rattle.conn_server.proofs.AnswerLemmas.{made_drop}
use Rattle.conn_server.proofs.clients.Client.drop_value.Goals as goal

pub returns-clause-answers : goal.returns-clause-answers
returns-clause-answers g c = (
  c.take_on-grant.result.1,
  c.take_on-grant.ensures.grant,
  λ sid. made_drop _ _ c.args.self.now c.take_on-grant.new.self c.asker-who.result c.args.key sid c.take_on-grant.result.1 c.call.result _
      c.asker-who.ensures c.call.ensures.belongs c.call.ensures.recorded c.tell_release.ensures c.take_on-grant.ensures.others,
)
