use Rattle.key_shard.specs.Shards.{past_of}
use Rattle.session_client.proofs.QuarantineLemmas.{quarantine_belongs_in}
use Rattle.test_connections.proofs.test_desk.TestDesk.quarantine.Goals as goal

pub returns-in-Ok-clause-invalidate : goal.returns-in-Ok-clause-invalidate
returns-in-Ok-clause-invalidate c = λ is.
    quarantine_belongs_in c.args.self.now.shard.terms
    (past_of c.args.self.now.shard) c.args.key c.args.who c.args.mode _ _ _ c.in-Ok.answer c.in-Ok.ensures.shows is

pub returns-in-Ok-clause-refresh : goal.returns-in-Ok-clause-refresh
returns-in-Ok-clause-refresh c = λ is.
    quarantine_belongs_in c.args.self.now.shard.terms
    (past_of c.args.self.now.shard) c.args.key c.args.who c.args.mode _ _ _ c.in-Ok.answer c.in-Ok.ensures.shows is

pub returns-in-Ok-clause-delta : goal.returns-in-Ok-clause-delta
returns-in-Ok-clause-delta c = λ is.
    quarantine_belongs_in c.args.self.now.shard.terms
    (past_of c.args.self.now.shard) c.args.key c.args.who c.args.mode _ _ _ c.in-Ok.answer c.in-Ok.ensures.shows is
