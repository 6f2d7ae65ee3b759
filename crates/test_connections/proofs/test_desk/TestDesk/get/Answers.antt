use Rattle.key_shard.specs.Shards.{past_of}
use Rattle.executor.proofs.GotLemmas.{got_belongs}
use Rattle.test_connections.proofs.test_desk.TestDesk.get.Goals as goal

pub returns-in-Ok : goal.returns-in-Ok
returns-in-Ok c =
    let shard = c.args.self.now.shard in
    got_belongs shard.terms (past_of shard) c.args.key c.args.who c.args.floor 0 c.in-Ok.got c.in-Ok.ensures.shows
