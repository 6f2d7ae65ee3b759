use Rattle.key_shard.specs.Shards.{past_of}
use Rattle.executor.proofs.GotLemmas.{got_belongs}
use Rattle.executor.proofs.shards.get.Goals as goal

pub returns-in-Ok-clause-belongs : goal.returns-in-Ok-clause-belongs
returns-in-Ok-clause-belongs c =
    got_belongs c.args.shard.now.terms (past_of c.args.shard.now) c.args.key c.args.who c.args.floor c.args.now c.in-Ok.got c.in-Ok.ensures.shows
