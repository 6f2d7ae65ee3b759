use Rattle.callers.proofs.ShardLemmas.{shown-late}
use Rattle.callers.proofs.shards.set_too_late.Goals as goal

pub returns-clause-same : goal.returns-clause-same
returns-clause-same c =
    shown-late c.args.shard.now c.set.new.self c.args.key c.args.token c.args.value c.args.stamp c.args.now c.set.result
    c.voids_are_inert.ensures c.requires c.set.ensures.step c.set.ensures.err
