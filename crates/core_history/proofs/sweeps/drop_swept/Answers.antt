use Rattle.core_history.proofs.ShardsLemmas.{home_read, shard_found}
use Rattle.core_history.proofs.SweptLemmas.{drop_reply_is}
use Rattle.core_history.proofs.sweeps.drop_swept.Goals as goal

pub sweep_drop-requires : goal.sweep_drop-requires
sweep_drop-requires c =
    c.requires.at_home c.index_mut.result.now (home_read _ _ c.home_of-place.ensures.is c.home_of-place.ensures.within c.index_mut.ensures.value)

pub returns-clause-sweeps : goal.returns-clause-sweeps
returns-clause-sweeps c shape world has =
    let shards = c.args.shards.now.items in
    let found = home_read c.args.key shards c.home_of-place.ensures.is c.home_of-place.ensures.within c.index_mut.ensures.value in
    let is = shard_found shape world.past c.args.key shards c.home_of-place.result c.index_mut.result.now has c.home_of-place.ensures.is found in
    drop_reply_is shape world c.args.key c.args.token shards c.home_of-place.result
    c.index_mut.result.now c.sweep_drop.new.self c.sweep_drop.result has is c.sweep_drop.ensures.step c.sweep_drop.ensures.told
