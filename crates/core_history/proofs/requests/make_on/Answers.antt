use Rattle.core_history.proofs.RequestLemmas.{asked_at, request_made}
use Rattle.core_history.proofs.requests.make_on.Goals as goal

pub returns-clause-makes : goal.returns-clause-makes
returns-clause-makes c shape world has time =
    let shards = c.args.shards.now.items in
    let place = c.home_of-place in
    let old = c.index_mut.result.now in
    let asked =
    asked_at shards c.args.request c.args.key place.result old c.requires.key c.requires.home place.ensures.is place.ensures.within
    c.index_mut.ensures.value in
    request_made shape world c.args.who c.args.request c.args.now shards place.result old c.on_shard.new.shard
    c.on_shard.result c.unless_memory.result asked c.requires.out time has c.on_shard.ensures.makes c.unless_memory.ensures
