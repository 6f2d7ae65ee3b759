use Rattle.std.proofs.Common.{subst}
use Rattle.shard_dump.specs.declared.faults.LoadFault.{LoadFault}
use Rattle.shard_dump.specs.Loads.{StopsShard, last_session}
use Rattle.top_run.specs.Warming.{CanLoad}
use Rattle.top_run.proofs.WarmingLemmas.{beside_still, keeps_loaded, loaded_with, new_blank, no_spent, no_stranger}
use Rattle.top_run.proofs.loads.load_one.Goals as goal

pub load-requires-clause-empty : goal.load-requires-clause-empty
load-requires-clause-empty g c = new_blank c.args.shard c.requires.can.new

pub unreachable-requires : goal.unreachable-requires
unreachable-requires g c =
    no_stranger c.args.store.now.known_rows c.args.store.now.ledger.opening c.args.rows.items c.args.shard _ c.requires.can
    (subst (λ (fault : LoadFault). StopsShard (last_session c.load.new.store) c.args.now c.args.rows.items c.args.shard c.load.new.shard fault) c.in-Err-Stranger.field-0-is
    c.in-Err-Stranger.ensures.shard).0

pub unreachable-requires-in-Err-Spent : goal.unreachable-requires-in-Err-Spent
unreachable-requires-in-Err-Spent g c =
    no_spent c.args.store.now.known_rows c.args.store.now.ledger.opening c.args.rows.items _ c.args.now _ c.args.shard c.load.new.shard c.requires.can
    (subst (λ (fault : LoadFault). StopsShard (last_session c.load.new.store) c.args.now c.args.rows.items c.args.shard c.load.new.shard fault) c.in-Err-Spent.field-0-is
    c.in-Err-Spent.ensures.shard).1

pub returns-in-Ok-clause-loaded : goal.returns-in-Ok-clause-loaded
returns-in-Ok-clause-loaded g c =
    let old = c.args.store.now in
    let new = c.load.new.store in
    let keeps = keeps_loaded old new c.load.result c.load.ensures.reader c.load.ensures.store c.load.ensures.keeper.0 c.load.ensures.keeper.1 in
    loaded_with new.known_rows new.ledger.opening c.args.rows.items c.args.shard c.load.new.shard _ c.args.now
    (beside_still (λ rows opening. CanLoad rows opening c.args.rows.items c.args.shard) old new keeps c.requires.can)
    c.in-Ok.ensures.loaded c.in-Ok.ensures.right c.history.ensures.legal

pub returns-in-Ok-clause-keeps_on : goal.returns-in-Ok-clause-keeps_on
returns-in-Ok-clause-keeps_on g c =
    keeps_loaded c.args.store.now c.load.new.store c.load.result c.load.ensures.reader c.load.ensures.store c.load.ensures.keeper.0 c.load.ensures.keeper.1

pub returns-in-Err-Memory-clause-keeps_on : goal.returns-in-Err-Memory-clause-keeps_on
returns-in-Err-Memory-clause-keeps_on g c =
    keeps_loaded c.args.store.now c.load.new.store c.load.result c.load.ensures.reader c.load.ensures.store c.load.ensures.keeper.0 c.load.ensures.keeper.1
