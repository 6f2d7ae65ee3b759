use Rattle.std.proofs.Common.{arith}
use Rattle.std.proofs.lemmas.List.{take_all}
use Rattle.run_audit.proofs.CoverLemmas.{grants-more, legal-more, whole-at}
use Rattle.run_audit.proofs.grants.grants_in.Goals as goal

pub loop-shard-preserved : goal.loop-shard-preserved
loop-shard-preserved c =
    let i = c.loop-shard.shard-index in
    let whole = whole-at c.args.shards.now i c.shard-item.result (omega arith) c.shard-item.is c.requires in
    let adds = rw (c.history.ensures.whole whole) at c.in_ok-add_grants.ensures in
    let before = c.loop-shard.invariant in (
      grants-more c.args.shards.now i c.shard-item.result c.loop-shard.grants c.add_grants.new.grants (omega arith) c.shard-item.is before.0 adds,
      legal-more c.args.shards.now i c.shard-item.result (omega arith) c.shard-item.is before.1 c.history.ensures.legal,
    )

pub returns-clause-legal : goal.returns-clause-legal
returns-clause-legal c =
    let before = c.loop-shard.invariant in
    rw (take_all c.loop-shard.shard-index c.args.shards.now (omega arith)) at before.1
