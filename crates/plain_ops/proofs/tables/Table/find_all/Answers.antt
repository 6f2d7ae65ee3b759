use Rattle.plain_ops.proofs.EntryLemmas.{found_next}
use Rattle.plain_ops.proofs.tables.Table.find_all.Goals as goal

pub loop-key-preserved : goal.loop-key-preserved
loop-key-preserved c =
    found_next c.args.self.now c.args.keys.now c.loop-key.key-index c.key-item.result c.loop-key.found.items c.tell.new.found.items
    c.loop-key-test.true c.key-item.is c.loop-key.invariant c.in_ok-tell.ensures
