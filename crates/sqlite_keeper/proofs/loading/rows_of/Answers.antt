use Rattle.std.proofs.Common.{take}
use Rattle.sqlite_tables.specs.Lists.{Lists}
use Rattle.sqlite_keeper.proofs.LoadLemmas.{put_next, so_far}
use Rattle.sqlite_keeper.proofs.loading.rows_of.Goals as goal

pub loop-pair-preserved : goal.loop-pair-preserved
loop-pair-preserved c order =
    let members = c.args.members.items in
    let pairs = c.args.pairs.now in
    let at = c.loop-pair.pair-index in
    let before : Lists = record { members = members; pairs = take at pairs } in
    put_next members pairs at _ c.put.new.rows c.loop-pair-test.true order
    (c.in_ok-put.ensures before (c.loop-pair.invariant order) (so_far pairs at order))
