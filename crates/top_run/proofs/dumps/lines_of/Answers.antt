use Rattle.std.proofs.Common.{arith}
use Rattle.top_run.proofs.WarmingLemmas.{lines_more}
use Rattle.top_run.proofs.dumps.lines_of.Goals as goal

pub loop-dumped-preserved : goal.loop-dumped-preserved
loop-dumped-preserved c =
    lines_more c.loop-dumped.text.items _ c.args.dumps.now c.loop-dumped.dumped-index c.dumped-item.result
    (omega arith) c.dumped-item.is c.loop-dumped.invariant c.in_ok-push_dump.ensures
