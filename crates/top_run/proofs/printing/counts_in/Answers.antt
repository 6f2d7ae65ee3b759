use Rattle.core_history.specs.Cores.{histories_in}
use Rattle.core_history.specs.Lines.{is_hit, is_stored, is_again}
use Rattle.top_run.proofs.PrintLemmas.{counted_more, bound_more}
use Rattle.top_run.proofs.printing.counts_in.Goals as goal

pub loop-shard-preserved : goal.loop-shard-preserved
loop-shard-preserved g c =
    let inv = c.loop-shard.invariant in
    let all = histories_in c.args.core.now in
    let i = c.loop-shard.shard in
    let history = c.history-history.result.now in
    let is = c.history-history.ensures in (
      counted_more is_hit all i history c.loop-shard.counts.hits c.hits_in.result is inv.0 c.hits_in.ensures,
      counted_more is_stored all i history c.loop-shard.counts.stores c.stores_in.result is inv.1 c.stores_in.ensures,
      counted_more is_again all i history c.loop-shard.counts.agains c.agains_in.result is inv.2 c.agains_in.ensures,
      bound_more c.loop-shard.counts.hits c.hits_in.result i inv.3 c.hits_in.type_inv,
      bound_more c.loop-shard.counts.stores c.stores_in.result i inv.4 c.stores_in.type_inv,
      bound_more c.loop-shard.counts.agains c.agains_in.result i inv.5 c.agains_in.type_inv,
    )
