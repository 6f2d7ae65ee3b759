use Rattle.std.proofs.Common.{◌≡◌, ap, ◌∙◌, arith}
use Rattle.std.specs.Prelude.{count_by}
use Rattle.top_run.specs.Works.{test_of}
use Rattle.top_run.proofs.SummaryLemmas.{counted_next}
use Rattle.top_run.proofs.WorkLemmas.{whole_at}
use Rattle.top_run.proofs.summaries.counted_in.Goals as goal

pub loop-shard-preserved : goal.loop-shard-preserved
loop-shard-preserved c =
    let shards = c.args.shards.now in
    let i = c.loop-shard.shard-index in
    let shard = c.shard-item.result in
    let test = test_of c.args.counted in
    let whole = whole_at shards i shard (omega arith) c.shard-item.is c.requires.whole in
    let here : c.counted_of.result ≡ count_by test shard.history = c.counted_of.ensures ∙ ap (count_by test) (c.history.ensures.whole whole) in (
      counted_next test shards i shard c.loop-shard.count c.counted_of.result (omega arith) c.shard-item.is c.loop-shard.invariant.0 here,
      grind (arith, c.loop-shard.invariant.1),
    )
