use Rattle.top_run.proofs.SummaryLemmas.{stale_line_is}
use Rattle.top_run.proofs.summaries.push_stale.Goals as goal

pub returns : goal.returns
returns c =
    rw (c.in_ok-push.ensures.items, c.in_ok-push_field-2.ensures, c.in_ok-push_field.ensures) (stale_line_is c.args.text.now.items c.args.shard c.args.place)
