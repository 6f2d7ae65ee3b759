use Rattle.top_run.proofs.SummaryLemmas.{clean_line_is}
use Rattle.top_run.proofs.summaries.push_clean.Goals as goal

pub returns : goal.returns
returns c = rw (c.in_ok-push.ensures.items, c.in_ok-extend_from_slice.ensures.items) (clean_line_is c.args.text.now.items)
