use Rattle.top_run.proofs.SummaryLemmas.{uncovered_line_is}
use Rattle.top_run.proofs.summaries.push_uncovered.Goals as goal

pub returns : goal.returns
returns c =
    rw (
      c.in_ok-push-2.ensures.items,
      c.in_ok-extend_from_slice.ensures.items,
      c.bytes.ensures,
      c.in_ok-name.ensures,
      c.in_ok-push.ensures.items,
      c.in_ok-push_field.ensures,
    )
    (uncovered_line_is c.args.text.now.items c.args.commit c.args.key)
