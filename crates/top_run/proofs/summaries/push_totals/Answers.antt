use Rattle.run_audit.specs.Findings.{histories_in}
use Rattle.top_run.proofs.SummaryLemmas.{totals_line_is}
use Rattle.top_run.proofs.summaries.push_totals.Goals as goal

pub returns : goal.returns
returns c =
    rw (
      c.in_ok-push.ensures.items,
      c.in_ok-push_field-8.ensures,
      c.in_ok-push_field-7.ensures,
      c.in_ok-push_field-6.ensures,
      c.in_ok-push_field-5.ensures,
      c.in_ok-push_field-4.ensures,
      c.in_ok-push_field-3.ensures,
      c.in_ok-push_field-2.ensures,
      c.in_ok-push_field.ensures,
      c.counted_in.ensures,
      c.counted_in-2.ensures,
      c.counted_in-3.ensures,
      c.counted_in-4.ensures,
      c.counted_in-5.ensures,
    )
    (totals_line_is c.args.text.now.items c.args.log.now (histories_in c.args.shards.now) c.args.others.bypasses c.args.others.rejected)
