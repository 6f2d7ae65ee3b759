use Rattle.top_run.proofs.SummaryLemmas.{load_line_is}
use Rattle.top_run.proofs.summaries.push_load.Goals as goal

pub returns : goal.returns
returns c =
    rw (
      c.in_ok-push.ensures.items,
      c.in_ok-push_field-5.ensures,
      c.in_ok-push_field-4.ensures,
      c.in_ok-push_field-3.ensures,
      c.in_ok-push_field-2.ensures,
      c.in_ok-push_field.ensures,
    )
    (load_line_is c.args.text.now.items c.args.spec.now)
