use Rattle.top_run.proofs.WarmingLemmas.{dump_line_is}
use Rattle.top_run.proofs.dumps.push_dump.Goals as goal

pub returns : goal.returns
returns c =
    rw (
      c.in_ok-push.ensures.items,
      c.in_ok-push_field-3.ensures,
      c.in_ok-push_field-2.ensures,
      c.in_ok-push_field.ensures,
      c.as_slice.ensures,
      c.requires,
    )
    (dump_line_is c.args.text.now.items c.args.dumped.now.dump)
