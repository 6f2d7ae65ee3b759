use Rattle.std.proofs.Common.{refl}
use Rattle.top_run.proofs.ServeLemmas.{served_is}
use Rattle.top_run.proofs.serves.served_line.Goals as goal

pub returns : goal.returns
returns c =
    rw (
      served_is c.args.lines,
      c.in_ok-push.ensures.items,
      c.in_ok-extend_from_slice.ensures.items,
      c.as_bytes.ensures.value,
      c.format.ensures.text,
      c.in_ok-text.ensures.items,
    ) refl
