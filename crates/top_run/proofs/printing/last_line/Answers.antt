use Rattle.std.proofs.Common.{refl}
use Rattle.core_history.specs.Cores.{histories_in}
use Rattle.top_run.proofs.PrintLemmas.{end_line_is}
use Rattle.top_run.proofs.printing.last_line.Goals as goal

pub returns : goal.returns
returns g c = λ origin moves kept.
    rw (
      end_line_is c.args.core.now.store.ledger.log (histories_in c.args.core.now),
      c.in_ok-push.ensures.items,
      c.in_ok-push_number-4.ensures,
      c.in_ok-extend_from_slice-3.ensures.items,
      c.in_ok-push_number-3.ensures,
      c.in_ok-extend_from_slice-2.ensures.items,
      c.in_ok-push_number-2.ensures,
      c.in_ok-extend_from_slice.ensures.items,
      c.in_ok-push_number.ensures,
      c.in_ok-text.ensures.items,
      c.counts_in-counts.ensures.hits,
      c.counts_in-counts.ensures.stores,
      c.counts_in-counts.ensures.agains,
      c.log.ensures.items origin moves kept,
    ) refl
