use Rattle.std.proofs.Common.{refl}
use Rattle.top_run.proofs.PrintLemmas.{print_none}
use Rattle.top_run.proofs.texts.tell.Goals as goal

pub returns-clause-told : goal.returns-clause-told
returns-clause-told g c = λ unread.
    let taken = g.W.Sink.taken c.args.sink.now in
    let said = c.say-status.ensures.said taken (print_none taken) in
    rw (
      c.not_started-end.ensures.status,
      c.not_started-end.ensures.keeper,
      c.not_started-end.ensures.opening,
      c.not_started-end.ensures.log,
      c.not_started-end.ensures.histories,
    )
    (record {
      printed = said.0;
      is_part = said.1;
      prints = said.2;
      unasked = record { rows = refl; count = refl };
      no_opening = refl;
      no_log = refl;
      no_histories = refl;
    })
