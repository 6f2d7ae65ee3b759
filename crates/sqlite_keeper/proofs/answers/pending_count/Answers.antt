use Rattle.std.proofs.Common.{decimal, sym, ap, ◌∙◌}
use Rattle.sqlite_keeper.proofs.AnswerLemmas.{invited_counted}
use Rattle.sqlite_keeper.proofs.answers.pending_count.Goals as goal

pub returns-clause-told : goal.returns-clause-told
returns-clause-told g c clean lists are fit =
    let to = c.in_ok-to.ensures.found clean lists are in
    let text = rw (c.as_slice.ensures.value, to) at c.in_ok-pending_count_text.ensures in
    text ∙ sym (ap decimal (invited_counted c.args.id lists.pairs))
