use Rattle.std.proofs.Common.{sym, ap, ◌∙◌}
use Rattle.rows_model.specs.Query.{id_list}
use Rattle.sqlite_keeper.proofs.AnswerLemmas.{barred}
use Rattle.sqlite_keeper.proofs.answers.blocked.Goals as goal

pub returns-clause-told : goal.returns-clause-told
returns-clause-told g c clean lists are fit =
    let from = c.in_ok-from.ensures.found clean lists are in
    let text = rw (c.as_slice.ensures.value, from) at c.in_ok-blocked_text.ensures in
    text ∙ sym (ap id_list (barred c.args.id lists.pairs))
