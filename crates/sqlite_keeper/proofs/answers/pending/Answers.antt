use Rattle.std.proofs.Common.{sym, ap, ◌∙◌}
use Rattle.rows_model.specs.Query.{id_list}
use Rattle.sqlite_keeper.proofs.AnswerLemmas.{invited}
use Rattle.sqlite_keeper.proofs.answers.pending.Goals as goal

pub returns-clause-told : goal.returns-clause-told
returns-clause-told g c clean lists are fit =
    let to = c.in_ok-to.ensures.found clean lists are in
    let text = rw (c.as_slice.ensures.value, to) at c.in_ok-pending_text.ensures in
    text ∙ sym (ap id_list (invited c.args.id lists.pairs))
