use Rattle.std.proofs.Common.{sym, ap, ◌∙◌}
use Rattle.desk_book.proofs.HeldLemmas.{says, spent_none}
use Rattle.std.proofs.Common.{position}
use Rattle.desk_book.proofs.held.spend_first.Goals as goal

pub returns-in_default : goal.returns-in_default
returns-in_default c =
    sym (spent_none c.args.ticket.now c.args.held.now.items
    (ap (λ l. position (says c.args.ticket.now) l) (sym c.as_slice.ensures.value) ∙ sym c.place_of.ensures ∙ c.in_default.is))
