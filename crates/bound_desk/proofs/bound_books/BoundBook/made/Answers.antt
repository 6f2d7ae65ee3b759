use Rattle.std.proofs.Common.{◌≡◌, Ok, sym, ap, subst, ◌∙◌}
use Rattle.bound_desk.specs.Bound.{BoundBookView}
use Rattle.bound_desk.specs.Safe.{IsSafelyMade, MadeBelongs}
use Rattle.desk_book.specs.Books.{first_book}
use Rattle.bound_desk.proofs.RecordLemmas.{made_at_first, no_put_at_first}
use Rattle.bound_desk.proofs.SafeLemmas.{made_belongs, made_is_safe}
use Rattle.bound_desk.proofs.bound_books.BoundBook.made.Goals as goal

pub returns-in-Ok-clause-safe : goal.returns-in-Ok-clause-safe
returns-in-Ok-clause-safe g c =
    let book = c.self.inside.book.book in
    subst (λ (v : BoundBookView). IsSafelyMade v.book.book c.args.who c.make.result) c.self.view_is
    (subst (IsSafelyMade book c.args.who) (sym c.make.ensures) (made_is_safe book c.args.who c.args.request c.in-Ok.form c.in-Ok.ensures.form))

pub returns-in-Ok-clause-belongs : goal.returns-in-Ok-clause-belongs
returns-in-Ok-clause-belongs g c =
    subst (MadeBelongs c.args.who c.args.request) (sym c.make.ensures)
    (made_belongs c.self.inside.book.book c.args.who c.args.request c.in-Ok.form c.in-Ok.ensures.form)

pub returns-in-Ok-clause-first : goal.returns-in-Ok-clause-first
returns-in-Ok-clause-first g c = λ writes fresh first.
    let book = c.self.inside.book.book in
    let is = subst (λ (v : BoundBookView). v.book.book ≡ first_book c.args.who writes) (sym c.self.view_is) fresh in
    ap (λ m. Ok m) (c.make.ensures ∙ made_at_first book c.args.who writes c.args.request c.in-Ok.form c.in-Ok.ensures.form is first)

pub returns-in-Err-clause-first : goal.returns-in-Err-clause-first
returns-in-Err-clause-first g c = λ writes fresh first. absurd (no_put_at_first writes c.args.request first c.in-Err.ensures.memory)
