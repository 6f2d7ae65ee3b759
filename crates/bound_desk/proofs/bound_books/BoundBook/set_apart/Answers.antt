use Rattle.std.proofs.Common.{All, IfOk, sym, subst}
use Rattle.desk_book.specs.Borne.{Holds}
use Rattle.desk_book.proofs.ListLemmas.{ok_gives}
use Rattle.bound_desk.specs.Bound.{BoundBookView}
use Rattle.bound_desk.proofs.GrantNotes.{left_are_held}
use Rattle.bound_desk.proofs.bound_books.BoundBook.set_apart.Goals as goal

pub returns-clause-held : goal.returns-clause-held
returns-clause-held g c =
    let book = c.self.inside.book.book in
    subst (λ (v : BoundBookView). IfOk c.set_apart.result (λ parts. All (Holds v.book.book) parts.0.items)) c.self.view_is
    (ok_gives _ (λ parts. All (Holds book) parts.0.items) c.set_apart.result
    (λ parts is. subst (All (Holds book)) (sym is) (left_are_held book c.args.grants.items)) c.set_apart.ensures.held)
