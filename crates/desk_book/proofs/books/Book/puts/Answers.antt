use Rattle.std.proofs.Common.{sym, ap, ◌∙◌}
use Rattle.desk_book.specs.Books.{BookView}
use Rattle.desk_book.proofs.PutLemmas.{put_done}
use Rattle.desk_book.proofs.books.Book.puts.Goals as goal

pub returns : goal.returns
returns c =
    put_done c.args.self.now.book c.args.who c.args.grant.now c.args.value.now c.args.stamp c.in-Some.done c.refreshes.result
    (ap (λ (b : BookView). b.book.commit) (sym c.self.view_is) ∙ c.in-Some.is) c.if-done-stamp.false (c.is_own.ensures.0 c.if-not-is_own.false) c.refreshes.ensures
