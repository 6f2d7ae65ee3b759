use Rattle.std.proofs.Common.{sym, subst}
use Rattle.desk_book.specs.Borne.{IsForm}
use Rattle.desk_book.proofs.books.Book.form.Goals as goal

pub returns-in-Commit-clause-form : goal.returns-in-Commit-clause-form
returns-in-Commit-clause-form c =
    subst (λ r. IsForm c.args.self.now.book c.args.who r c.commit_form.result) (sym c.in-Commit.is) (c.commit_form.ensures c.in-Commit.txn)
