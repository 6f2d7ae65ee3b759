use Rattle.std.proofs.Common.{sym, subst}
use Rattle.session_client.specs.Belongs.{Belongs}
use Rattle.bound_desk.specs.AtStore.{ShowsAtStore}
use Rattle.bound_desk.proofs.bound_books.BoundBook.at_store.Goals as goal

pub returns-in-Staged-clause-belongs : goal.returns-in-Staged-clause-belongs
returns-in-Staged-clause-belongs g c =
    subst (λ r. Belongs c.args.who r c.reply_to_stage.result) (sym c.in-Staged.is) (c.reply_to_stage.ensures.belongs c.args.who)

pub returns-in-Staged-clause-shows : goal.returns-in-Staged-clause-shows
returns-in-Staged-clause-shows g c =
    subst (λ r. ShowsAtStore g.H.HubName.opening g.H.HubName.cap c.args.self.now.book.book c.args.who r c.reply_to_stage.result c.args.self.now.seen c.reply_to_stage.new.self.seen)
    (sym c.in-Staged.is) (c.reply_to_stage.ensures.shows c.args.self.now.book.book c.args.who)
