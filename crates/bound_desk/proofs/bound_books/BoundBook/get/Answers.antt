use Rattle.log_word.proofs.ViewLemmas.{beginning_trans}
use Rattle.bound_desk.proofs.bound_books.BoundBook.get.Goals as goal

pub returns-in-Err-clause-seen : goal.returns-in-Err-clause-seen
returns-in-Err-clause-seen g c =
    beginning_trans c.args.self.now.seen c.make_get.new.self.seen c.see.new.self.seen c.make_get.ensures.seen c.see.ensures.seen
