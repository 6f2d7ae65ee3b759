use Rattle.bound_desk.proofs.BoundLemmas.{book_goes_on}
use Rattle.bound_desk.proofs.WriteLemmas.{quit_goes_on}
use Rattle.bound_desk.proofs.WritingLemmas.{ready_goes_on}
use Rattle.bound_desk.proofs.bound_books.BoundBook.make_ask.Goals as goal

pub invariant_of-self : goal.invariant_of-self
invariant_of-self g c = (
  c.ask.ensures.word,
  book_goes_on g.H.HubName.opening g.H.BoundName.word.shards c.self.inside.book.book c.self.inside.pass.seen c.ask.new.pass.seen c.ask.ensures.seen c.self.invariant.1,
  ready_goes_on g.H.HubName.opening g.H.BoundName.before g.H.BoundName.word.shards c.self.inside.book.book c.self.inside.pass.seen c.ask.new.pass.seen c.ask.ensures.seen c.self.invariant.2,
  quit_goes_on c.self.inside.quit c.self.inside.pass.seen c.ask.new.pass.seen c.ask.ensures.seen c.self.invariant.3,
)
