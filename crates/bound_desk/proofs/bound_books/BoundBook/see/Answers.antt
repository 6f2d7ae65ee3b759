use Rattle.bound_desk.proofs.BoundLemmas.{book_goes_on}
use Rattle.bound_desk.proofs.RecordLemmas.{spent_is_seen}
use Rattle.bound_desk.proofs.WriteLemmas.{quit_goes_on}
use Rattle.bound_desk.proofs.WritingLemmas.{ready_goes_on}
use Rattle.bound_desk.proofs.bound_books.BoundBook.see.Goals as goal

pub invariant_of-self : goal.invariant_of-self
invariant_of-self g c = (
  c.tell.ensures.word,
  book_goes_on g.H.HubName.opening g.H.BoundName.word.shards c.self.inside.book.book c.self.inside.pass.seen c.tell.new.pass.seen c.tell.ensures.seen c.self.invariant.1,
  ready_goes_on g.H.HubName.opening g.H.BoundName.before g.H.BoundName.word.shards c.self.inside.book.book c.self.inside.pass.seen c.tell.new.pass.seen c.tell.ensures.seen c.self.invariant.2,
  quit_goes_on c.self.inside.quit c.self.inside.pass.seen c.tell.new.pass.seen c.tell.ensures.seen c.self.invariant.3,
)

pub returns-clause-spent : goal.returns-clause-spent
returns-clause-spent g c = λ fault none.
    spent_is_seen g.H.HubName.terms g.H.BoundName.before c.args.shard.now.shard c.tell.new.pass.seen fault c.tell.ensures.named c.tell.ensures.whole none
