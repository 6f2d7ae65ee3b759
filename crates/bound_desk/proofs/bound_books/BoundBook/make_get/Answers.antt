use Rattle.bound_desk.proofs.BoundLemmas.{book_goes_on}
use Rattle.bound_desk.proofs.RecordLemmas.{none_is_left}
use Rattle.bound_desk.proofs.WriteLemmas.{quit_goes_on}
use Rattle.bound_desk.proofs.WritingLemmas.{ready_goes_on}
use Rattle.bound_desk.proofs.bound_books.BoundBook.make_get.Goals as goal

pub invariant_of-self : goal.invariant_of-self
invariant_of-self g c = (
  c.get.ensures.word,
  book_goes_on g.H.HubName.opening g.H.BoundName.word.shards c.self.inside.book.book c.self.inside.pass.seen c.get.new.pass.seen c.get.ensures.seen c.self.invariant.1,
  ready_goes_on g.H.HubName.opening g.H.BoundName.before g.H.BoundName.word.shards c.self.inside.book.book c.self.inside.pass.seen c.get.new.pass.seen c.get.ensures.seen c.self.invariant.2,
  quit_goes_on c.self.inside.quit c.self.inside.pass.seen c.get.new.pass.seen c.get.ensures.seen c.self.invariant.3,
)

pub returns-clause-none_left : goal.returns-clause-none_left
returns-clause-none_left g c = none_is_left c.args.shard.now.shard c.args.key _ c.get.result c.get.ensures.refusal
