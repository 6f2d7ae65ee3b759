use Rattle.std.proofs.lemmas.Option.{IfSome_then}
use Rattle.key_shard.specs.Shards.{past_of}
use Rattle.executor.proofs.GotLemmas.{got_belongs}
use Rattle.bound_desk.proofs.BoundLemmas.{book_goes_on}
use Rattle.bound_desk.proofs.WriteLemmas.{quit_goes_on}
use Rattle.bound_desk.proofs.WritingLemmas.{ready_goes_on}
use Rattle.bound_desk.proofs.bound_books.BoundBook.get_hit.Goals as goal

pub invariant_of-self : goal.invariant_of-self
invariant_of-self g c = (
  c.get_hit.ensures.word,
  book_goes_on g.H.HubName.opening g.H.BoundName.word.shards c.self.inside.book.book c.self.inside.pass.seen c.get_hit.new.pass.seen c.get_hit.ensures.seen c.self.invariant.1,
  ready_goes_on g.H.HubName.opening g.H.BoundName.before g.H.BoundName.word.shards c.self.inside.book.book c.self.inside.pass.seen c.get_hit.new.pass.seen c.get_hit.ensures.seen c.self.invariant.2,
  quit_goes_on c.self.inside.quit c.self.inside.pass.seen c.get_hit.new.pass.seen c.get_hit.ensures.seen c.self.invariant.3,
)

pub returns-clause-floor : goal.returns-clause-floor
returns-clause-floor g c =
    let a = c.args in
    let shard = a.shard.now.shard in
    IfSome_then c.get_hit.result (c.get_hit.ensures.shows 0)
    (λ got shows. got_belongs shard.terms (past_of shard) a.key a.who a.floor 0 got shows)
