use Rattle.std.proofs.Common.{is_some}
use Rattle.key_shard.specs.Past.{entry}
use Rattle.key_shard.specs.Shards.{is_out, past_of}
use Rattle.bound_desk.proofs.BoundLemmas.{book_goes_on}
use Rattle.bound_desk.proofs.OldLemmas.{renewal_is_last}
use Rattle.bound_desk.proofs.WriteLemmas.{quit_goes_on}
use Rattle.bound_desk.proofs.WritingLemmas.{ready_goes_on}
use Rattle.bound_desk.proofs.bound_books.BoundBook.renew.Goals as goal

pub invariant_of-self : goal.invariant_of-self
invariant_of-self g c = (
  c.renew.ensures.word,
  book_goes_on g.H.HubName.opening g.H.BoundName.word.shards c.self.inside.book.book c.self.inside.pass.seen c.renew.new.pass.seen c.renew.ensures.seen c.self.invariant.1,
  ready_goes_on g.H.HubName.opening g.H.BoundName.before g.H.BoundName.word.shards c.self.inside.book.book c.self.inside.pass.seen c.renew.new.pass.seen c.renew.ensures.seen c.self.invariant.2,
  quit_goes_on c.self.inside.quit c.self.inside.pass.seen c.renew.new.pass.seen c.renew.ensures.seen c.self.invariant.3,
)

pub returns-clause-last : goal.returns-clause-last
returns-clause-last g c =
    let a = c.args in
    let shard = a.shard.now.shard in
    renewal_is_last (is_out shard a.grant.now) a.grant.now g.H.BoundName.word.shards shard.terms.no c.renew.new.pass.seen
    (is_some (entry a.grant.now.key (past_of c.renew.new.self.shard))) c.renew.result c.requires.place c.renew.ensures.last (λ e. (c.renew.ensures.unknown e).1)
