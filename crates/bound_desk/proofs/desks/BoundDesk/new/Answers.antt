use Rattle.std.proofs.Common.{◌∙◌}
use Rattle.bound_desk.proofs.RecordLemmas.{nothing_begun, nothing_recorded}
use Rattle.bound_desk.proofs.ToldLemmas.{nothing_shown}
use Rattle.bound_desk.proofs.desks.BoundDesk.new.Goals as goal

pub invariant_of-result : goal.invariant_of-result
invariant_of-result g c = (
  c.new-3.ensures.shards ∙ c.shards.ensures.count,
  nothing_recorded g.H.HubName.terms g.H.BoundName.before g.H.BoundName.word.shards c.args.worker c.new-2.result c.new.result.seen c.new-2.ensures,
  nothing_begun c.new-2.result c.new.result.book.book c.new-2.ensures,
  nothing_shown g.H.HubName.opening g.H.HubName.cap g.H.HubName.terms g.H.BoundName.before g.H.BoundName.word.shards c.new-2.result c.new.result.book.book c.new.result.seen
      c.new-2.ensures c.new.ensures.book,
)
