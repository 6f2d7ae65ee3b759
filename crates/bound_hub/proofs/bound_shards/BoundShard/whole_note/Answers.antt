use Rattle.std.proofs.Common.{ap, subst, ◌∙◌}
use Rattle.shard_lock.specs.Names.{IsNamed}
use Rattle.log_word.specs.Lists.{steps_of}
use Rattle.log_word.specs.Passes.{PassView}
use Rattle.bound_hub.specs.Spent.{HasSeenAll}
use Rattle.bound_hub.specs.Ties.{BoundShardView}
use Rattle.bound_hub.proofs.bound_shards.BoundShard.whole_note.Goals as goal

pub returns-clause-named : goal.returns-clause-named
returns-clause-named g c = subst (λ (v : BoundShardView). IsNamed g.H.HubName.terms v.shard) c.self.view_is c.self.invariant.0

pub returns-clause-whole : goal.returns-clause-whole
returns-clause-whole g c =
    let bound = c.self.invariant.2 in
    let before = g.H.BoundName.before in
    subst (λ (v : BoundShardView). HasSeenAll (before v.shard.terms.no) v.shard c.note.result.seen) c.self.view_is
    (record {
      more = bound.more;
      goes_on = bound.goes_on;
      shorts_are = ap (λ (p : PassView). steps_of c.self.inside.shard.terms.no p.seen.steps) c.note.ensures.note ∙ bound.shorts_are;
    })
