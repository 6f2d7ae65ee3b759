use Rattle.bound_hub.proofs.FactLemmas.{bound_goes_on}
use Rattle.bound_hub.proofs.bound_shards.BoundShard.join.Goals as goal

pub invariant_of-self : goal.invariant_of-self
invariant_of-self g c =
    let is = c.self.invariant in
    let joined = c.join.ensures in (
      is.0,
      is.1,
      bound_goes_on g.H.BoundName.word g.H.HubName.opening g.H.BoundName.before c.self.inside.shard c.self.inside.pass c.join.new.self is.2
          joined.word joined.shard joined.mine joined.steps c.sound.ensures c.sound-2.ensures,
    )
