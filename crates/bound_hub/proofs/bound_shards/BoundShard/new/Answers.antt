use Rattle.bound_hub.proofs.FactLemmas.{bound_first}
use Rattle.bound_hub.proofs.bound_shards.BoundShard.new.Goals as goal

pub invariant_of-result : goal.invariant_of-result
invariant_of-result g c =
    let r = c.requires in (
      r.named,
      r.token,
      bound_first g.H.BoundName.word g.H.HubName.opening g.H.BoundName.before c.args.shard c.args.pass r.word r.number r.count r.events r.steps r.new,
    )
