use Rattle.std.proofs.Common.{IfSome, subst}
use Rattle.bound_hub.specs.Sweeps.{HasSeenGrant}
use Rattle.bound_hub.specs.Ties.{BoundShardView}
use Rattle.bound_hub.proofs.SweepTies.{each_due_was_granted}
use Rattle.bound_hub.proofs.bound_shards.BoundShard.scan.Goals as goal

pub returns-clause-granted : goal.returns-clause-granted
returns-clause-granted g c =
    subst (λ (v : BoundShardView). IfSome c.expired.result (λ due. HasSeenGrant v.shard.terms.no due.key due.sid.number due.token v.seen)) c.self.view_is
    (each_due_was_granted g.H.BoundName.word g.H.HubName.opening g.H.BoundName.before c.self.inside.shard c.self.inside.pass c.self.invariant.2 c.args.now c.expired.result c.expired.ensures.due)
