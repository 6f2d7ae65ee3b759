use Rattle.std.proofs.Common.{◌≡◌, ◌++◌, List, All, vec_len}
use Rattle.bound_desk.specs.Bound.{BoundDeskView}
use Rattle.bound_desk.specs.Records.{IsRecordSeen}
use Rattle.top_run.proofs.hubs.heard.Given as goal

-- the pass has seen what those desks have that are behind the ones that are left
abbrev pub invariant-loop-desk : goal.invariant-loop-desk
invariant-loop-desk g l = record {
  word : l.pass.word ≡ g.H.BoundName.word;
  seen : (done : List BoundDeskView) × (l.fn.desks.items ≡ l.desks.items ++ done)
      × All (λ (desk : BoundDeskView). IsRecordSeen g.H.HubName.terms g.H.BoundName.before g.H.BoundName.word.shards desk.worker desk.calls l.pass.seen) done;
}

abbrev pub decreases-loop-desk : goal.decreases-loop-desk
decreases-loop-desk g l = vec_len l.desks
