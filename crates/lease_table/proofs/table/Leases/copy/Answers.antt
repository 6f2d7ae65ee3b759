use Rattle.std.proofs.Common.{◌∙◌}
use Rattle.lease_table.proofs.CopyLemmas.{Stays-cloned, IsKept-cloned}
use Rattle.lease_table.proofs.LapseLemmas.{AreListed-same, reads-stay}
use Rattle.lease_table.proofs.table.Leases.copy.Goals as goal

pub invariant_of-result : goal.invariant_of-result
invariant_of-result c =
    let stays = Stays-cloned c.self.inside.leases c.in_ok-leases.leases c.self.invariant.0.in_order c.in_ok-leases.ensures.cases in (
      IsKept-cloned c.self.inside.leases c.in_ok-leases.leases c.self.inside.index c.in_ok-index.index c.self.invariant.0
          c.in_ok-leases.ensures.cases c.in_ok-index.ensures.sound c.in_ok-index.ensures.later c.in_ok-index.ensures.found,
      AreListed-same c.self.inside.leases c.in_ok-leases.leases c.self.inside.lapses c.in_ok-lapses.lapses c.self.invariant.1 c.in_ok-lapses.ensures
          (reads-stay c.self.inside.leases c.in_ok-leases.leases c.self.invariant.0.in_order stays),
    )

pub returns : goal.returns
returns c =
    let stays = Stays-cloned c.self.inside.leases c.in_ok-leases.leases c.self.invariant.0.in_order c.in_ok-leases.ensures.cases in
    stays.same_records ∙ c.self.view_is
