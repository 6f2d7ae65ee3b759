use Rattle.lease_table.proofs.LapseLemmas.{none-lapsed, none-at-all}
use Rattle.lease_table.proofs.table.Leases.next_lapse.Goals as goal

pub returns-in-Some : goal.returns-in-Some
returns-in-Some c =
    rw (← c.self.view_is) (none-lapsed c.self.inside.leases c.self.inside.lapses c.self.invariant.0.in_order c.self.invariant.1 c.in-Some.first.deadline
    c.in-Some.ensures.least)

pub returns-in-None : goal.returns-in-None
returns-in-None c =
    rw (← c.self.view_is) (λ now early. none-at-all c.self.inside.leases c.self.inside.lapses c.self.invariant.0.in_order c.self.invariant.1
    c.in-None.ensures.none now)
