use Rattle.std.proofs.Common.{subst, sym}
use Rattle.lease_table.specs.Expiry.{NoneDue}
use Rattle.lease_table.specs.Standing.{stands_in}
use Rattle.lease_table.proofs.DueLemmas.{none-due}
use Rattle.lease_table.proofs.TableLemmas.{stands_in-records}
use Rattle.lease_table.proofs.ChangeLemmas.{may-stand}
use Rattle.lease_table.proofs.table.Leases.next_due.Goals as goal

pub returns : goal.returns
returns c =
    λ now early.
    let same = stands_in-records c.self.inside.leases c.self.invariant.0.in_order in
    let none = none-due now (stands_in c.self.inside.leases) c.self.inside.index c.self.invariant.0.lists (c.next_due.ensures.ahead now early)
    (λ key. (may-stand key c.self.inside.leases c.self.inside.index c.self.invariant.0).beside) (c.next_due.ensures.found now early) in
    rw (← c.self.view_is) (subst (λ standing. NoneDue now standing) (sym same) none)
