use Rattle.std.proofs.Common.{subst, sym, IfSome, IfNone}
use Rattle.lease_table.specs.Expiry.{StandsDue, NoneDueBefore, NoneDue}
use Rattle.lease_table.specs.Standing.{stands_in}
use Rattle.lease_table.proofs.IndexLemmas.{ListsEach-keeps}
use Rattle.lease_table.proofs.TableLemmas.{stands_in-records}
use Rattle.lease_table.proofs.ChangeLemmas.{may-stand}
use Rattle.lease_table.proofs.table.Leases.expired.Goals as goal

pub first_due-requires-clause-lists : goal.first_due-requires-clause-lists
first_due-requires-clause-lists c =
    ListsEach-keeps (stands_in c.self.inside.leases) c.self.inside.index c.settle.new.self c.settle.ensures.keeps c.self.invariant.0.lists

pub first_due-requires-clause-beside : goal.first_due-requires-clause-beside
first_due-requires-clause-beside c =
    λ key. (may-stand key c.self.inside.leases c.self.inside.index c.self.invariant.0).beside

pub returns-clause-due : goal.returns-clause-due
returns-clause-due c =
    let same = stands_in-records c.self.inside.leases c.self.invariant.0.in_order in
    rw (← c.self.view_is) (subst (λ standing. IfSome c.first_due.result (StandsDue c.args.now standing)) (sym same) c.first_due.ensures.due)

pub returns-clause-least : goal.returns-clause-least
returns-clause-least c =
    let same = stands_in-records c.self.inside.leases c.self.invariant.0.in_order in
    rw (← c.self.view_is) (subst (λ standing. IfSome c.first_due.result (NoneDueBefore c.args.now standing)) (sym same) c.first_due.ensures.least)

pub returns-clause-none : goal.returns-clause-none
returns-clause-none c =
    let same = stands_in-records c.self.inside.leases c.self.invariant.0.in_order in
    rw (← c.self.view_is) (subst (λ standing. IfNone c.first_due.result (NoneDue c.args.now standing)) (sym same) c.first_due.ensures.none)
