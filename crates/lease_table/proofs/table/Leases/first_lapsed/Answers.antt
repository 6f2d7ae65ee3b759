use Rattle.std.proofs.Common.{◌<◌, ◌≤◌, rules}
use Rattle.lease_table.proofs.LapseLemmas.{has-lapsed, none-before, none-lapsed, none-at-all}
use Rattle.lease_table.proofs.table.Leases.first_lapsed.Goals as goal

pub returns-in-Some-clause-lapsed : goal.returns-in-Some-clause-lapsed
returns-in-Some-clause-lapsed c =
    let come : c.in-Some.first.deadline ≤ c.args.now = search rules in
    rw (← c.self.view_is) (has-lapsed c.self.inside.leases c.self.inside.lapses c.self.invariant.0.in_order c.self.invariant.1 c.args.now c.in-Some.first
    c.in-Some.ensures.listed come)

pub returns-in-Some-clause-least : goal.returns-in-Some-clause-least
returns-in-Some-clause-least c =
    rw (← c.self.view_is) (none-before c.self.inside.leases c.self.inside.lapses c.self.invariant.0.in_order c.self.invariant.1 c.in-Some.first.deadline
    c.in-Some.ensures.least)

pub returns-in_default-clause-none : goal.returns-in_default-clause-none
returns-in_default-clause-none c =
    let early : c.args.now < c.in-Some.first.deadline = search rules in
    rw (← c.self.view_is) (none-lapsed c.self.inside.leases c.self.inside.lapses c.self.invariant.0.in_order c.self.invariant.1 c.in-Some.first.deadline
    c.in-Some.ensures.least c.args.now early)

pub returns-in_default-2-clause-none : goal.returns-in_default-2-clause-none
returns-in_default-2-clause-none c =
    rw (← c.self.view_is) (none-at-all c.self.inside.leases c.self.inside.lapses c.self.invariant.0.in_order c.self.invariant.1
    c.in_default.ensures.none c.args.now)
