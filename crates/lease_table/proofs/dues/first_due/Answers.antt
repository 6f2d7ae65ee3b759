use Rattle.lease_table.specs.Standing.{stands_in}
use Rattle.lease_table.proofs.DueLemmas.{none-due, none-before}
use Rattle.lease_table.proofs.dues.first_due.Goals as goal

pub returns-in-Some-due_or_later-clause-least : goal.returns-in-Some-due_or_later-clause-least
returns-in-Some-due_or_later-clause-least c =
    none-before c.args.now (stands_in c.args.leases.now) c.loop-found.index c.loop-found.invariant.lists c.loop-found.invariant.ahead c.requires.beside
    c.in-Some.found c.in-Some.ensures.least c.in-Some-due_or_later.due c.in-Some-due_or_later.ensures.which.0 c.in-Some-due_or_later.ensures.which.1

pub returns-clause-none : goal.returns-clause-none
returns-clause-none c =
    none-due c.args.now (stands_in c.args.leases.now) c.loop-found.index c.loop-found.invariant.lists c.loop-found.invariant.ahead c.requires.beside
    c.in_default.ensures.none
