use Rattle.std.proofs.Common.{◌≡◌, ◌<◌, true, subst, sym, IfSome}
use Rattle.std.specs.BinaryHeap.{heap_items}
use Rattle.std.specs.declared.cmp.Reverse.{Reverse}
use Rattle.std.proofs.lemmas.Bool.{eqb-true}
use Rattle.std.proofs.lemmas.List.Elements.{All-cons, All-same}
use Rattle.std.proofs.lemmas.List.Sorted.{All-permutation}
use Rattle.lease_table.specs.declared.index.Term.{Term}
use Rattle.lease_table.specs.Leases.{has_token}
use Rattle.lease_table.specs.Standing.{stands_in}
use Rattle.lease_table.specs.Index.{is_listed, KeepsOthers}
use Rattle.lease_table.proofs.ListLemmas.{find-passes}
use Rattle.lease_table.proofs.IndexLemmas.{ListsEach-again, ListsEach-forgot}
use Rattle.lease_table.proofs.DueLemmas.{due-found}
use Rattle.lease_table.proofs.dues.due_or_later.Goals as goal

pub returns-then-quar-now-clause-due : goal.returns-then-quar-now-clause-due
returns-then-quar-now-clause-due c =
    due-found c.args.now (stands_in c.args.leases.now) c.args.found.key c.args.found.token c.in-Some.quar (sym c.in-Some.ensures) c.if-quar-now.true

pub returns-else-quar-now-clause-lists : goal.returns-else-quar-now-clause-lists
returns-else-quar-now-clause-lists c =
    let standing = stands_in c.args.leases.now in
    let key = c.args.found.key in
    let token = c.args.found.token in
    let quar = c.in-Some.quar in
    let its = eqb-true quar.token token (find-passes (has_token token) (standing key) quar (sym c.in-Some.ensures)) in
    let forgot =
    subst (λ o. IfSome o (λ top. KeepsOthers top.0.key top.0.token c.args.index.now c.forget_first.new.self)) c.requires.first c.forget_first.ensures.others in
    let listed =
    subst (λ (t : Term). is_listed t.key t.token t.deadline c.put.new.self ≡ true) c.new.ensures c.put.ensures.listed in
    ListsEach-again standing key token quar c.args.index.now c.forget_first.new.self c.put.new.self (sym c.in-Some.ensures) forgot c.put.ensures.keeps
    (subst (λ u. is_listed key u quar.deadline c.put.new.self ≡ true) its listed) c.requires.lists

pub returns-else-quar-now-clause-ahead : goal.returns-else-quar-now-clause-ahead
returns-else-quar-now-clause-ahead c =
    let P = λ (t : Reverse Term). c.args.now < t.0.deadline in
    let far = subst (λ (t : Term). c.args.now < t.deadline) (sym c.new.ensures) c.if-quar-now.false in
    All-permutation P _ _ c.put.ensures.later
    (All-cons P (record { 0 = c.new.result }) (heap_items c.forget_first.new.self.later) far
    (All-same P (heap_items c.forget_first.new.self.later) (heap_items c.args.index.now.later) c.forget_first.ensures.later c.requires.ahead))

pub returns-in-None-clause-lists : goal.returns-in-None-clause-lists
returns-in-None-clause-lists c =
    ListsEach-forgot (stands_in c.args.leases.now) c.args.found.key c.args.found.token c.args.index.now c.forget_first-in-None.new.self (sym c.in-None.ensures)
    (subst (λ o. IfSome o (λ top. KeepsOthers top.0.key top.0.token c.args.index.now c.forget_first-in-None.new.self))
    c.requires.first c.forget_first-in-None.ensures.others) c.requires.lists
