use Rattle.std.proofs.Common.{◌≡◌, true, false, arith}
use Rattle.rows_model.specs.Members.{ascend_from}
use Rattle.rows_model.proofs.KeptLemmas.{start_kept, start_in}
use Rattle.rows_model.proofs.MemberLemmas.{Fit-members, no_members}
use Rattle.rows_model.proofs.rows.Rows.of_members.Goals as goal

pub returns-then-not-are_members-clause-none : goal.returns-then-not-are_members-clause-none
returns-then-not-are_members-clause-none c =
    let no : ascend_from 0 c.args.members.items ≡ false = grind arith in
    no_members c.args.members.items no

pub invariant_of-result : goal.invariant_of-result
invariant_of-result c =
    let is : c.are_members.result ≡ true = grind arith in
    let ascend : ascend_from 0 c.args.members.items ≡ true = grind arith in
    let names = rw c.as_slice.ensures.value at (c.are_members.ensures.names is) in
    let ids = rw c.as_slice-2.ensures.value at c.in_ok-no_links.ensures.ids in
    start_kept c.args.members.items c.in_ok-no_links.field-0.items (Fit-members c.args.members.items ascend names) ids
    c.in_ok-no_links.ensures.none c.in_ok-no_links.ensures.free

pub returns-clause-found : goal.returns-clause-found
returns-clause-found c = start_in c.args.members.items c.in_ok-no_links.field-0.items c.in_ok-no_links.ensures.none c.in_ok-no_links.ensures.free
