use Rattle.std.proofs.Common.{subst, arith, rules, is_some, find}
use Rattle.std.specs.BinaryHeap.{heap_items}
use Rattle.std.specs.List.Sorted.{IsPermutation}
use Rattle.std.proofs.lemmas.Fn.{filter_same}
use Rattle.lease_table.specs.declared.index.Index.{Index}
use Rattle.lease_table.specs.Leases.{has_token}
use Rattle.lease_table.specs.Standing.{stands_in}
use Rattle.lease_table.proofs.IndexLemmas.{ListsEach-ended}
use Rattle.lease_table.proofs.index.Index.forget_ended.Goals as goal

pub returns-clause-sound : goal.returns-clause-sound
returns-clause-sound c =
    let sound = c.requires.sound in
    record {
      later_heap = c.retain.ensures.heap_order;
      found_heap = c.retain-2.ensures.heap_order;
      later_room = omega arith;
      found_room = omega arith;
    }

pub returns-clause-lists : goal.returns-clause-lists
returns-clause-lists c =
    let standing = stands_in c.args.leases.now in
    let new : Index = record { later = c.retain.new.self; found = c.retain-2.new.self } in
    let terms = c.retain.ensures.filtered in
    let others = c.retain-2.ensures.filtered in
    ListsEach-ended standing c.args.self.now new
    (subst (λ kept. IsPermutation kept (heap_items new.later))
    (filter_same _ (λ x. is_some (find (has_token x.0.token) (standing x.0.key))) _ (λ x b f' k. search rules) (heap_items c.args.self.now.later) terms.0 terms.1) terms.2)
    (subst (λ kept. IsPermutation kept (heap_items new.found))
    (filter_same _ (λ y. is_some (find (has_token y.0.token) (standing y.0.key))) _ (λ x b f' k. search rules) (heap_items c.args.self.now.found) others.0 others.1) others.2)
    c.requires.lists
