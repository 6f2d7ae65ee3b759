use Rattle.std.proofs.Common.{subst, arith, rules, not}
use Rattle.std.specs.BinaryHeap.{heap_items}
use Rattle.std.specs.List.Sorted.{IsPermutation}
use Rattle.std.proofs.lemmas.Fn.{filter_same}
use Rattle.lease_table.specs.declared.index.Index.{Index}
use Rattle.lease_table.specs.Index.{is_same}
use Rattle.lease_table.proofs.IndexLemmas.{KeepsOthers-terms, HasRoom-fewer}
use Rattle.lease_table.proofs.index.Index.forget_terms.Goals as goal

pub returns-clause-sound : goal.returns-clause-sound
returns-clause-sound c =
    let sound = c.requires in
    record {
      later_heap = c.retain.ensures.heap_order;
      found_heap = c.retain-2.ensures.heap_order;
      later_room = omega arith;
      found_room = omega arith;
    }

pub returns-clause-others : goal.returns-clause-others
returns-clause-others c =
    let new : Index = record { later = c.retain.new.self; found = c.retain-2.new.self } in
    let terms = c.retain.ensures.filtered in
    let others = c.retain-2.ensures.filtered in
    KeepsOthers-terms c.args.key.now c.args.token c.args.self.now new
    (subst (λ kept. IsPermutation kept (heap_items new.later))
    (filter_same _ (λ x. not (is_same c.args.key.now c.args.token x.0.key x.0.token)) _ (λ x b f' k. search rules) (heap_items c.args.self.now.later) terms.0 terms.1) terms.2)
    (subst (λ kept. IsPermutation kept (heap_items new.found))
    (filter_same _ (λ y. not (is_same c.args.key.now c.args.token y.0.key y.0.token)) _ (λ x b f' k. search rules) (heap_items c.args.self.now.found) others.0 others.1) others.2)

pub returns-clause-room : goal.returns-clause-room
returns-clause-room c =
    let new : Index = record { later = c.retain.new.self; found = c.retain-2.new.self } in
    let terms = c.retain.ensures.filtered in
    let others = c.retain-2.ensures.filtered in
    λ was listed. HasRoom-fewer c.args.key.now c.args.token was c.args.self.now new c.requires
    (subst (λ kept. IsPermutation kept (heap_items new.later))
    (filter_same _ (λ x. not (is_same c.args.key.now c.args.token x.0.key x.0.token)) _ (λ x b f' k. search rules) (heap_items c.args.self.now.later) terms.0 terms.1) terms.2)
    (subst (λ kept. IsPermutation kept (heap_items new.found))
    (filter_same _ (λ y. not (is_same c.args.key.now c.args.token y.0.key y.0.token)) _ (λ x b f' k. search rules) (heap_items c.args.self.now.found) others.0 others.1) others.2)
    c.retain.ensures.capacity c.retain-2.ensures.capacity listed
