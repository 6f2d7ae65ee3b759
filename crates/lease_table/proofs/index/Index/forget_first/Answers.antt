use Rattle.std.proofs.Common.{refl, arith}
use Rattle.std.specs.BinaryHeap.{heap_items}
use Rattle.std.proofs.lemmas.Option.{IfSome_then}
use Rattle.lease_table.specs.declared.index.Index.{Index}
use Rattle.lease_table.specs.Leases.{first}
use Rattle.lease_table.proofs.OrderLemmas.{popped-first}
use Rattle.lease_table.proofs.IndexLemmas.{KeepsOthers-forgot}
use Rattle.lease_table.proofs.index.Index.forget_first.Goals as goal

pub returns-clause-others : goal.returns-clause-others
returns-clause-others c =
    let items = heap_items c.args.self.now.found in
    let new : Index = record { later = c.args.self.now.later; found = c.pop.new.self } in
    IfSome_then (first items)
    (popped-first items (heap_items c.pop.new.self) c.pop.result (omega (arith, c.args.self.now.found.data.ok.0, c.requires.any))
    (c.pop.ensures.variant.1 c.requires.any) c.pop.ensures.top c.pop.ensures.permutation)
    (λ top same. KeepsOthers-forgot top c.args.self.now new refl same)
