use Rattle.std.proofs.Common.{arith, refl}
use Rattle.std.specs.BinaryHeap.{heap_items}
use Rattle.lease_table.proofs.OrderLemmas.{found-front, first-read}
use Rattle.lease_table.proofs.index.Index.found_first.Goals as goal

pub returns-in-Some-clause-top : goal.returns-in-Some-clause-top
returns-in-Some-clause-top c =
    first-read (heap_items c.args.self.now.found) c.in-Some.top.now (omega (arith, c.args.self.now.found.data.ok.0, c.in-Some.ensures.variant.0 refl)) c.in-Some.ensures.lookup

pub returns-in-Some-clause-least : goal.returns-in-Some-clause-least
returns-in-Some-clause-least c =
    found-front c.in-Some.top.now (heap_items c.args.self.now.found) (c.in-Some.ensures.greatest c.requires.found_heap)
