use Rattle.std.proofs.Common.{arith}
use Rattle.std.specs.BinaryHeap.{heap_items}
use Rattle.lease_table.proofs.OrderLemmas.{later-front}
use Rattle.lease_table.proofs.index.Index.next_due.Goals as goal

pub returns-in-Some-clause-ahead : goal.returns-in-Some-clause-ahead
returns-in-Some-clause-ahead c =
    let front = later-front c.in-Some.term.now (heap_items c.args.self.now.later) (c.in-Some.ensures.greatest c.requires.later_heap) in
    λ now early k d within. let le = front k d within in omega arith
