use Rattle.std.proofs.Common.{arith}
use Rattle.std.specs.BinaryHeap.{heap_items}
use Rattle.std.proofs.lemmas.Bool.{leb-false}
use Rattle.lease_table.proofs.OrderLemmas.{later-front}
use Rattle.lease_table.proofs.index.Index.has_due.Goals as goal

pub returns-in-Some-clause-none : goal.returns-in-Some-clause-none
returns-in-Some-clause-none c =
    let front = later-front c.in-Some.term.now (heap_items c.args.self.now.later) (c.in-Some.ensures.greatest c.requires.later_heap) in
    λ later k d within. let le = front k d within in let far = leb-false c.in-Some.term.now.0.deadline c.args.now later in omega arith
