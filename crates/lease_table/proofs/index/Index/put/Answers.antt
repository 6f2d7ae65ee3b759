use Rattle.std.proofs.Common.{refl, arith}
use Rattle.std.specs.BinaryHeap.{heap_items}
use Rattle.std.proofs.lemmas.Result.{MatchResult-at_ok}
use Rattle.lease_table.specs.declared.index.Index.{Index}
use Rattle.lease_table.proofs.IndexLemmas.{KeepsEach-put, listed-put_itself}
use Rattle.lease_table.proofs.index.Index.put.Goals as goal

pub returns-clause-sound : goal.returns-clause-sound
returns-clause-sound c =
    let order = MatchResult-at_ok _ _ c.unwrap.result c.unwrap.ensures c.push.ensures.heap_order in
    let len = MatchResult-at_ok _ _ c.unwrap.result c.unwrap.ensures c.push.ensures.len in
    let room = c.requires.room in
    record {
      later_heap = order c.requires.sound.later_heap;
      found_heap = c.requires.sound.found_heap;
      later_room = omega arith;
      found_room = omega arith;
    }

pub returns-clause-listed : goal.returns-clause-listed
returns-clause-listed c =
    let new : Index = record { later = c.push.new.self; found = c.args.self.now.found } in
    listed-put_itself c.args.term (heap_items c.args.self.now.later) new
    (MatchResult-at_ok _ _ c.unwrap.result c.unwrap.ensures c.push.ensures.permutation)

pub returns-clause-keeps : goal.returns-clause-keeps
returns-clause-keeps c =
    let new : Index = record { later = c.push.new.self; found = c.args.self.now.found } in
    KeepsEach-put (record { 0 = c.args.term }) c.args.self.now new
    (MatchResult-at_ok _ _ c.unwrap.result c.unwrap.ensures c.push.ensures.permutation) refl
