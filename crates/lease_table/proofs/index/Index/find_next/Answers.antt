use Rattle.std.proofs.Common.{refl, arith}
use Rattle.std.proofs.lemmas.Result.{MatchResult-at_ok}
use Rattle.std.proofs.lemmas.Option.{MatchOption-at_some}
use Rattle.lease_table.specs.declared.index.Index.{Index}
use Rattle.lease_table.proofs.IndexLemmas.{KeepsEach-moved}
use Rattle.lease_table.proofs.index.Index.find_next.Goals as goal

pub returns-clause-sound : goal.returns-clause-sound
returns-clause-sound c =
    let less = MatchOption-at_some _ _ c.unwrap-first.result c.unwrap-first.ensures c.pop.ensures.heap_order in
    let shorter = MatchOption-at_some _ _ c.unwrap-first.result c.unwrap-first.ensures c.pop.ensures.len in
    let order = MatchResult-at_ok _ _ c.unwrap.result c.unwrap.ensures c.push.ensures.heap_order in
    let longer = MatchResult-at_ok _ _ c.unwrap.result c.unwrap.ensures c.push.ensures.len in
    let sound = c.requires.sound in
    record {
      later_heap = (less sound.later_heap).0;
      found_heap = order sound.found_heap;
      later_room = omega arith;
      found_room = omega arith;
    }

pub returns-clause-keeps : goal.returns-clause-keeps
returns-clause-keeps c =
    let new : Index = record { later = c.pop.new.self; found = c.push.new.self } in
    KeepsEach-moved c.unwrap-first.result (record { 0 = record { key = c.unwrap-first.result.0.key; token = c.unwrap-first.result.0.token } })
    c.args.self.now new refl refl
    (MatchOption-at_some _ _ c.unwrap-first.result c.unwrap-first.ensures c.pop.ensures.permutation)
    (MatchResult-at_ok _ _ c.unwrap.result c.unwrap.ensures c.push.ensures.permutation)
