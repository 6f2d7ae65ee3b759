use Rattle.std.proofs.Common.{◌<◌, List, length, subst, arith}
use Rattle.std.proofs.lemmas.Grind.{common_steps}
use Rattle.shard_dump.specs.declared.rows.DumpRow.{DumpRow}
use Rattle.top_run.specs.Warming.{CanLoad, IsLoadedWith}
use Rattle.top_run.proofs.WarmingLemmas.{beside_before, beside_still, can_next, keeps_both, keeps_same, loaded_next, none_loaded}
use Rattle.top_run.proofs.loads.load_all.Goals as goal

pub loop-shards-init : goal.loop-shards-init
loop-shards-init g c = record {
  so_far = none_loaded _ _ c.args.dumps.items c.args.shards.items _ c.in_ok-loaded.ensures.items c.requires.can;
  keeps_on = keeps_same c.args.store.now;
  room = grind (arith, common_steps, c.in_ok-loaded.ensures.capacity);
}

pub load_one-requires-clause-can : goal.load_one-requires-clause-can
load_one-requires-clause-can g c =
    let was = c.loop-shards.invariant in
    let some : 0 < length c.loop-shards.shards.items = grind (arith, common_steps) in
    rw c.into_rows-rows.ensures
    (beside_still (λ rows opening. CanLoad rows opening c.remove-dumped.result.dump.rows c.remove-shard.result) c.args.store.now c.loop-shards.store was.keeps_on
    (can_next _ _ _ _ c.loop-shards.dumps.items c.loop-shards.shards.items c.loop-shards.loaded.items c.remove-shard.result c.remove-dumped.result some
    c.remove-shard.ensures.value c.remove-dumped.ensures.value was.so_far))

pub loop-shards-preserved : goal.loop-shards-preserved
loop-shards-preserved g c =
    let was = c.loop-shards.invariant in
    let some : 0 < length c.loop-shards.shards.items = grind (arith, common_steps) in
    let given = c.args.store.now in
    let now = c.loop-shards.store in
    record {
      so_far =
          rw c.push_reserved.ensures.items
          (loaded_next given.known_rows given.ledger.opening _ _ c.loop-shards.dumps.items c.remove-dumped.new.self.items c.loop-shards.shards.items
          c.remove-shard.new.self.items c.loop-shards.loaded.items c.remove-shard.result c.in_ok-load_one.field-0 c.remove-dumped.result some
          c.remove-shard.ensures.value c.remove-shard.ensures.items c.remove-dumped.ensures.value c.remove-dumped.ensures.items
          (subst (λ (rows : List DumpRow). IsLoadedWith given.known_rows given.ledger.opening rows c.remove-shard.result c.in_ok-load_one.field-0) c.into_rows-rows.ensures
          (beside_before (λ rows opening. IsLoadedWith rows opening c.into_rows-rows.result.items c.remove-shard.result c.in_ok-load_one.field-0)
          given c.load_one.new.store (keeps_both given now c.load_one.new.store was.keeps_on c.load_one.ensures.keeps_on) c.in_ok-load_one.ensures.loaded)) was.so_far);
      keeps_on = keeps_both given now c.load_one.new.store was.keeps_on c.load_one.ensures.keeps_on;
      room = grind (arith, common_steps, was.room, c.remove-shard.ensures.len, c.push_reserved.ensures.len, c.push_reserved.ensures.capacity);
    }
