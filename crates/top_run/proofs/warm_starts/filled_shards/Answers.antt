use Rattle.std.proofs.Common.{◌≡◌, ◌<◌, ◌+◌, length, arith, refl}
use Rattle.std.proofs.lemmas.Grind.{common_steps}
use Rattle.top_run.proofs.WarmStartLemmas.{all_filled, asks_both, asks_same, filled_with_all, next_empty, none_filled, one_filled, one_stops}
use Rattle.top_run.proofs.warm_starts.filled_shards.Goals as goal

pub loop-empty-init : goal.loop-empty-init
loop-empty-init g c = record {
  filling =
      none_filled c.args.spec.now c.args.store.now.known_rows c.args.store.now.ledger.opening c.in-Ok.empty.items c.in-Ok-with_capacity.filled.items
      c.args.dumps.items c.in-Ok-with_capacity.ensures.items c.in-Ok.ensures.all c.in-Ok.ensures.as_many c.in-Ok.ensures.new c.in-Ok.ensures.none_out
      c.requires.dumps;
  asks_on = asks_same c.args.store.now;
  room = grind (arith, common_steps, c.in-Ok-with_capacity.ensures.capacity);
}

pub filled_shard-requires-clause-empty : goal.filled_shard-requires-clause-empty
filled_shard-requires-clause-empty g c =
    let some : 0 < length c.loop-empty.empty.items = grind (arith, common_steps) in
    next_empty c.args.spec.now _ _ c.args.dumps.items c.loop-empty.empty.items c.loop-empty.filled.items c.loop-empty.dumps.items c.loop-empty.rows
    c.remove-shard.result c.remove-dump.result some c.remove-shard.ensures.value c.remove-dump.ensures.value c.loop-empty.invariant.filling

pub loop-empty-preserved : goal.loop-empty-preserved
loop-empty-preserved g c =
    let was = c.loop-empty.invariant in
    let some : 0 < length c.loop-empty.empty.items = grind (arith, common_steps) in
    record {
      filling =
          rw c.push_reserved.ensures.items
          (one_filled c.args.spec.now c.loop-empty.store c.filled_shard.new.store c.args.dumps.items c.loop-empty.empty.items c.remove-shard.new.self.items
          c.loop-empty.filled.items c.loop-empty.dumps.items c.remove-dump.new.self.items c.loop-empty.rows _ (c.loop-empty.rows + length c.remove-dump.result.rows) c.remove-shard.result
          c.in-Ok-filled_shard.shard c.remove-dump.result some c.remove-shard.ensures.value c.remove-shard.ensures.items c.remove-dump.ensures.value
          c.remove-dump.ensures.items c.filled_shard.ensures.asks_on c.in-Ok-filled_shard.ensures.filled c.in-Ok-filled_shard.ensures.room
          c.requires.serve.few_shards refl
          (λ small. grind (arith, common_steps, small, c.as_slice.ensures, c.saturating_add-rows.ensures)) was.filling);
      asks_on = asks_both c.args.store.now c.loop-empty.store c.filled_shard.new.store was.asks_on c.filled_shard.ensures.asks_on;
      room = grind (arith, common_steps, was.room, c.remove-shard.ensures.len, c.push_reserved.ensures.len, c.push_reserved.ensures.capacity);
    }

pub returns-clause-shards : goal.returns-clause-shards
returns-clause-shards g c =
    let none : length c.loop-empty.empty.items ≡ 0 = grind (arith, common_steps) in
    all_filled c.args.spec.now c.loop-empty.store.known_rows c.loop-empty.store.ledger.opening c.args.dumps.items c.loop-empty.empty.items
    c.loop-empty.filled.items c.loop-empty.dumps.items c.loop-empty.rows none c.requires.serve.some_shards c.loop-empty.invariant.filling

pub returns-clause-filled : goal.returns-clause-filled
returns-clause-filled g c =
    let none : length c.loop-empty.empty.items ≡ 0 = grind (arith, common_steps) in
    filled_with_all c.args.spec.now c.loop-empty.store.known_rows c.loop-empty.store.ledger.opening c.args.dumps.items c.loop-empty.empty.items
    c.loop-empty.filled.items c.loop-empty.dumps.items c.loop-empty.rows none c.loop-empty.invariant.filling

pub returns-in-Err-clause-stopped : goal.returns-in-Err-clause-stopped
returns-in-Err-clause-stopped g c =
    let some : 0 < length c.loop-empty.empty.items = grind (arith, common_steps) in
    one_stops c.args.spec.now c.loop-empty.store c.filled_shard.new.store c.args.dumps.items c.loop-empty.empty.items c.loop-empty.filled.items
    c.loop-empty.dumps.items c.loop-empty.rows c.remove-dump.result c.in-Err.cause some c.remove-dump.ensures.value
    c.loop-empty.invariant.filling c.in-Err.ensures.stopped
