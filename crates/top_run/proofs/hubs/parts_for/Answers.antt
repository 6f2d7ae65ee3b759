use Rattle.std.proofs.Common.{arith}
use Rattle.top_run.proofs.hubs.parts_for.Goals as goal

pub returns : goal.returns
returns c = record {
  shards = c.in_ok-new_shards.ensures.all;
  as_many = c.in_ok-new_shards.ensures.as_many;
  new = c.in_ok-new_shards.ensures.new;
  none_out = c.in_ok-new_shards.ensures.none_out;
  one_each = c.new.ensures;
  word = record {
    of_shards = c.in_ok-new.ensures.shards;
    store_pass = c.in_ok-new.ensures.store;
    shard_passes = c.in_ok-new.ensures.passes;
    caller = c.in_ok-new.ensures.caller;
  };
  none = c.in_ok-with_capacity.ensures.items;
  room = grind (arith, c.in_ok-with_capacity.ensures.capacity);
}
