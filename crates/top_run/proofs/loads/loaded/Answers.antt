use Rattle.std.proofs.Common.{refl}
use Rattle.top_run.proofs.loads.loaded.Goals as goal

pub returns-clause-ready : goal.returns-clause-ready
returns-clause-ready g c =
    let ready = c.requires.ready in
    let word = ready.parts.word in
    record {
      plans = ready.plans;
      are_load = ready.are_load;
      workers = ready.workers;
      dumps = c.args.dumps.items;
      rows_are = refl;
      olds = c.args.ready.parts.hub.shards.items;
      many = c.requires.can.as_many;
      all = ready.parts.shards;
      as_many = ready.parts.as_many;
      loaded = c.in_ok-shards.ensures.loaded;
      one_each = ready.parts.one_each;
      word = record { of_shards = word.of_shards; store_pass = word.store_pass; shard_passes = word.shard_passes; caller = word.caller };
      none = ready.parts.none;
      room = ready.parts.room;
    }
