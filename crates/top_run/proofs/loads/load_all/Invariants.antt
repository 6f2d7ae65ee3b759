use Rattle.std.proofs.Common.{◌≤◌, ◌+◌, vec_len, vec_capacity}
use Rattle.top_run.specs.Warming.{KeepsOn}
use Rattle.top_run.proofs.WarmingLemmas.{AreLoadedSoFar}
use Rattle.top_run.proofs.loads.load_all.Given as goal

-- some shards in front were loaded with the dumps in front; the others can be, and there is room for them
abbrev pub invariant-loop-shards : goal.invariant-loop-shards
invariant-loop-shards g l = record {
  so_far : AreLoadedSoFar l.initial.store.known_rows l.initial.store.ledger.opening l.initial.dumps.items l.initial.shards.items
      l.dumps.items l.shards.items l.loaded.items;
  keeps_on : KeepsOn l.initial.store l.store;
  room : vec_len l.loaded + vec_len l.shards ≤ vec_capacity l.loaded;
}

abbrev pub decreases-loop-shards : goal.decreases-loop-shards
decreases-loop-shards g l = vec_len l.shards
