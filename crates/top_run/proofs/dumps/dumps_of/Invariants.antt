use Rattle.std.proofs.Common.{◌≡◌, ◌≤◌, take, length, vec_len, vec_capacity}
use Rattle.top_run.specs.Warming.{AreDumped}
use Rattle.top_run.proofs.dumps.dumps_of.Given as goal

-- there are the dumps of the shards so far, and room for the others
abbrev pub invariant-loop-shard : goal.invariant-loop-shard
invariant-loop-shard l = record {
  dumped : AreDumped l.log (take l.shard-index l.shards) l.dumps.items;
  many : vec_len l.dumps ≡ l.shard-index;
  room : length l.shards ≤ vec_capacity l.dumps;
}
