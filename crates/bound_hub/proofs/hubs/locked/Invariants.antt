use Rattle.std.proofs.Common.{◌≡◌, ◌≤◌, ◌+◌, ◌^◌, All, length, vec_len, vec_capacity}
use Rattle.shard_lock.specs.Names.{ArePlaced, IsNamed}
use Rattle.log_word.specs.Passes.{blind_shard_passes}
use Rattle.bound_hub.specs.Ties.{HasCount, IsNewShard}
use Rattle.bound_hub.proofs.hubs.locked.Given as goal

-- the shards that are left are as they were, each place has its lock or its shard, and each shard that is left has its pass and a part that is left
abbrev pub invariant-loop-shard : goal.invariant-loop-shard
invariant-loop-shard g l = record {
  named : All (IsNamed g.H.HubName.terms) l.shards.items;
  counted : All (HasCount g.H.BoundName.word.shards) l.shards.items;
  new : All (IsNewShard g.H.HubName.opening g.H.BoundName.before l.fn.caller.seen.stopped) l.shards.items;
  placed : ArePlaced l.shards.items;
  all : vec_len l.locks + vec_len l.shards ≡ vec_len l.fn.shards;
  room : vec_len l.fn.shards ≤ vec_capacity l.locks;
  left : vec_capacity l.shards ≡ vec_capacity l.fn.shards;
  parts : l.rest.parts ≡ vec_len l.shards;
  bare : l.rest.amount ≡ 0;
  total : l.book.total + 2 ^ length l.shards.items ≡ 2 ^ vec_len l.fn.shards;
  passes : l.passes.items ≡ blind_shard_passes g.H.BoundName.word (length l.shards.items);
  caller : l.caller ≡ l.fn.caller;
}

abbrev pub decreases-loop-shard : goal.decreases-loop-shard
decreases-loop-shard g l = vec_len l.shards
