use Rattle.std.proofs.Common.{◌≡◌, ◌≤◌, ◌+◌, ◌^◌, All, sum_by, vec_len, vec_capacity}
use Rattle.shard_lock.specs.Names.{AreLegal, IsNamed}
use Rattle.log_word.specs.Steps.{IsBeginning}
use Rattle.bound_hub.specs.Parts.{IsLeft}
use Rattle.bound_hub.proofs.hub_parts.taken.Given as goal

-- the shards so far are named, with legal histories, kept entries and all their tokens, and each lock has its place or its shard
abbrev pub invariant-loop-lock : goal.invariant-loop-lock
invariant-loop-lock g l = record {
  named : All (IsNamed g.H.HubName.terms) l.shards.items;
  legal : AreLegal l.shards.items;
  left : All (IsLeft g.H.HubName.opening g.H.BoundName.before l.fn.store.store l.fn.store.seen) l.shards.items;
  seen : IsBeginning l.fn.store.seen l.store.seen;
  store : l.store.store ≡ l.fn.store.store;
  all : vec_len l.locks + vec_len l.shards ≡ vec_len l.fn.locks;
  room : vec_len l.fn.locks ≤ vec_capacity l.shards;
  parts : l.all.parts ≡ vec_len l.shards;
  amount : l.all.amount ≡ sum_by (λ shard. 2 ^ shard.terms.no) l.shards.items;
}

abbrev pub decreases-loop-lock : goal.decreases-loop-lock
decreases-loop-lock g l = vec_len l.locks
