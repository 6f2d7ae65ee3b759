use Rattle.std.proofs.Common.{◌≡◌, ◌≤◌, ◌+◌, ◌++◌, map, vec_len, vec_capacity}
use Rattle.run_audit.specs.Findings.{AreWhole}
use Rattle.top_run.specs.Runs.{kept_in}
use Rattle.top_run.proofs.endings.histories_of.Given as goal

-- what was handed out and what is left are all there was, there is room for it, and where all shards are whole it is their histories
abbrev pub invariant-loop-shards : goal.invariant-loop-shards
invariant-loop-shards l = record {
  handed : map (λ history. history.items) l.histories.items ++ kept_in l.shards.items ≡ kept_in l.initial.shards.items;
  room : vec_len l.histories + vec_len l.shards ≤ vec_capacity l.histories;
  left : AreWhole l.initial.shards.items → AreWhole l.shards.items;
  whole : AreWhole l.initial.shards.items
      → map (λ history. history.items) l.histories.items ++ map (λ shard. shard.history) l.shards.items
      ≡ map (λ shard. shard.history) l.initial.shards.items;
}

abbrev pub decreases-loop-shards : goal.decreases-loop-shards
decreases-loop-shards l = vec_len l.shards
