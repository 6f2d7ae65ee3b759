use Rattle.std.proofs.Common.{◌≡◌, ◌<◌, ◌≤◌, ◌+◌, ◌^◌, ◌++◌, All, List, length, reverse}
use Rattle.std.specs.List.{filter_map}
use Rattle.sql_keeper.specs.declared.stores.Commit.{Commit}
use Rattle.shard_dump.specs.Touches.{TellsTouches}
use Rattle.shard_dump.proofs.DumpLemmas.{row_by}
use Rattle.shard_dump.proofs.dumps.rows_to_dump.Given as goal

abbrev pub invariant-loop-key : goal.invariant-loop-key
invariant-loop-key l = record {
  rows : (log : List Commit) → TellsTouches log l.touches
      → l.rows.items ++ filter_map (row_by log) (reverse l.entries.items) ≡ filter_map (row_by log) (reverse l.initial.entries.items);
  few : length l.rows.items + length l.entries.items ≤ length l.initial.entries.items;
  ids : All (λ row. row.key.id < 2 ^ 32) l.rows.items;
}

abbrev pub decreases-loop-key : goal.decreases-loop-key
decreases-loop-key l = length l.entries.items
