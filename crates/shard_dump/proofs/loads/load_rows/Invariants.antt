use Rattle.std.proofs.Common.{length, reverse}
use Rattle.shard_dump.proofs.LoadLemmas.{IsLoading}
use Rattle.shard_dump.proofs.loads.load_rows.Given as goal

abbrev pub invariant-loop-row : goal.invariant-loop-row
invariant-loop-row l = IsLoading l.who l.now l.fn.rows.items (reverse l.rows.items) l.fn.shard l.shard

abbrev pub decreases-loop-row : goal.decreases-loop-row
decreases-loop-row l = length l.rows.items
