use Rattle.std.proofs.Common.{◌≤◌, ◌+◌, vec_len, vec_capacity}
use Rattle.top_run.specs.Warming.{AsksOn}
use Rattle.top_run.proofs.WarmStartLemmas.{AreFilling}
use Rattle.top_run.proofs.warm_starts.filled_shards.Given as goal

-- the shards so far are filled, for each of the others there is a dump, and there is room for them
abbrev pub invariant-loop-empty : goal.invariant-loop-empty
invariant-loop-empty g l = record {
  filling : AreFilling l.spec l.store.known_rows l.store.ledger.opening l.initial.dumps.items l.empty.items l.filled.items l.dumps.items l.rows;
  asks_on : AsksOn l.initial.store l.store;
  room : vec_len l.filled + vec_len l.empty ≤ vec_capacity l.filled;
}

abbrev pub decreases-loop-empty : goal.decreases-loop-empty
decreases-loop-empty g l = vec_len l.empty
