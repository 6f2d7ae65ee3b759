use Rattle.std.proofs.Common.{◌≡◌, ◌<◌, ◌≤◌, ◌+◌, ◌^◌, true, All, length}
use Rattle.std.specs.Prelude.{IsSome}
use Rattle.sql_keeper.specs.Stores.{rows_of}
use Rattle.shard_dump.specs.Answered.{may_stand}
use Rattle.shard_dump.proofs.AnsweredLemmas.{MayGoOn, TakesRight, rows_back, right_rows}
use Rattle.shard_dump.proofs.answered.rows_answered.Given as goal

-- the rows so far go on with those of the entries that are left
abbrev pub invariant-loop-key : goal.invariant-loop-key
invariant-loop-key g l = record {
  among : MayGoOn l.rows.items l.entries.items (rows_back l.initial.entries.items);
  right : IsSome l.store.known_rows → TakesRight (rows_of l.fn.store.ledger) l.rows.items l.entries.items
      (right_rows (rows_of l.fn.store.ledger) l.initial.entries.items);
  few : length l.rows.items + length l.entries.items ≤ length l.initial.entries.items;
  stand : All (λ row. may_stand row ≡ true) l.rows.items;
  ids : All (λ row. row.key.id < 2 ^ 32) l.rows.items;
  ledger : l.store.ledger ≡ l.fn.store.ledger;
  tells : IsSome l.store.known_rows → IsSome l.fn.store.known_rows;
  faults : l.store.faults ≡ l.fn.store.faults;
}

abbrev pub decreases-loop-key : goal.decreases-loop-key
decreases-loop-key g l = length l.entries.items
