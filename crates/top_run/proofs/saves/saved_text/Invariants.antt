use Rattle.std.proofs.Common.{◌≡◌}
use Rattle.std.specs.Prelude.{IsSome}
use Rattle.sql_keeper.specs.Stores.{rows_of}
use Rattle.top_run.proofs.SaveLemmas.{AreTexts}
use Rattle.top_run.proofs.saves.saved_text.Given as goal

-- there are the texts of the dumps of the shards so far, and no call of the keeper has failed
abbrev pub invariant-loop-shard : goal.invariant-loop-shard
invariant-loop-shard g l = record {
  texts : AreTexts l.store.known_rows (rows_of l.fn.store.ledger) l.shards l.shard-index l.texts.items;
  ledger : l.store.ledger ≡ l.fn.store.ledger;
  tells : IsSome l.store.known_rows → IsSome l.fn.store.known_rows;
  faults : l.store.faults ≡ l.fn.store.faults;
}
