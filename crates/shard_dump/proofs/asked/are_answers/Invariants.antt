use Rattle.std.proofs.Common.{take}
use Rattle.shard_dump.specs.Loads.{AreAnswers, HasAsked}
use Rattle.shard_dump.proofs.asked.are_answers.Given as goal

abbrev pub invariant-loop-row : goal.invariant-loop-row
invariant-loop-row g l = record {
  answers : AreAnswers l.store.known_rows l.fn.store.ledger.opening (take l.row-index l.rows);
  asked : HasAsked l.fn.store l.store;
}
