use Rattle.std.proofs.Common.{◌≡◌, length}
use Rattle.mc_text.specs.Words.{words_in}
use Rattle.change_words.proofs.TakenLemmas.{HasTaken}
use Rattle.mc_text.proofs.txns.read_txn.Given as goal

abbrev pub invariant-loop : goal.invariant-loop
invariant-loop l = record {
  taken : HasTaken (words_in l.words) l.changes.items (words_in l.rest);
  count : length l.changes.items ≡ l.counter;
}
