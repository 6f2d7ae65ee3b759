use Rattle.std.proofs.Common.{◌≡◌, length, take}
use Rattle.std.specs.Option.{option_copied}
use Rattle.change_words.proofs.TakenLemmas.{HasTaken}
use Rattle.run_inputs.specs.Parsing.{words_behind}
use Rattle.run_inputs.proofs.txns.changes_of.Given as goal

abbrev pub invariant-loop-place : goal.invariant-loop-place
invariant-loop-place l = record {
  taken : HasTaken (words_behind (option_copied l.args)) (take l.place l.list) (words_behind (option_copied l.rest));
  size : length l.list ≡ 8;
}
