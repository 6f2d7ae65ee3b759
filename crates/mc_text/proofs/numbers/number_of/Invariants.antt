use Rattle.std.proofs.Common.{◌≡◌, ◌<◌, ◌^◌, true, take}
use Rattle.std.specs.List.{list_all}
use Rattle.rows_model.specs.Shift.{is_digit, number_from}
use Rattle.mc_text.proofs.numbers.number_of.Given as goal

abbrev pub invariant-loop-byte : goal.invariant-loop-byte
invariant-loop-byte l = record {
  value : l.number ≡ number_from 0 (take l.byte-index l.word);
  digits : list_all is_digit (take l.byte-index l.word) ≡ true;
  below : l.number < 2 ^ 64;
}
