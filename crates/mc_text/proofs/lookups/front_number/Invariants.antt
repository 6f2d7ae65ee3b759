use Rattle.std.proofs.Common.{◌-◌, ◌≡◌, ◌<◌, ◌≤◌, ◌^◌, true, length, take}
use Rattle.std.specs.List.{list_all}
use Rattle.rows_model.specs.Shift.{is_digit, number_from}
use Rattle.mc_text.proofs.lookups.front_number.Given as goal

-- the digits so far
abbrev pub invariant-loop-at : goal.invariant-loop-at
invariant-loop-at l = record {
  within : l.at ≤ length l.text;
  value : l.number ≡ number_from 0 (take l.at l.text);
  digits : list_all is_digit (take l.at l.text) ≡ true;
  below : l.number < 2 ^ 64;
}

abbrev pub decreases-loop-at : goal.decreases-loop-at
decreases-loop-at l = length l.text - l.at
