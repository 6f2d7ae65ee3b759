use Rattle.std.proofs.Common.{◌-◌, ◌≤◌, length}
use Rattle.mc_text.proofs.SplitLemmas.{NoneBefore}
use Rattle.mc_text.proofs.words.space_behind.Given as goal

-- no space behind it so far
abbrev pub invariant-loop-at : goal.invariant-loop-at
invariant-loop-at l = record {
  none : NoneBefore l.text l.at;
  within : l.at ≤ length l.text;
}

abbrev pub decreases-loop-at : goal.decreases-loop-at
decreases-loop-at l = length l.text - l.at
