use Rattle.std.proofs.Common.{ℕ, ◌+◌, ◌-◌, ◌<◌, length}
use Rattle.mc_text.specs.Streams.{EndsAt}
use Rattle.mc_text.proofs.items.line_end.Given as goal

-- no line ends with a byte so far
abbrev pub invariant-loop-from : goal.invariant-loop-from
invariant-loop-from l = (place : ℕ) → place + 1 < l.from → EndsAt l.stream place → ⊥

abbrev pub decreases-loop-from : goal.decreases-loop-from
decreases-loop-from l = length l.near - l.from
