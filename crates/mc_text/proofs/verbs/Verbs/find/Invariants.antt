use Rattle.std.proofs.Common.{ℕ, ◌≡◌, ◌<◌, slice_index_or}
use Rattle.mc_text.specs.declared.verbs.Row.{Row}
use Rattle.mc_text.proofs.verbs.Verbs.find.Given as goal

-- no row so far has the verb
abbrev pub invariant-loop-row : goal.invariant-loop-row
invariant-loop-row g l =
    (i : ℕ) (d : Row) → i < l.row-index → (slice_index_or l.row-items i d).which ≡ l.which → ⊥
