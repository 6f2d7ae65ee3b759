use Rattle.std.proofs.Common.{◌≡◌, List, map, take}
use Rattle.sqlite_tables.specs.declared.pairs.Pair.{Pair}
use Rattle.sqlite_tables.specs.Lists.{pair_values}
use Rattle.sqlite_tables.proofs.pairs.pairs_in.Given as goal

-- the pairs of the rows so far
abbrev pub invariant-loop-row : goal.invariant-loop-row
invariant-loop-row l = (pairs : List Pair) → l.rows ≡ map pair_values pairs → l.pairs.items ≡ take l.row-index pairs
