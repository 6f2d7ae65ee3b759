use Rattle.std.proofs.Common.{◌≡◌, map, take}
use Rattle.std.specs.List.{AllPairs}
use Rattle.sqlite_tables.specs.Lists.{pair_values, IsPairBefore}
use Rattle.sqlite_tables.proofs.loading.ascending_pairs.Given as goal

-- the rows so far are those of the pairs so far, which ascend
abbrev pub invariant-loop-row : goal.invariant-loop-row
invariant-loop-row l = (take l.row-index l.rows ≡ map pair_values l.pairs.items) × AllPairs IsPairBefore l.pairs.items
