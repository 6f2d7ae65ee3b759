use Rattle.std.proofs.Common.{◌≡◌, ◌<ℤ◌, [], ◌∷◌, map, take}
use Rattle.std.specs.List.{AllPairs}
use Rattle.sqlite.specs.declared.types.Value.TheVariants.{Int}
use Rattle.sqlite_tables.proofs.loading.ascending_numbers.Given as goal

-- the rows so far are the numbers so far, which ascend
abbrev pub invariant-loop-row : goal.invariant-loop-row
invariant-loop-row l = (take l.row-index l.rows ≡ map (λ n. Int n ∷ []) l.numbers.items) × AllPairs (λ m n. m <ℤ n) l.numbers.items
