use Rattle.std.proofs.Common.{◌≡◌, AllPairs, take}
use Rattle.sqlite_tables.specs.Lists.{IsPairBefore, tables_of}
use Rattle.sqlite_keeper.proofs.loading.rows_of.Given as goal

abbrev pub invariant-loop-pair : goal.invariant-loop-pair
invariant-loop-pair l = AllPairs IsPairBefore l.pairs
    → l.rows ≡ tables_of (record { members = l.fn.members.items; pairs = take l.pair-index l.pairs })
