use Rattle.std.proofs.Common.{◌≡◌, take}
use Rattle.sql_keeper.specs.Log.{rows_after}
use Rattle.sql_keeper.proofs.logs.rows_after.Given as goal

-- the rows are those after the commits so far
abbrev pub invariant-loop-commit : goal.invariant-loop-commit
invariant-loop-commit l = l.rows ≡ rows_after l.opening (take l.commit-index l.log)
