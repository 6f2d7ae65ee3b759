use Rattle.std.proofs.Common.{◌≡◌, ◌<◌, map, take}
use Rattle.std.specs.List.{AllPairs}
use Rattle.sqlite_tables.specs.Lists.{member_values}
use Rattle.sqlite_tables.proofs.loading.members_in.Given as goal

-- the rows so far are those of the members so far, whose ids ascend
abbrev pub invariant-loop-row : goal.invariant-loop-row
invariant-loop-row l = (take l.row-index l.rows ≡ map member_values l.members.items) × AllPairs (λ one later. one.id < later.id) l.members.items
