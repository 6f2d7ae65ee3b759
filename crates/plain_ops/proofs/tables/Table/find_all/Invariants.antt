use Rattle.std.proofs.Common.{◌≡◌, take}
use Rattle.plain_ops.specs.Entries.{found_in}
use Rattle.plain_ops.proofs.tables.Table.find_all.Given as goal

abbrev pub invariant-loop-key : goal.invariant-loop-key
invariant-loop-key l = l.found.items ≡ found_in l.self (take l.key-index l.keys)
