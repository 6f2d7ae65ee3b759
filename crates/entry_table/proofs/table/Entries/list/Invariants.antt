use Rattle.std.proofs.Common.{◌≡◌, ◌++◌}
use Rattle.entry_table.specs.Kept.{shown_all}
use Rattle.entry_table.proofs.table.Entries.list.Given as goal

-- the copy so far, and what is left of the cache, are the whole list
abbrev pub invariant-loop-key : goal.invariant-loop-key
invariant-loop-key l = l.copy.items ++ shown_all l.key-iterator ≡ l.self.list
