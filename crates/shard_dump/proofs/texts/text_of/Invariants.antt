use Rattle.std.proofs.Common.{◌≡◌, ◌++◌, take}
use Rattle.shard_dump.specs.Texts.{rows_text}
use Rattle.shard_dump.proofs.texts.text_of.Given as goal

abbrev pub invariant-loop-row : goal.invariant-loop-row
invariant-loop-row l = l.text.items ≡ l.initial.text.items ++ rows_text (take l.row-index l.rows)
