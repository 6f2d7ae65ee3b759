use Rattle.std.proofs.Common.{inl}
use Rattle.mixed_lines.proofs.ItemLemmas.{open_by}
use Rattle.mixed_lines.proofs.fronts.mixed.Goals as goal

pub returns-in-Command : goal.returns-in-Command
returns-in-Command c = λ stream none stands. (rw c.in-Command.is at stands, none)

pub returns-in-BadLine : goal.returns-in-BadLine
returns-in-BadLine c = λ stream none stands. inl (rw c.in-BadLine.is at stands, none)

pub returns-in-LongLine : goal.returns-in-LongLine
returns-in-LongLine c = λ stream none stands. (rw c.in-LongLine.is at stands, none)

pub returns-in-BadBlock : goal.returns-in-BadBlock
returns-in-BadBlock c = λ stream none stands. inl (rw c.in-BadBlock.is at stands, none)

pub returns-in-BigBlock : goal.returns-in-BigBlock
returns-in-BigBlock c = λ stream none stands. inl (rw c.in-BigBlock.is at stands, none)

pub returns-in-Open : goal.returns-in-Open
returns-in-Open c = λ stream none stands. open_by stream none (rw c.in-Open.is at stands)
