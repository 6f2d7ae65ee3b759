use Rattle.std.proofs.Common.{◌≡◌, take}
use Rattle.top_run.specs.Warming.{lines_in}
use Rattle.top_run.proofs.dumps.lines_of.Given as goal

-- the text has the lines of the dumps so far
abbrev pub invariant-loop-dumped : goal.invariant-loop-dumped
invariant-loop-dumped l = l.text.items ≡ lines_in (take l.dumped-index l.dumps)
