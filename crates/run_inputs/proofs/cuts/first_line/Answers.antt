use Rattle.run_inputs.proofs.CutLemmas.{lines_cut}
use Rattle.run_inputs.proofs.cuts.first_line.Goals as goal

pub returns-in-Some-clause-lines : goal.returns-in-Some-clause-lines
returns-in-Some-clause-lines c = lines_cut c.args.text.now c.cut.result.0.now c.in-Some.rest.now (rw c.in-Some.is at c.cut.ensures.parts)
