use Rattle.mc_text.specs.Words.{words_in}
use Rattle.mc_text.proofs.RowLemmas.{only_iqcommit}
use Rattle.mc_text.proofs.lines.iqcommit_of.Goals as goal

pub returns-in_err-key-clause-none : goal.returns-in_err-key-clause-none
returns-in_err-key-clause-none c =
    rw c.from_residual.ensures (only_iqcommit (words_in c.args.args.now) c.in_err-key.ensures.none)
