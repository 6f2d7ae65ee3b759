use Rattle.mc_text.specs.Words.{words_in, IsBy}
use Rattle.mc_text.proofs.FirstLemmas.{no_then, behind_first}
use Rattle.mc_text.proofs.RowLemmas.{only_iqdelta}
use Rattle.mc_text.proofs.lines.iqdelta_of.Goals as goal

pub returns-in_err-by-clause-none : goal.returns-in_err-by-clause-none
returns-in_err-by-clause-none c =
    rw c.from_residual-in_err-by.ensures (only_iqdelta (words_in c.args.args.now)
    (λ key sid by h. no_then IsBy _ _ c.in_err-by.ensures.none by
    (behind_first _ _ c.in_ok-sid.ensures.found.words_are (behind_first _ _ c.in_ok-key.ensures.found.words_are h))))
