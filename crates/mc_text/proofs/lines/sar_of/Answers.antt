use Rattle.mc_text.specs.Words.{words_in, IsNumber}
use Rattle.mc_text.proofs.FirstLemmas.{no_then, behind_first}
use Rattle.mc_text.proofs.RowLemmas.{only_sar}
use Rattle.mc_text.proofs.lines.sar_of.Goals as goal

pub returns-in_err-sid-clause-none : goal.returns-in_err-sid-clause-none
returns-in_err-sid-clause-none c =
    rw c.from_residual-in_err-sid.ensures
    (only_sar (words_in c.args.args.now) (λ key flags exptime bytes sid block h. no_then IsNumber _ _ c.in_err-sid.ensures.none sid.number
    (behind_first _ _ c.in_ok-bytes.ensures.found.words_are (behind_first _ _ c.in_ok-exptime.ensures.found.words_are
    (behind_first _ _ c.in_ok-flags.ensures.found.words_are (behind_first _ _ c.in_ok-key.ensures.found.words_are h))))))
