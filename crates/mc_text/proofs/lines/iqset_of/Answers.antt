use Rattle.mc_text.specs.Words.{words_in, IsNumber}
use Rattle.mc_text.proofs.FirstLemmas.{no_then, behind_first}
use Rattle.mc_text.proofs.RowLemmas.{only_iqset}
use Rattle.mc_text.proofs.lines.iqset_of.Goals as goal

pub returns-in_err-bytes-clause-none : goal.returns-in_err-bytes-clause-none
returns-in_err-bytes-clause-none c =
    rw c.from_residual-in_err-bytes.ensures
    (only_iqset (words_in c.args.args.now) (λ key flags exptime bytes token stamp block h. no_then IsNumber _ _ c.in_err-bytes.ensures.none bytes
    (behind_first _ _ c.in_ok-exptime.ensures.found.words_are
    (behind_first _ _ c.in_ok-flags.ensures.found.words_are (behind_first _ _ c.in_ok-key.ensures.found.words_are h)))))

pub returns-in_err-token-clause-none : goal.returns-in_err-token-clause-none
returns-in_err-token-clause-none c =
    rw c.from_residual-in_err-token.ensures
    (only_iqset (words_in c.args.args.now) (λ key flags exptime bytes token stamp block h. no_then IsNumber _ _ c.in_err-token.ensures.none token
    (behind_first _ _ c.in_ok-bytes.ensures.found.words_are (behind_first _ _ c.in_ok-exptime.ensures.found.words_are
    (behind_first _ _ c.in_ok-flags.ensures.found.words_are (behind_first _ _ c.in_ok-key.ensures.found.words_are h))))))

pub returns-in_err-stamp-clause-none : goal.returns-in_err-stamp-clause-none
returns-in_err-stamp-clause-none c =
    rw c.from_residual-in_err-stamp.ensures
    (only_iqset (words_in c.args.args.now) (λ key flags exptime bytes token stamp block h. no_then IsNumber _ _ c.in_err-stamp.ensures.none stamp
    (behind_first _ _ c.in_ok-token.ensures.found.words_are
    (behind_first _ _ c.in_ok-bytes.ensures.found.words_are (behind_first _ _ c.in_ok-exptime.ensures.found.words_are
    (behind_first _ _ c.in_ok-flags.ensures.found.words_are (behind_first _ _ c.in_ok-key.ensures.found.words_are h)))))))
