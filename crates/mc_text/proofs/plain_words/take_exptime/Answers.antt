use Rattle.mc_text.specs.Words.{words_in}
use Rattle.mc_text.specs.PlainWords.{IsExptime}
use Rattle.mc_text.proofs.FirstLemmas.{no_first}
use Rattle.mc_text.proofs.plain_words.take_exptime.Goals as goal

pub returns-in_err-expires-clause-none : goal.returns-in_err-expires-clause-none
returns-in_err-expires-clause-none c =
    rw c.from_residual-in_err-expires.ensures
    (no_first IsExptime (words_in c.args.args.now) c.in_ok-word.word.now (words_in c.in_ok-word.rest.now) c.in_ok-word.ensures.found c.in_err-expires.ensures.none)
