use Rattle.mc_text.specs.Words.{words_in, IsBy}
use Rattle.mc_text.proofs.FirstLemmas.{no_first}
use Rattle.mc_text.proofs.words.take_by.Goals as goal

pub returns-in_err-by-clause-none : goal.returns-in_err-by-clause-none
returns-in_err-by-clause-none c =
    rw c.from_residual-in_err-by.ensures
    (no_first IsBy (words_in c.args.args.now) c.in_ok-word.word.now (words_in c.in_ok-word.rest.now) c.in_ok-word.ensures.found c.in_err-by.ensures.none)
