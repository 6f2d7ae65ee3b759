use Rattle.run_words.proofs.WordLemmas.{no_warm}
use Rattle.run_words.proofs.reading.command_named.Goals as goal

pub returns-in-None-3-clause-none : goal.returns-in-None-3-clause-none
returns-in-None-3-clause-none c = λ command are is.
    no_warm _ _ c.args.place c.in-warm.is (rw c.in-None-3.is at c.in_ok-spec-in-warm.ensures.none) command are
