use Rattle.callers.proofs.RunLemmas.{two_loads_done}
use Rattle.run_words.specs.declared.words.Words.TheVariants as words
use Rattle.callers.proofs.runs.run_two_loads.Goals as goal

pub returns : goal.returns
returns g c = λ place spec are done.
    two_loads_done c.run.result.status spec _ (c.run.ensures.ended.worded (words.Warm place spec) are).1 done
