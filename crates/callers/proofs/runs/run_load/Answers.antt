use Rattle.callers.proofs.RunLemmas.{load_done}
use Rattle.run_words.specs.declared.words.Words.TheVariants as words
use Rattle.callers.proofs.runs.run_load.Goals as goal

pub returns : goal.returns
returns g c = λ place spec are done.
    load_done c.run.result.status spec _ _ _ _ c.run.result.written (c.run.ensures.ended.worded (words.Work place spec) are).1 done
