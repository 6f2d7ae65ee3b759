use Rattle.run_words.specs.declared.words.Words.TheVariants as words
use Rattle.callers.proofs.RunLemmas.{server_done}
use Rattle.callers.proofs.runs.run_server.Goals as goal

pub returns : goal.returns
returns g c = λ place spec are done.
    server_done c.run.result.status spec _ (c.run.ensures.ended.worded (words.Serve place spec) are).1 done
