use Rattle.callers.proofs.RunLemmas.{load_done, load_fresh}
use Rattle.run_words.specs.declared.words.Words.TheVariants as words
use Rattle.callers.proofs.runs.run_telling_load.Goals as goal

pub returns : goal.returns
returns g c = λ place spec are done.
    let laws = g.met.K.Telling g.world.𝓛 g.world.𝓜 g.world.𝓡 ((λ s x. x), (λ x. x), (λ x. x), λ x. x) in
    load_fresh place spec _ _ _ c.run.result.written
    (load_done c.run.result.status spec _ _ _ _ c.run.result.written (c.run.ensures.ended.worded (words.Work place spec) are).1 done)
    (λ some. laws.always_tells c.run.result.keeper (c.run.ensures.started some))
