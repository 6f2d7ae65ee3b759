use Rattle.callers.proofs.SaveLemmas.{saved_right}
use Rattle.run_words.specs.declared.words.Words.TheVariants as words
use Rattle.callers.proofs.runs.run_saving_server.Goals as goal

pub returns : goal.returns
returns g c = λ place spec are done.
    let laws = g.met.K.Telling g.world.𝓛 g.world.𝓜 g.world.𝓡 ((λ s x. x), (λ x. x), (λ x. x), λ x. x) in
    saved_right c.run.result.status spec _ _ _ (c.run.ensures.ended.worded (words.Serve place spec) are).1
    (c.run.ensures.saves.worded (words.Serve place spec) are) done
    (λ some. laws.always_tells c.run.result.keeper (c.run.ensures.started some))
