use Rattle.std.proofs.Common.{◌≡◌, subst}
use Rattle.std.specs.Prelude.{ℤ, IfOk, OnOk}
use Rattle.std.proofs.lemmas.Int.{to_z-of_z}
use mir.Syntax.{w32}
use Rattle.key_shard.specs.declared.steps.Step.{Step}
use Rattle.key_shard.specs.Answers.{quarantine_step}
use Rattle.key_shard.specs.Replies.{ShowsQuarantine}
use Rattle.key_shard.specs.Shards.{Refuses, refusal, stepped}
use Rattle.key_shard.specs.Kept.{shown, steps_of, terms_of}
use Rattle.key_shard.proofs.shards.Shard.quarantine.Goals as goal

pub returns-clause-refusal : goal.returns-clause-refusal
returns-clause-refusal c =
    let body = c.self.inside.body in
    let step : ℤ → Step = λ s. quarantine_step (terms_of body) (steps_of body) c.args.key c.args.sid c.args.mode s c.args.now in
    rw (← c.self.view_is) (subst (λ (s : ℤ). Refuses (refusal (shown body) c.args.key (step s)) c.quarantine.result)
    (to_z-of_z w32 c.args.shift c.ranges.shift) c.quarantine.ensures.refusal)

pub returns-clause-step : goal.returns-clause-step
returns-clause-step c =
    let body = c.self.inside.body in
    let step : ℤ → Step = λ s. quarantine_step (terms_of body) (steps_of body) c.args.key c.args.sid c.args.mode s c.args.now in
    rw (← c.self.view_is) (subst (λ (s : ℤ). OnOk c.quarantine.result (shown c.quarantine.new.self ≡ stepped (shown body) (step s)))
    (to_z-of_z w32 c.args.shift c.ranges.shift) c.quarantine.ensures.step)

pub returns-clause-shows : goal.returns-clause-shows
returns-clause-shows c =
    let body = c.self.inside.body in
    let step : ℤ → Step = λ s. quarantine_step (terms_of body) (steps_of body) c.args.key c.args.sid c.args.mode s c.args.now in
    rw (← c.self.view_is) (subst (λ (s : ℤ). IfOk c.quarantine.result (ShowsQuarantine (terms_of body) (steps_of body) (step s)))
    (to_z-of_z w32 c.args.shift c.ranges.shift) c.quarantine.ensures.shows)
