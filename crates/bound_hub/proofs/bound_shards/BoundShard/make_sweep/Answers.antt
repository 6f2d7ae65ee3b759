use Rattle.std.proofs.Common.{◌≡◌, ◌≢◌, true, false, is_some, refl, sym, ap, subst, ◌∙◌}
use Rattle.key_shard.specs.declared.replies.How.TheVariants as hows
use Rattle.key_shard.specs.declared.replies.Rel.TheVariants as rel
use Rattle.key_shard.specs.declared.steps.Ended.TheVariants as ended
use Rattle.key_shard.specs.declared.steps.Step.TheVariants as step
use Rattle.key_shard.specs.Shards.{past_of, stepped, swept}
use Rattle.log_word.specs.declared.events.ShortKind.TheVariants as kinds
use Rattle.log_word.specs.Events.{is_over}
use Rattle.log_word.specs.Steps.{IsBeginning}
use Rattle.bound_hub.specs.Gets.{IsLastStep}
use Rattle.bound_hub.specs.Shorts.{short}
use Rattle.bound_hub.specs.Sweeps.{HasSeenGrant}
use Rattle.bound_hub.specs.Ties.{BoundShardView}
use Rattle.bound_hub.specs.StepShorts.{release_short}
use Rattle.bound_hub.proofs.SweepTies.{swept_one, swept_sid, sweep_is_honest}
use Rattle.bound_hub.proofs.StepTies.{has_stepped, told_so, invariant_after, step_is_more, step_is_last}
use Rattle.bound_hub.proofs.bound_shards.BoundShard.make_sweep.Goals as goal

pub invariant_of-self-in-Released : goal.invariant_of-self-in-Released
invariant_of-self-in-Released g c =
    let shard = c.self.inside.shard in
    let pass = c.self.inside.pass in
    let a = c.args in
    let word = g.H.BoundName.word in
    let opening = g.H.HubName.opening in
    let before = g.H.BoundName.before in
    let legal = c.legal.ensures in
    let new = c.sweep_drop-answer.new.self in
    let ensured = c.sweep_drop-answer.ensures in
    let granted = subst (λ (v : BoundShardView). HasSeenGrant v.shard.terms.no a.key a.sid.number a.token v.seen) (sym c.self.view_is) c.requires.granted in
    let over = subst (λ (v : BoundShardView). is_over a.sid.number v.seen.events ≡ true) (sym c.self.view_is) c.requires.over in
    let one = swept_one (past_of shard) a.key a.token c.in-Released.evicted (sym c.in-Released.is ∙ ensured.told) in
    let s = step.Released a.key one.0.sid a.token ended.Drop in
    let made : new ≡ stepped shard s = ensured.step ∙ ap (λ o. swept shard o) one.2 in
    let mine = swept_sid word opening before shard pass c.self.invariant.2 legal a.key a.sid a.token granted one.0 one.1 in
    let other : c.sweep_drop-answer.result ≢ rel.Gone = λ gone. let two : rel.Released c.in-Released.evicted ≡ rel.Gone = sym c.in-Released.is ∙ gone in absurd cc in
    let tells = c.release_short-short.ensures ∙ ap (λ r. release_short a.key a.sid a.token hows.Drop r false) c.in-Released.is ∙ (λ i. short kinds.Dropped a.key (sym mine i) a.token 0 false) in
    invariant_after g.H.HubName.terms c.self.inside.token.parts c.self.inside.token.amount word opening before shard pass c.self.invariant c.sound.ensures s
    (sweep_is_honest word opening before shard pass c.self.invariant.2 legal a.key a.sid a.token granted one.0 one.1 over) new (has_stepped shard new s made)
    c.release_short-short.result c.tell.new.self
    (told_so s c.release_short-short.result false a.key new pass c.tell.new.self tells refl (sym (ap (λ o. is_some o) (ensured.dropped other))) c.tell.ensures.word c.tell.ensures.shard c.tell.ensures.seen)

pub returns-in-Released-clause-goes_on : goal.returns-in-Released-clause-goes_on
returns-in-Released-clause-goes_on g c =
    subst (λ (v : BoundShardView). IsBeginning v.seen c.tell.new.self.seen) c.self.view_is
    (step_is_more c.self.inside.pass.shard c.release_short-short.result c.self.inside.pass.seen c.tell.new.self.seen c.tell.ensures.seen)

pub returns-in-Released-clause-last : goal.returns-in-Released-clause-last
returns-in-Released-clause-last g c = λ other.
    let pass = c.self.inside.pass in
    let a = c.args in
    let short = release_short a.key a.sid a.token hows.Drop c.sweep_drop-answer.result false in
    subst (λ (v : BoundShardView). IsLastStep v.shard.terms.no short c.tell.new.self.seen) c.self.view_is
    (step_is_last pass.shard c.self.inside.shard.terms.no c.release_short-short.result short pass.seen c.tell.new.self.seen c.self.invariant.2.number c.release_short-short.ensures c.tell.ensures.seen)
