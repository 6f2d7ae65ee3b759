use Rattle.std.proofs.Common.{is_some, sym, ap, subst, ◌∙◌}
use Rattle.key_shard.specs.Answers.{renew_step}
use Rattle.key_shard.specs.Past.{entry}
use Rattle.key_shard.specs.Shards.{past_of, is_out}
use Rattle.log_word.specs.Steps.{IsBeginning}
use Rattle.bound_hub.specs.Gets.{IsLastStep}
use Rattle.bound_hub.specs.Ties.{BoundShardView}
use Rattle.bound_hub.specs.StepShorts.{renew_short}
use Rattle.bound_hub.proofs.GetLemmas.{has_mapped}
use Rattle.bound_hub.proofs.RaiseTies.{renew_is_honest, renew_tells}
use Rattle.bound_hub.proofs.StepTies.{has_stepped, told_so, invariant_after, step_is_more, step_is_last}
use Rattle.bound_hub.proofs.bound_shards.BoundShard.make_renewal.Goals as goal

pub invariant_of-self-2 : goal.invariant_of-self-2
invariant_of-self-2 g c =
    let shard = c.self.inside.shard in
    let pass = c.self.inside.pass in
    let a = c.args in
    let grant = a.grant.now in
    let before = g.H.BoundName.before in
    let new = c.renew.new.self in
    let made = c.in-Ok.ensures in
    let has = c.is_some-has.result in
    let step = renew_step shard.terms (past_of shard) grant a.now in
    let out = sym c.is_out-out.ensures ∙ c.if-not-out.false in
    let short = c.renew_short-short.ensures ∙ (λ i. renew_short (c.key-key.ensures i) (c.sid.ensures i) (c.token.ensures i) c.in-Ok.answer has) in
    let has_is = has_mapped _ c.peek.result (entry grant.key (past_of new)) has c.is_some-has.ensures (c.peek.ensures ∙ ap (λ k. entry k (past_of new)) c.key-key.ensures) in
    let tells = renew_tells shard.terms (past_of shard) grant a.now c.in-Ok.answer has (made.shows out) in
    invariant_after g.H.HubName.terms c.self.inside.token.parts c.self.inside.token.amount g.H.BoundName.word g.H.HubName.opening before shard pass c.self.invariant c.sound.ensures step
    (renew_is_honest shard.terms (past_of shard) grant a.now g.H.HubName.opening (before shard.terms.no) c.self.invariant.2.more pass.seen) new (has_stepped shard new step (made.out out))
    c.renew_short-short.result c.tell.new.self
    (told_so step c.renew_short-short.result has grant.key new pass c.tell.new.self (short ∙ tells.0) tells.1 has_is c.tell.ensures.word c.tell.ensures.shard c.tell.ensures.seen)

pub returns-clause-goes_on : goal.returns-clause-goes_on
returns-clause-goes_on g c =
    subst (λ (v : BoundShardView). IsBeginning v.seen c.tell.new.self.seen) c.self.view_is
    (step_is_more c.self.inside.pass.shard c.renew_short-short.result c.self.inside.pass.seen c.tell.new.self.seen c.tell.ensures.seen)

pub returns-clause-last : goal.returns-clause-last
returns-clause-last g c = λ out.
    let pass = c.self.inside.pass in
    let grant = c.args.grant.now in
    let new = c.renew.new.self in
    let has_is = has_mapped _ c.peek.result (entry grant.key (past_of new)) c.is_some-has.result c.is_some-has.ensures (c.peek.ensures ∙ ap (λ k. entry k (past_of new)) c.key-key.ensures) in
    let short = renew_short grant.key grant.sid grant.token c.in-Ok.answer (is_some (entry grant.key (past_of new))) in
    subst (λ (v : BoundShardView). IsLastStep v.shard.terms.no short c.tell.new.self.seen) c.self.view_is
    (step_is_last pass.shard c.self.inside.shard.terms.no c.renew_short-short.result short pass.seen c.tell.new.self.seen c.self.invariant.2.number
    (c.renew_short-short.ensures ∙ (λ i. renew_short (c.key-key.ensures i) (c.sid.ensures i) (c.token.ensures i) c.in-Ok.answer (has_is i))) c.tell.ensures.seen)
