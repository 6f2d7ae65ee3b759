use Rattle.std.proofs.Common.{◌≡◌, is_some, sym, ap, subst, ◌∙◌}
use Rattle.rows_model.specs.Placement.{shard_of}
use Rattle.key_shard.specs.Answers.{set_step}
use Rattle.key_shard.specs.Past.{entry}
use Rattle.key_shard.specs.Shards.{past_of}
use Rattle.log_word.specs.Steps.{IsBeginning, IsBorneOut}
use Rattle.bound_hub.specs.Asked.{MaySet}
use Rattle.bound_hub.specs.Gets.{IsLastStep}
use Rattle.bound_hub.specs.Ties.{BoundShardView}
use Rattle.bound_hub.specs.StepShorts.{set_short}
use Rattle.bound_hub.proofs.GetLemmas.{not_refused_at_home, has_mapped}
use Rattle.bound_hub.proofs.SetLemmas.{set_is_honest, set_tells, set_borne_out}
use Rattle.bound_hub.proofs.StepTies.{has_stepped, told_so, invariant_after, step_is_more, step_is_last}
use Rattle.bound_hub.proofs.bound_shards.BoundShard.make_set.Goals as goal

pub tell-requires-clause-borne_out : goal.tell-requires-clause-borne_out
tell-requires-clause-borne_out g c =
    let shard = c.self.inside.shard in
    let pass = c.self.inside.pass in
    let a = c.args in
    let bound = c.self.invariant.2 in
    let made = c.in-Ok.ensures in
    let step = set_step shard.terms (past_of shard) a.key a.token a.value a.stamp a.now in
    let home = subst (λ n. shard_of a.key n ≡ shard.terms.no) bound.count (not_refused_at_home shard a.key step c.in-Ok.answer made.refusal) in
    let may = subst (λ (v : BoundShardView). MaySet g.H.HubName.opening g.H.BoundName.word.shards v.shard.terms.no a.key a.token a.value a.stamp v.seen) (sym c.self.view_is) c.requires.asked in
    subst (IsBorneOut pass.seen.events) (sym c.set_short-short.ensures)
    (set_borne_out g.H.BoundName.word g.H.HubName.opening g.H.BoundName.before shard pass bound c.legal.ensures c.sound.ensures a.key a.token a.value a.stamp a.now home may
    c.in-Ok.answer c.is_some-has.result made.shows)

pub invariant_of-self : goal.invariant_of-self
invariant_of-self g c =
    let shard = c.self.inside.shard in
    let pass = c.self.inside.pass in
    let a = c.args in
    let bound = c.self.invariant.2 in
    let made = c.in-Ok.ensures in
    let word = g.H.BoundName.word in
    let opening = g.H.HubName.opening in
    let before = g.H.BoundName.before in
    let legal = c.legal.ensures in
    let sound = c.sound.ensures in
    let step = set_step shard.terms (past_of shard) a.key a.token a.value a.stamp a.now in
    let home = subst (λ n. shard_of a.key n ≡ shard.terms.no) bound.count (not_refused_at_home shard a.key step c.in-Ok.answer made.refusal) in
    let may = subst (λ (v : BoundShardView). MaySet opening word.shards v.shard.terms.no a.key a.token a.value a.stamp v.seen) (sym c.self.view_is) c.requires.asked in
    let has = has_mapped _ c.peek.result (entry a.key (past_of c.set.new.self)) c.is_some-has.result c.is_some-has.ensures c.peek.ensures in
    let tells = set_tells word opening before shard pass bound legal sound a.key a.token a.value a.stamp a.now home may c.in-Ok.answer c.is_some-has.result made.shows in
    let short = c.set_short-short.ensures in
    invariant_after g.H.HubName.terms c.self.inside.token.parts c.self.inside.token.amount word opening before shard pass c.self.invariant sound step
    (set_is_honest word opening before shard pass bound legal sound a.key a.token a.value a.stamp a.now home may) c.set.new.self (has_stepped shard c.set.new.self step made.step)
    c.set_short-short.result c.tell.new.self
    (told_so step c.set_short-short.result c.is_some-has.result a.key c.set.new.self pass c.tell.new.self (short ∙ tells.0) tells.1 has c.tell.ensures.word c.tell.ensures.shard c.tell.ensures.seen)

pub returns-in-Ok-clause-goes_on : goal.returns-in-Ok-clause-goes_on
returns-in-Ok-clause-goes_on g c =
    subst (λ (v : BoundShardView). IsBeginning v.seen c.tell.new.self.seen) c.self.view_is
    (step_is_more c.self.inside.pass.shard c.set_short-short.result c.self.inside.pass.seen c.tell.new.self.seen c.tell.ensures.seen)

pub returns-in-Ok-clause-last : goal.returns-in-Ok-clause-last
returns-in-Ok-clause-last g c =
    let pass = c.self.inside.pass in
    let a = c.args in
    let has = has_mapped _ c.peek.result (entry a.key (past_of c.set.new.self)) c.is_some-has.result c.is_some-has.ensures c.peek.ensures in
    let short = set_short a.key a.token a.stamp c.in-Ok.answer (is_some (entry a.key (past_of c.set.new.self))) in
    subst (λ (v : BoundShardView). IsLastStep v.shard.terms.no short c.tell.new.self.seen) c.self.view_is
    (step_is_last pass.shard c.self.inside.shard.terms.no c.set_short-short.result short pass.seen c.tell.new.self.seen c.self.invariant.2.number
    (c.set_short-short.ensures ∙ ap (set_short a.key a.token a.stamp c.in-Ok.answer) has) c.tell.ensures.seen)
