use Rattle.std.proofs.Common.{◌≡◌, true, is_some, sym, ap, subst, ◌∙◌}
use Rattle.std.proofs.lemmas.Bool.{false≢true}
use Rattle.key_shard.specs.Answers.{replace_step}
use Rattle.key_shard.specs.Past.{entry}
use Rattle.key_shard.specs.Shards.{past_of, is_out}
use Rattle.log_word.specs.Steps.{IsBeginning, IsBorneOut}
use Rattle.bound_hub.specs.Gets.{IsLastStep}
use Rattle.bound_hub.specs.Ties.{BoundShardView}
use Rattle.bound_hub.specs.StepShorts.{replace_short}
use Rattle.bound_hub.specs.Writes.{MayPut}
use Rattle.bound_hub.proofs.GetLemmas.{has_mapped}
use Rattle.bound_hub.proofs.ReleaseLemmas.{replace_is_honest, replace_on, replace_tells, replace_borne_out}
use Rattle.bound_hub.proofs.StepTies.{has_returned, told_so, invariant_after, invariant_still, home_of_made, step_is_more, step_is_last}
use Rattle.bound_hub.proofs.bound_shards.BoundShard.make_replace.Goals as goal

pub invariant_of-self-then-not-out : goal.invariant_of-self-then-not-out
invariant_of-self-then-not-out g c =
    let shard = c.self.inside.shard in
    let a = c.args in
    let new = c.replace.new.self in
    let made = c.in-Ok.ensures in
    let out = sym c.is_out-out.ensures ∙ c.if-not-out.true in
    invariant_still g.H.HubName.terms c.self.inside.token.parts c.self.inside.token.amount g.H.BoundName.word g.H.HubName.opening g.H.BoundName.before
    shard new c.self.inside.pass c.note-then-not-out.new.self (made.unknown out).0 c.note-then-not-out.ensures.same c.self.invariant

pub returns-then-not-out-clause-last : goal.returns-then-not-out-clause-last
returns-then-not-out-clause-last g c = λ is.
    let shard = c.self.inside.shard in
    let a = c.args in
    let new = c.replace.new.self in
    let made = c.in-Ok.ensures in
    let out = sym c.is_out-out.ensures ∙ c.if-not-out.true in
    absurd (false≢true (sym out ∙ subst (λ (v : BoundShardView). is_out v.shard a.grant ≡ true) (sym c.self.view_is) is))

pub tell-requires-clause-borne_out : goal.tell-requires-clause-borne_out
tell-requires-clause-borne_out g c =
    let shard = c.self.inside.shard in
    let pass = c.self.inside.pass in
    let a = c.args in
    let new = c.replace.new.self in
    let made = c.in-Ok.ensures in
    let has = c.is_some-has.result in
    let out = sym c.is_out-out.ensures ∙ c.if-not-out.false in
    let may = subst (λ (v : BoundShardView). MayPut g.H.HubName.opening (g.H.BoundName.before v.shard.terms.no) g.H.BoundName.word.shards v.shard.terms.no a.grant.key a.grant.sid.number a.grant.token a.value a.stamp v.seen) (sym c.self.view_is) c.requires.honest in
    let short = c.replace_short-short.ensures ∙ (λ i. replace_short (c.key-key.ensures i) (c.sid-sid.ensures i) (c.token-token.ensures i) a.stamp c.in-Ok.answer has) in
    subst (IsBorneOut pass.seen.events) (sym short)
    (replace_borne_out g.H.BoundName.word g.H.HubName.opening g.H.BoundName.before shard pass c.self.invariant.2 c.legal.ensures c.sound.ensures a.grant out a.value a.stamp may
    c.in-Ok.answer has)

pub invariant_of-self-2 : goal.invariant_of-self-2
invariant_of-self-2 g c =
    let shard = c.self.inside.shard in
    let pass = c.self.inside.pass in
    let a = c.args in
    let word = g.H.BoundName.word in
    let opening = g.H.HubName.opening in
    let before = g.H.BoundName.before in
    let legal = c.legal.ensures in
    let new = c.replace.new.self in
    let ensured = c.in-Ok.ensures in
    let has = c.is_some-has.result in
    let step = replace_step shard.terms (past_of shard) a.grant a.value a.stamp in
    let out = sym c.is_out-out.ensures ∙ c.if-not-out.false in
    let may = subst (λ (v : BoundShardView). MayPut g.H.HubName.opening (g.H.BoundName.before v.shard.terms.no) g.H.BoundName.word.shards v.shard.terms.no a.grant.key a.grant.sid.number a.grant.token a.value a.stamp v.seen) (sym c.self.view_is) c.requires.honest in
    let short = c.replace_short-short.ensures ∙ (λ i. replace_short (c.key-key.ensures i) (c.sid-sid.ensures i) (c.token-token.ensures i) a.stamp c.in-Ok.answer has) in
    let has_is = has_mapped _ c.peek.result (entry a.grant.key (past_of new)) has c.is_some-has.ensures (c.peek.ensures ∙ ap (λ k. entry k (past_of new)) c.key-key.ensures) in
    let tells = replace_tells word opening before shard pass c.self.invariant.2 legal c.sound.ensures a.grant out a.value a.stamp c.in-Ok.answer has (ensured.shows out) in
    let made = has_returned shard new a.grant step (ensured.out out) in
    let on = replace_on word opening before shard pass c.self.invariant.2 legal c.sound.ensures a.grant out a.value a.stamp in
    let home = home_of_made word opening before shard new pass c.self.invariant.2 step made c.legal-2.ensures a.grant.key on in
    invariant_after g.H.HubName.terms c.self.inside.token.parts c.self.inside.token.amount word opening before shard pass c.self.invariant c.sound.ensures step
    (replace_is_honest word opening before shard pass c.self.invariant.2 legal c.sound.ensures a.grant out a.value a.stamp home may) new made
    c.replace_short-short.result c.tell.new.self
    (told_so step c.replace_short-short.result has a.grant.key new pass c.tell.new.self (short ∙ tells) on has_is c.tell.ensures.word c.tell.ensures.shard c.tell.ensures.seen)

pub returns-clause-goes_on : goal.returns-clause-goes_on
returns-clause-goes_on g c =
    subst (λ (v : BoundShardView). IsBeginning v.seen c.tell.new.self.seen) c.self.view_is
    (step_is_more c.self.inside.pass.shard c.replace_short-short.result c.self.inside.pass.seen c.tell.new.self.seen c.tell.ensures.seen)

pub returns-clause-last : goal.returns-clause-last
returns-clause-last g c = λ out.
    let pass = c.self.inside.pass in
    let a = c.args in
    let new = c.replace.new.self in
    let has_is = has_mapped _ c.peek.result (entry a.grant.key (past_of new)) c.is_some-has.result c.is_some-has.ensures (c.peek.ensures ∙ ap (λ k. entry k (past_of new)) c.key-key.ensures) in
    let short = replace_short a.grant.key a.grant.sid a.grant.token a.stamp c.in-Ok.answer (is_some (entry a.grant.key (past_of new))) in
    subst (λ (v : BoundShardView). IsLastStep v.shard.terms.no short c.tell.new.self.seen) c.self.view_is
    (step_is_last pass.shard c.self.inside.shard.terms.no c.replace_short-short.result short pass.seen c.tell.new.self.seen c.self.invariant.2.number
    (c.replace_short-short.ensures ∙ (λ i. replace_short (c.key-key.ensures i) (c.sid-sid.ensures i) (c.token-token.ensures i) a.stamp c.in-Ok.answer (has_is i))) c.tell.ensures.seen)
