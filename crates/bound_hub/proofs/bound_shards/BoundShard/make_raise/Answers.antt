use Rattle.std.proofs.Common.{◌≡◌, true, is_some, sym, ap, subst, ◌∙◌}
use Rattle.std.proofs.lemmas.Bool.{false≢true}
use Rattle.key_shard.specs.Answers.{raise_step}
use Rattle.key_shard.specs.Past.{Terms, entry}
use Rattle.key_shard.specs.Shards.{past_of, is_out}
use Rattle.log_word.specs.Steps.{IsBeginning}
use Rattle.bound_hub.specs.Gets.{IsLastStep}
use Rattle.bound_hub.specs.Olds.{IsOldHeld, IsRaiseHeld}
use Rattle.bound_hub.specs.Ties.{BoundShardView}
use Rattle.bound_hub.specs.StepShorts.{raise_short}
use Rattle.bound_hub.proofs.GetLemmas.{has_mapped}
use Rattle.bound_hub.proofs.QuarantineLemmas.{found_is_seen}
use Rattle.bound_hub.proofs.RaiseTies.{raise_is_honest, raise_leaves, raise_tells, raise_is_held, has_raised}
use Rattle.bound_hub.proofs.StepTies.{told_so, invariant_after, invariant_still, home_of_made, step_is_more, step_is_last}
use Rattle.bound_hub.proofs.bound_shards.BoundShard.make_raise.Goals as goal

pub invariant_of-self-then-not-out : goal.invariant_of-self-then-not-out
invariant_of-self-then-not-out g c =
    let shard = c.self.inside.shard in
    let a = c.args in
    let new = c.raise.new.self in
    let made = c.in-Ok.ensures in
    let out = sym c.is_out-out.ensures ∙ c.if-not-out.true in
    invariant_still g.H.HubName.terms c.self.inside.token.parts c.self.inside.token.amount g.H.BoundName.word g.H.HubName.opening g.H.BoundName.before
    shard new c.self.inside.pass c.note-then-not-out.new.self (made.unknown out).0 c.note-then-not-out.ensures.same c.self.invariant

pub returns-then-not-out-clause-last : goal.returns-then-not-out-clause-last
returns-then-not-out-clause-last g c = λ is.
    let shard = c.self.inside.shard in
    let a = c.args in
    let new = c.raise.new.self in
    let made = c.in-Ok.ensures in
    let out = sym c.is_out-out.ensures ∙ c.if-not-out.true in
    absurd (false≢true (sym out ∙ subst (λ (v : BoundShardView). is_out v.shard a.grant ≡ true) (sym c.self.view_is) is))

pub returns-then-not-out-clause-old : goal.returns-then-not-out-clause-old
returns-then-not-out-clause-old g c = λ is.
    let shard = c.self.inside.shard in
    let a = c.args in
    let new = c.raise.new.self in
    let made = c.in-Ok.ensures in
    let out = sym c.is_out-out.ensures ∙ c.if-not-out.true in
    absurd (false≢true (sym out ∙ subst (λ (v : BoundShardView). is_out v.shard a.grant ≡ true) (sym c.self.view_is) is))

pub invariant_of-self-2 : goal.invariant_of-self-2
invariant_of-self-2 g c =
    let shard = c.self.inside.shard in
    let pass = c.self.inside.pass in
    let a = c.args in
    let before = g.H.BoundName.before in
    let new = c.raise.new.self in
    let made = c.in-Ok.ensures in
    let has = c.is_some-has.result in
    let step = raise_step (past_of shard) a.grant in
    let out = sym c.is_out-out.ensures ∙ c.if-not-out.false in
    let short = c.raise_short-short.ensures ∙ (λ i. raise_short (c.key-key.ensures i) (c.sid-sid.ensures i) (c.token-token.ensures i) c.in-Ok.answer has) in
    let has_is = has_mapped _ c.peek.result (entry a.grant.key (past_of new)) has c.is_some-has.ensures (c.peek.ensures ∙ ap (λ k. entry k (past_of new)) c.key-key.ensures) in
    let tells = raise_tells (past_of shard) a.grant c.in-Ok.answer has (made.shows out) in
    invariant_after g.H.HubName.terms c.self.inside.token.parts c.self.inside.token.amount g.H.BoundName.word g.H.HubName.opening before shard pass c.self.invariant c.sound.ensures step
    (raise_is_honest (past_of shard) a.grant g.H.HubName.opening (before shard.terms.no) c.self.invariant.2.more pass.seen) new (has_raised (past_of shard) a.grant shard new (made.out out))
    c.raise_short-short.result c.tell.new.self
    (told_so step c.raise_short-short.result has a.grant.key new pass c.tell.new.self (short ∙ tells.0) tells.1 has_is c.tell.ensures.word c.tell.ensures.shard c.tell.ensures.seen)

pub returns-clause-goes_on : goal.returns-clause-goes_on
returns-clause-goes_on g c =
    subst (λ (v : BoundShardView). IsBeginning v.seen c.tell.new.self.seen) c.self.view_is
    (step_is_more c.self.inside.pass.shard c.raise_short-short.result c.self.inside.pass.seen c.tell.new.self.seen c.tell.ensures.seen)

pub returns-clause-last : goal.returns-clause-last
returns-clause-last g c = λ out.
    let pass = c.self.inside.pass in
    let a = c.args in
    let new = c.raise.new.self in
    let has_is = has_mapped _ c.peek.result (entry a.grant.key (past_of new)) c.is_some-has.result c.is_some-has.ensures (c.peek.ensures ∙ ap (λ k. entry k (past_of new)) c.key-key.ensures) in
    let short = raise_short a.grant.key a.grant.sid a.grant.token c.in-Ok.answer (is_some (entry a.grant.key (past_of new))) in
    subst (λ (v : BoundShardView). IsLastStep v.shard.terms.no short c.tell.new.self.seen) c.self.view_is
    (step_is_last pass.shard c.self.inside.shard.terms.no c.raise_short-short.result short pass.seen c.tell.new.self.seen c.self.invariant.2.number
    (c.raise_short-short.ensures ∙ (λ i. raise_short (c.key-key.ensures i) (c.sid-sid.ensures i) (c.token-token.ensures i) c.in-Ok.answer (has_is i))) c.tell.ensures.seen)

pub returns-clause-old : goal.returns-clause-old
returns-clause-old g c = λ is.
    let shard = c.self.inside.shard in
    let a = c.args in
    let opening = g.H.HubName.opening in
    let before = g.H.BoundName.before in
    let new = c.raise.new.self in
    let ensured = c.in-Ok.ensures in
    let now = invariant_of-self-2 g c in
    let out = subst (λ (v : BoundShardView). is_out v.shard a.grant ≡ true) (sym c.self.view_is) is in
    let step = raise_step (past_of shard) a.grant in
    let made = has_raised (past_of shard) a.grant shard new (ensured.out out) in
    let same_no : new.terms.no ≡ shard.terms.no = ap (λ (t : Terms). t.no) made.terms in
    let home = home_of_made g.H.BoundName.word opening before shard new c.self.inside.pass c.self.invariant.2 step made c.legal-2.ensures a.grant.key
    (raise_tells (past_of shard) a.grant c.in-Ok.answer c.is_some-has.result (ensured.shows out)).1 in
    let held = found_is_seen g.H.BoundName.word opening before new c.tell.new.self now.2 a.grant.key (home ∙ sym same_no) (entry a.grant.key (past_of shard))
    (ap (entry a.grant.key) made.past ∙ raise_leaves (past_of shard) a.grant) in
    subst (λ (v : BoundShardView). IsRaiseHeld opening (before v.shard.terms.no) v.shard.terms.no c.tell.new.self.seen a.grant.key c.in-Ok.answer) c.self.view_is
    (raise_is_held (past_of shard) a.grant opening (before shard.terms.no) shard.terms.no c.tell.new.self.seen c.in-Ok.answer
    (subst (λ n. IsOldHeld opening (before n) n c.tell.new.self.seen a.grant.key (entry a.grant.key (past_of shard))) same_no held) (ensured.shows out))
