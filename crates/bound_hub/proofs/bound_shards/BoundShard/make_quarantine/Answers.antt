use Rattle.std.proofs.Common.{◌≡◌, true, Ok, w32, to_z, of_z, is_some, sym, ap, subst, ◌∙◌}
use Rattle.std.proofs.lemmas.Int.{to_z-of_z}
use Rattle.rows_model.specs.Placement.{shard_of}
use Rattle.key_shard.specs.Answers.{quarantine_step}
use Rattle.key_shard.specs.Past.{Terms, entry}
use Rattle.key_shard.specs.Replies.{ShowsQuarantine}
use Rattle.key_shard.specs.Shards.{past_of, stepped, refusal, Refuses}
use Rattle.log_word.specs.Events.{may_write}
use Rattle.log_word.specs.Steps.{IsBeginning, IsBorneOut}
use Rattle.bound_hub.specs.Gets.{IsLastStep}
use Rattle.bound_hub.specs.Olds.{IsGrantHeld, IsOldHeld}
use Rattle.bound_hub.specs.Ties.{BoundShardView}
use Rattle.bound_hub.specs.StepShorts.{quarantine_short}
use Rattle.bound_hub.proofs.GetLemmas.{not_refused_at_home, has_mapped}
use Rattle.bound_hub.proofs.QuarantineLemmas.{quarantine_is_honest, quarantine_tells, quarantine_borne_out, quarantine_leaves, grant_is_held, found_is_seen}
use Rattle.bound_hub.proofs.StepTies.{has_stepped, told_so, invariant_after, step_is_more, step_is_last}
use Rattle.bound_hub.proofs.bound_shards.BoundShard.make_quarantine.Goals as goal

pub tell-requires-clause-borne_out : goal.tell-requires-clause-borne_out
tell-requires-clause-borne_out g c =
    let shard = c.self.inside.shard in
    let pass = c.self.inside.pass in
    let a = c.args in
    let begun = subst (λ (v : BoundShardView). may_write a.who.number v.seen.events ≡ true) (sym c.self.view_is) c.requires.begun in
    subst (IsBorneOut pass.seen.events) (sym c.quarantine_short-short.ensures)
    (quarantine_borne_out shard.terms (past_of shard) a.key a.who a.mode (to_z w32 (of_z w32 a.shift)) a.now pass.seen.events c.in-Ok.answer c.is_some-has.result begun c.in-Ok.ensures.shows)

pub invariant_of-self : goal.invariant_of-self
invariant_of-self g c =
    let shard = c.self.inside.shard in
    let pass = c.self.inside.pass in
    let a = c.args in
    let made = c.in-Ok.ensures in
    let before = g.H.BoundName.before in
    let step = quarantine_step shard.terms (past_of shard) a.key a.who a.mode (to_z w32 (of_z w32 a.shift)) a.now in
    let has = has_mapped _ c.peek.result (entry a.key (past_of c.quarantine.new.self)) c.is_some-has.result c.is_some-has.ensures c.peek.ensures in
    let tells = quarantine_tells shard.terms (past_of shard) a.key a.who a.mode (to_z w32 (of_z w32 a.shift)) a.now c.in-Ok.answer c.is_some-has.result made.shows in
    let short = c.quarantine_short-short.ensures in
    invariant_after g.H.HubName.terms c.self.inside.token.parts c.self.inside.token.amount g.H.BoundName.word g.H.HubName.opening before shard pass c.self.invariant c.sound.ensures step
    (quarantine_is_honest shard.terms (past_of shard) a.key a.who a.mode (to_z w32 (of_z w32 a.shift)) a.now g.H.HubName.opening (before shard.terms.no) c.self.invariant.2.more pass.seen)
    c.quarantine.new.self (has_stepped shard c.quarantine.new.self step made.step) c.quarantine_short-short.result c.tell.new.self
    (told_so step c.quarantine_short-short.result c.is_some-has.result a.key c.quarantine.new.self pass c.tell.new.self (short ∙ tells.0) tells.1 has c.tell.ensures.word c.tell.ensures.shard c.tell.ensures.seen)

-- what the shard was told of the shift is the shift
pub returns-in-Ok-clause-refusal : goal.returns-in-Ok-clause-refusal
returns-in-Ok-clause-refusal g c =
    let a = c.args in
    subst (λ (v : BoundShardView). Refuses (refusal v.shard a.key (quarantine_step v.shard.terms (past_of v.shard) a.key a.who a.mode a.shift a.now)) (Ok c.in-Ok.answer)) c.self.view_is
    (subst (λ by. Refuses (refusal c.self.inside.shard a.key (quarantine_step c.self.inside.shard.terms (past_of c.self.inside.shard) a.key a.who a.mode by a.now)) (Ok c.in-Ok.answer))
    (to_z-of_z w32 a.shift c.ranges.shift) c.in-Ok.ensures.refusal)

pub returns-in-Ok-clause-step : goal.returns-in-Ok-clause-step
returns-in-Ok-clause-step g c =
    let a = c.args in
    subst (λ (v : BoundShardView). c.quarantine.new.self ≡ stepped v.shard (quarantine_step v.shard.terms (past_of v.shard) a.key a.who a.mode a.shift a.now)) c.self.view_is
    (subst (λ by. c.quarantine.new.self ≡ stepped c.self.inside.shard (quarantine_step c.self.inside.shard.terms (past_of c.self.inside.shard) a.key a.who a.mode by a.now))
    (to_z-of_z w32 a.shift c.ranges.shift) c.in-Ok.ensures.step)

pub returns-in-Ok-clause-shows : goal.returns-in-Ok-clause-shows
returns-in-Ok-clause-shows g c =
    let a = c.args in
    subst (λ (v : BoundShardView). ShowsQuarantine v.shard.terms (past_of v.shard) (quarantine_step v.shard.terms (past_of v.shard) a.key a.who a.mode a.shift a.now) c.in-Ok.answer) c.self.view_is
    (subst (λ by. ShowsQuarantine c.self.inside.shard.terms (past_of c.self.inside.shard)
    (quarantine_step c.self.inside.shard.terms (past_of c.self.inside.shard) a.key a.who a.mode by a.now) c.in-Ok.answer)
    (to_z-of_z w32 a.shift c.ranges.shift) c.in-Ok.ensures.shows)

pub returns-in-Ok-clause-goes_on : goal.returns-in-Ok-clause-goes_on
returns-in-Ok-clause-goes_on g c =
    subst (λ (v : BoundShardView). IsBeginning v.seen c.tell.new.self.seen) c.self.view_is
    (step_is_more c.self.inside.pass.shard c.quarantine_short-short.result c.self.inside.pass.seen c.tell.new.self.seen c.tell.ensures.seen)

pub returns-in-Ok-clause-last : goal.returns-in-Ok-clause-last
returns-in-Ok-clause-last g c =
    let pass = c.self.inside.pass in
    let a = c.args in
    let has = has_mapped _ c.peek.result (entry a.key (past_of c.quarantine.new.self)) c.is_some-has.result c.is_some-has.ensures c.peek.ensures in
    let short = quarantine_short a.key a.who a.mode a.shift c.in-Ok.answer (is_some (entry a.key (past_of c.quarantine.new.self))) in
    subst (λ (v : BoundShardView). IsLastStep v.shard.terms.no short c.tell.new.self.seen) c.self.view_is
    (step_is_last pass.shard c.self.inside.shard.terms.no c.quarantine_short-short.result short pass.seen c.tell.new.self.seen c.self.invariant.2.number
    (c.quarantine_short-short.ensures ∙ (λ i. quarantine_short a.key a.who a.mode (to_z-of_z w32 a.shift c.ranges.shift i) c.in-Ok.answer (has i))) c.tell.ensures.seen)

pub returns-in-Ok-clause-old : goal.returns-in-Ok-clause-old
returns-in-Ok-clause-old g c =
    let shard = c.self.inside.shard in
    let pass = c.self.inside.pass in
    let a = c.args in
    let ensured = c.in-Ok.ensures in
    let before = g.H.BoundName.before in
    let step = quarantine_step shard.terms (past_of shard) a.key a.who a.mode (to_z w32 (of_z w32 a.shift)) a.now in
    let home = subst (λ n. shard_of a.key n ≡ shard.terms.no) c.self.invariant.2.count (not_refused_at_home shard a.key step c.in-Ok.answer ensured.refusal) in
    let made = has_stepped shard c.quarantine.new.self step ensured.step in
    let same_no : c.quarantine.new.self.terms.no ≡ shard.terms.no = ap (λ (t : Terms). t.no) made.terms in
    let now = invariant_of-self g c in
    let held = found_is_seen g.H.BoundName.word g.H.HubName.opening before c.quarantine.new.self c.tell.new.self now.2 a.key (home ∙ sym same_no) (entry a.key (past_of shard))
    (ap (entry a.key) made.past ∙ quarantine_leaves shard.terms (past_of shard) a.key a.who a.mode (to_z w32 (of_z w32 a.shift)) a.now) in
    subst (λ (v : BoundShardView). IsGrantHeld g.H.HubName.opening (before v.shard.terms.no) v.shard.terms.no c.tell.new.self.seen a.key c.in-Ok.answer) c.self.view_is
    (grant_is_held shard.terms (past_of shard) a.key a.who a.mode (to_z w32 (of_z w32 a.shift)) a.now g.H.HubName.opening (before shard.terms.no) shard.terms.no c.tell.new.self.seen c.in-Ok.answer ensured.shows
    (subst (λ n. IsOldHeld g.H.HubName.opening (before n) n c.tell.new.self.seen a.key (entry a.key (past_of shard))) same_no held))
