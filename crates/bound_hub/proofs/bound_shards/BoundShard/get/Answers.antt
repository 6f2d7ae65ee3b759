use Rattle.std.proofs.Common.{is_some, sym, ap, subst, ◌∙◌}
use Rattle.key_shard.specs.Past.{entry}
use Rattle.key_shard.specs.Shards.{ShardView, past_of}
use Rattle.log_word.specs.declared.seen.Seen.{Seen}
use Rattle.log_word.specs.Steps.{IsBeginning}
use Rattle.log_word.specs.Passes.{PassView}
use Rattle.bound_hub.specs.Gets.{got_short, IsGotFresh, IsGotHeld, IsLastStep}
use Rattle.bound_hub.proofs.FreshLemmas.{held_is_fresh, begins_with_step, last_with_step}
use Rattle.bound_hub.proofs.bound_shards.BoundShard.get.Goals as goal

pub returns-clause-seen : goal.returns-clause-seen
returns-clause-seen g c =
    let made = c.in_ok-got.ensures in
    let here = c.join.new.self in
    let now = c.into_pass.result.seen in
    let step = got_short c.args.key c.args.who c.in_ok-got.got (is_some (entry c.args.key (past_of c.make_get.new.self.shard))) in
    let is = ap (λ (p : PassView). p.seen) c.into_pass.ensures ∙ made.note.1 ∙ made.seen in
    begins_with_step here.shard.terms.no step c.args.pass.now.seen here.seen now (subst (λ (p : PassView). IsBeginning p.seen here.seen) c.note.ensures.note c.join.ensures.theirs) is

pub returns-clause-last : goal.returns-clause-last
returns-clause-last g c =
    let made = c.in_ok-got.ensures in
    let here = c.join.new.self in
    let now = c.into_pass.result.seen in
    let step = got_short c.args.key c.args.who c.in_ok-got.got (is_some (entry c.args.key (past_of c.make_get.new.self.shard))) in
    let is = ap (λ (p : PassView). p.seen) c.into_pass.ensures ∙ made.note.1 ∙ made.seen in
    subst (λ (v : ShardView). IsLastStep v.terms.no step now) c.join.ensures.shard (last_with_step here.shard.terms.no step here.seen now is)

pub returns-clause-held : goal.returns-clause-held
returns-clause-held g c =
    let made = c.in_ok-got.ensures in
    let here = c.join.new.self in
    let now = c.into_pass.result.seen in
    let before = g.H.BoundName.before in
    let answer = c.in_ok-got.got in
    let same = ap (λ (p : PassView). p.seen) c.into_pass.ensures ∙ made.note.1 in
    subst (λ (v : ShardView). IsGotHeld g.H.HubName.opening (before v.terms.no) v.terms.no now c.args.key answer) c.join.ensures.shard
    (subst (λ (v : Seen). IsGotHeld g.H.HubName.opening (before here.shard.terms.no) here.shard.terms.no v c.args.key answer) (sym same) made.held)

pub returns-clause-fresh : goal.returns-clause-fresh
returns-clause-fresh g c =
    let made = c.in_ok-got.ensures in
    let here = c.join.new.self in
    let now = c.into_pass.result.seen in
    let before = g.H.BoundName.before in
    let answer = c.in_ok-got.got in
    let same = ap (λ (p : PassView). p.seen) c.into_pass.ensures ∙ made.note.1 in
    let held = subst (λ (v : Seen). IsGotHeld g.H.HubName.opening (before here.shard.terms.no) here.shard.terms.no v c.args.key answer) (sym same) made.held in
    subst (λ (v : ShardView). IsGotFresh g.H.HubName.opening (before v.terms.no) v.terms.no now c.args.key answer) c.join.ensures.shard
    (held_is_fresh g.H.HubName.opening (before here.shard.terms.no) here.shard.terms.no now c.args.key answer held)
