use Rattle.std.proofs.Common.{ap, sym, subst, ◌∙◌}
use Rattle.key_shard.specs.Shards.{ShardView}
use Rattle.log_word.specs.Passes.{PassView}
use Rattle.log_word.specs.Steps.{IsBeginning}
use Rattle.bound_hub.specs.Sweeps.{HasSeenGrant}
use Rattle.bound_hub.proofs.FreshLemmas.{begins_on}
use Rattle.bound_hub.proofs.SweepTies.{grant_goes_on}
use Rattle.bound_hub.proofs.bound_shards.BoundShard.sweep.Goals as goal

pub make_sweep-answer-requires-clause-granted : goal.make_sweep-answer-requires-clause-granted
make_sweep-answer-requires-clause-granted g c =
    let a = c.args in
    let here = c.join.new.self in
    let theirs = subst (λ (p : PassView). IsBeginning p.seen here.seen) c.note.ensures.note c.join.ensures.theirs in
    subst (λ (v : ShardView). HasSeenGrant v.terms.no a.key a.sid.number a.token here.seen) (sym c.join.ensures.shard)
    (grant_goes_on a.self.now.shard.terms.no a.key a.sid.number a.token a.pass.now.seen here.seen theirs c.requires.granted)

pub returns-clause-seen : goal.returns-clause-seen
returns-clause-seen g c =
    let here = c.join.new.self in
    let made = c.make_sweep-answer in
    begins_on c.args.pass.now.seen here.seen made.new.self.seen c.into_pass.result.seen (subst (λ (p : PassView). IsBeginning p.seen here.seen) c.note.ensures.note c.join.ensures.theirs)
    made.ensures.goes_on (ap (λ (p : PassView). p.seen) c.into_pass.ensures ∙ made.ensures.note.1)

pub returns-clause-here : goal.returns-clause-here
returns-clause-here g c =
    let here = c.join.new.self in
    let made = c.make_sweep-answer in
    begins_on c.args.self.now.seen here.seen made.new.self.seen c.into_pass.result.seen c.join.ensures.mine made.ensures.goes_on
    (ap (λ (p : PassView). p.seen) c.into_pass.ensures ∙ made.ensures.note.1)
