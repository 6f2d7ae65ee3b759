use Rattle.std.proofs.Common.{ap, sym, subst, ◌∙◌}
use Rattle.key_shard.specs.Shards.{ShardView}
use Rattle.log_word.specs.Passes.{PassView}
use Rattle.log_word.specs.Steps.{IsBeginning}
use Rattle.bound_hub.specs.Releases.{MayRelease}
use Rattle.bound_hub.specs.Releases.{MayRelease}
use Rattle.bound_hub.proofs.FreshLemmas.{begins_on}
use Rattle.bound_hub.proofs.ReleaseLemmas.{may_goes_on}
use Rattle.bound_hub.proofs.bound_shards.BoundShard.release.Goals as goal

pub make_release-answer-requires-clause-honest : goal.make_release-answer-requires-clause-honest
make_release-answer-requires-clause-honest g c =
    let here = c.join.new.self in
    let theirs = subst (λ (p : PassView). IsBeginning p.seen here.seen) c.note.ensures.note c.join.ensures.theirs in
    subst (λ (v : ShardView). MayRelease g.H.HubName.opening g.H.BoundName.word.shards v.terms.no c.args.grant c.args.how here.seen) (sym c.join.ensures.shard)
    (may_goes_on g.H.HubName.opening g.H.BoundName.word.shards c.args.self.now.shard.terms.no c.args.grant c.args.how c.args.pass.now.seen here.seen theirs c.requires.honest)

pub returns-clause-seen : goal.returns-clause-seen
returns-clause-seen g c =
    let here = c.join.new.self in
    let made = c.make_release-answer in
    begins_on c.args.pass.now.seen here.seen made.new.self.seen c.into_pass.result.seen (subst (λ (p : PassView). IsBeginning p.seen here.seen) c.note.ensures.note c.join.ensures.theirs)
    made.ensures.goes_on (ap (λ (p : PassView). p.seen) c.into_pass.ensures ∙ made.ensures.note.1)

pub returns-clause-here : goal.returns-clause-here
returns-clause-here g c =
    let here = c.join.new.self in
    let made = c.make_release-answer in
    begins_on c.args.self.now.seen here.seen made.new.self.seen c.into_pass.result.seen c.join.ensures.mine made.ensures.goes_on
    (ap (λ (p : PassView). p.seen) c.into_pass.ensures ∙ made.ensures.note.1)
