use Rattle.std.proofs.Common.{ap, sym, subst, ◌∙◌}
use Rattle.key_shard.specs.Shards.{ShardView}
use Rattle.log_word.specs.Passes.{PassView}
use Rattle.log_word.specs.Steps.{IsBeginning}
use Rattle.bound_hub.specs.Asked.{MaySet}
use Rattle.bound_hub.proofs.FreshLemmas.{begins_on}
use Rattle.bound_hub.proofs.SetLemmas.{asked_goes_on}
use Rattle.bound_hub.proofs.bound_shards.BoundShard.set.Goals as goal

pub make_set-result-requires-clause-asked : goal.make_set-result-requires-clause-asked
make_set-result-requires-clause-asked g c =
    let a = c.args in
    let here = c.join.new.self in
    let theirs = subst (λ (p : PassView). IsBeginning p.seen here.seen) c.note.ensures.note c.join.ensures.theirs in
    subst (λ (v : ShardView). MaySet g.H.HubName.opening g.H.BoundName.word.shards v.terms.no a.key a.token a.value a.stamp here.seen) (sym c.join.ensures.shard)
    (asked_goes_on g.H.HubName.opening g.H.BoundName.word.shards a.self.now.shard.terms.no a.key a.token a.value a.stamp a.pass.now.seen here.seen theirs c.requires.asked)

pub returns-clause-seen : goal.returns-clause-seen
returns-clause-seen g c =
    let here = c.join.new.self in
    let made = c.make_set-result in
    begins_on c.args.pass.now.seen here.seen made.new.self.seen c.into_pass.result.seen (subst (λ (p : PassView). IsBeginning p.seen here.seen) c.note.ensures.note c.join.ensures.theirs)
    made.ensures.goes_on (ap (λ (p : PassView). p.seen) c.into_pass.ensures ∙ made.ensures.note.1)

pub returns-clause-here : goal.returns-clause-here
returns-clause-here g c =
    let here = c.join.new.self in
    let made = c.make_set-result in
    begins_on c.args.self.now.seen here.seen made.new.self.seen c.into_pass.result.seen c.join.ensures.mine made.ensures.goes_on
    (ap (λ (p : PassView). p.seen) c.into_pass.ensures ∙ made.ensures.note.1)
