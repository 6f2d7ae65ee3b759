use Rattle.std.proofs.Common.{ap, sym, subst, ◌∙◌}
use Rattle.key_shard.specs.Shards.{ShardView}
use Rattle.log_word.specs.Passes.{PassView}
use Rattle.log_word.specs.Steps.{IsBeginning}
use Rattle.bound_hub.specs.Writes.{MayPut}
use Rattle.bound_hub.specs.Writes.{MayPut}
use Rattle.bound_hub.proofs.FreshLemmas.{begins_on}
use Rattle.bound_hub.proofs.ReleaseLemmas.{put_goes_on}
use Rattle.bound_hub.proofs.bound_shards.BoundShard.replace.Goals as goal

pub make_replace-result-requires-clause-honest : goal.make_replace-result-requires-clause-honest
make_replace-result-requires-clause-honest g c =
    let here = c.join.new.self in
    let theirs = subst (λ (p : PassView). IsBeginning p.seen here.seen) c.note.ensures.note c.join.ensures.theirs in
    subst (λ (v : ShardView). MayPut g.H.HubName.opening (g.H.BoundName.before v.terms.no) g.H.BoundName.word.shards v.terms.no c.args.grant.key c.args.grant.sid.number c.args.grant.token c.args.value c.args.stamp here.seen) (sym c.join.ensures.shard)
    (put_goes_on g.H.HubName.opening (g.H.BoundName.before c.args.self.now.shard.terms.no) g.H.BoundName.word.shards c.args.self.now.shard.terms.no c.args.grant.key c.args.grant.sid.number
    c.args.grant.token c.args.value c.args.stamp c.args.pass.now.seen here.seen theirs c.requires.honest)

pub returns-clause-seen : goal.returns-clause-seen
returns-clause-seen g c =
    let here = c.join.new.self in
    let made = c.make_replace-result in
    begins_on c.args.pass.now.seen here.seen made.new.self.seen c.into_pass.result.seen (subst (λ (p : PassView). IsBeginning p.seen here.seen) c.note.ensures.note c.join.ensures.theirs)
    made.ensures.goes_on (ap (λ (p : PassView). p.seen) c.into_pass.ensures ∙ made.ensures.note.1)

pub returns-clause-here : goal.returns-clause-here
returns-clause-here g c =
    let here = c.join.new.self in
    let made = c.make_replace-result in
    begins_on c.args.self.now.seen here.seen made.new.self.seen c.into_pass.result.seen c.join.ensures.mine made.ensures.goes_on
    (ap (λ (p : PassView). p.seen) c.into_pass.ensures ∙ made.ensures.note.1)
