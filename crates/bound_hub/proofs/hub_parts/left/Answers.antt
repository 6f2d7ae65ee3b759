use Rattle.std.proofs.Common.{sym, ap, subst}
use Rattle.key_shard.specs.Shards.{ShardView}
use Rattle.log_word.specs.Steps.{IsBeginning}
use Rattle.log_word.specs.Passes.{IsTogether}
use Rattle.log_word.proofs.ViewLemmas.{beginning_trans}
use Rattle.sql_keeper.specs.Stores.{StoreView}
use Rattle.bound_hub.specs.Ties.{BoundShardView}
use Rattle.bound_hub.specs.Parts.{IsLeft}
use Rattle.bound_hub.proofs.PartLemmas.{same_events, same_stop, is_left}
use Rattle.bound_hub.proofs.hub_parts.left.Goals as goal

pub returns-clause-left : goal.returns-clause-left
returns-clause-left g c =
    let shard = c.into_parts.ensures in
    let mine = c.join-2.new.self in
    let there = c.join.new.self in
    let first = c.args.store.now.seen in
    let begins : IsBeginning c.args.bound.seen there.seen = subst (λ s. IsBeginning s there.seen) c.note.ensures.seen c.join.ensures.theirs in
    let same : IsBeginning there.seen mine.seen = subst (λ s. IsBeginning s mine.seen) c.note-2.ensures.seen c.join-2.ensures.theirs in
    let together : IsTogether c.args.bound.seen there.seen mine.seen =
    subst (λ s. IsTogether s there.seen mine.seen) (ap (λ (v : BoundShardView). v.seen) c.note.ensures.same)
    (subst (λ s. IsTogether c.note.new.self.seen s mine.seen) c.note-2.ensures.seen c.join-2.ensures.together) in
    let early = beginning_trans first there.seen mine.seen c.join.ensures.mine same in
    subst (λ (s : StoreView). IsLeft g.H.HubName.opening g.H.BoundName.before s first c.into_parts.result.0) c.join.ensures.store
    (subst (λ (v : ShardView). IsLeft g.H.HubName.opening g.H.BoundName.before there.store first v) (sym shard.same)
    (is_left g.H.BoundName.word g.H.HubName.opening g.H.BoundName.before g.H.BoundName.begun g.H.BoundName.failed mine.shard there.store mine.seen there.seen
    shard.bound shard.sound c.tied.ensures.tied (same_events c.args.bound.seen there.seen mine.seen begins together) (same_stop c.args.bound.seen there.seen mine.seen begins together)
    first (early.steps mine.shard.terms.no)))
