use Rattle.std.proofs.Common.{ℕ, ◌≡◌, All, length, sym, subst, ◌∙◌, arith}
use Rattle.sql_keeper.specs.Stores.{StoreView}
use Rattle.shard_lock.specs.Names.{HaveCount}
use Rattle.bound_hub.specs.Parts.{IsGathered, IsLeft}
use Rattle.shard_lock.proofs.PlaceLemmas.{are_all}
use Rattle.bound_hub.proofs.TrueLogLemmas.{true_log_of}
use Rattle.bound_hub.proofs.hubs.BoundHub.into_parts.Goals as goal

pub returns-clause-all : goal.returns-clause-all
returns-clause-all g c =
    let shards = c.unlocked-shards.result.items in
    let many : length shards ≡ c.self.inside.count = c.unlocked-shards.ensures.as_many ∙ c.self.invariant.1 in
    let have = subst (λ (n : ℕ). HaveCount g.H.HubName.terms n) (sym many) c.self.invariant.5 in
    are_all g.H.HubName.terms shards (omega (arith, many, c.self.invariant.0)) have c.unlocked-shards.ensures.named c.unlocked-shards.ensures.placed

pub returns-clause-kept : goal.returns-clause-kept
returns-clause-kept g c =
    let there = c.gather.new.store in
    let tied = c.tied.ensures.tied in
    let same = c.into_store.ensures.same ∙ c.unlocked-shards.ensures.store in (
      there.seen,
      subst (λ (s : StoreView). IsGathered g.H.BoundName.word.shards g.H.BoundName.failed s c.args.passes.items there.seen) (sym same)
          (record { begun = c.gather.ensures.begun; sound = c.tied.ensures.sound; log = tied.log; failures = tied.failures; stopped = tied.stopped }),
      subst (λ (s : StoreView). All (IsLeft g.H.HubName.opening g.H.BoundName.before s there.seen) c.unlocked-shards.result.items) (sym same) c.unlocked-shards.ensures.left,
    )

pub returns-clause-true_log : goal.returns-clause-true_log
returns-clause-true_log g c = λ some.
    let there = c.gather.new.store in
    true_log_of g.H.HubName.opening there.seen there.store c.into_store.result _ _ _ c.tied.ensures.tied c.tied.ensures.true_so_far
    (c.into_store.ensures.same ∙ c.unlocked-shards.ensures.store) some
