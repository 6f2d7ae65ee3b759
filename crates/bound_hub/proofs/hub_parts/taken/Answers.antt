use Rattle.std.proofs.Common.{ℕ, ◌^◌, ◌∙◌, List, [], ◌∷◌, All, sum_by, sym, ap, subst, arith}
use Rattle.std.proofs.lemmas.List.Elements.{All-append, All-cons, All-nil}
use Rattle.std.proofs.lemmas.List.Sums.{sum_by_push}
use Rattle.key_shard.specs.Answers.{Legal}
use Rattle.key_shard.specs.Shards.{ShardView}
use Rattle.sql_keeper.specs.Stores.{StoreView}
use Rattle.shard_lock.specs.Names.{IsNamed}
use Rattle.log_word.proofs.ViewLemmas.{beginning_trans}
use Rattle.bound_hub.specs.Parts.{IsLeft}
use Rattle.bound_hub.proofs.PartLemmas.{left_early}
use Rattle.bound_hub.proofs.hub_parts.taken.Goals as goal

pub loop-lock-preserved : goal.loop-lock-preserved
loop-lock-preserved g c =
    let new = c.left-shard-in-Some-pop.result.0 in
    let made = c.left-shard-in-Some-pop.ensures in
    let before = c.loop-lock.invariant in
    let items = c.push_reserved-in-Some-pop.ensures.items in
    let Named : ShardView → Type 0 = IsNamed g.H.HubName.terms in
    let Right : ShardView → Type 0 = λ shard. Legal shard.terms shard.history in
    let first = c.args.store.now.seen in
    let Left : StoreView → ShardView → Type 0 = λ s. IsLeft g.H.HubName.opening g.H.BoundName.before s first in
    let power : ShardView → ℕ = λ shard. 2 ^ shard.terms.no in
    let more : (P : ShardView → Type 0) → All P c.loop-lock.shards.items → P new → All P c.push_reserved-in-Some-pop.new.self.items = λ P all here.
    subst (All P) (sym {A = List ShardView} items) (All-append P c.loop-lock.shards.items (new ∷ []) all (All-cons P new [] here (All-nil P))) in
    let sum = ap (λ (l : List ShardView). sum_by power l) items ∙ sum_by_push power c.loop-lock.shards.items new in
    record {
      named = more Named before.named made.named;
      legal = more Right before.legal made.legal;
      left =
          more (Left c.args.store.now.store) before.left
          (subst (λ s. Left s new) before.store
          (left_early g.H.HubName.opening g.H.BoundName.before c.loop-lock.store.store new first c.loop-lock.store.seen before.seen made.left));
      seen = beginning_trans first c.loop-lock.store.seen c.left-shard-in-Some-pop.new.store.seen before.seen made.goes_on;
      store = made.store ∙ before.store;
      all = grind (arith, before.all, c.push_reserved-in-Some-pop.ensures.len, c.in-Some-pop.ensures.cases);
      room = grind (arith, before.room, c.push_reserved-in-Some-pop.ensures.capacity);
      parts = grind (arith, before.parts, c.push_reserved-in-Some-pop.ensures.len, c.merge.ensures.parts, made.token.one_part);
      amount = grind (arith, before.amount, c.merge.ensures.amount, made.token.amount_is, sum);
    }
