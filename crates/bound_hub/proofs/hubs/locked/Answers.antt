use Rattle.std.proofs.Common.{ℕ, ◌≡◌, ◌+◌, ◌^◌, List, [], ◌∷◌, ◌++◌, length, ap, sym, subst, ◌∙◌, arith}
use Rattle.std.proofs.Math.Nat.{two-pow-succ}
use Rattle.shard_lock.specs.Names.{ArePlaced, IsNamed, IsTokenOf}
use Rattle.shard_lock.proofs.PlaceLemmas.{placed_before}
use Rattle.log_word.specs.Passes.{PassView, ShardPassView}
use Rattle.bound_hub.specs.Ties.{HasCount, IsNewShard}
use Rattle.bound_hub.proofs.PassLemmas.{as_many_passes, last_pass, all_but_last, one_fewer}
use Rattle.bound_hub.proofs.hubs.locked.Goals as goal

pub unreachable-requires : goal.unreachable-requires
unreachable-requires g c =
    let before = c.loop-shard.invariant in
    let all = c.loop-shard.shards.items in
    let left = c.pop.new.self.items in
    let last = c.in-Some.shard in
    let items : all ≡ left ++ last ∷ [] = c.in-Some.ensures.items in
    let many = one_fewer all left last items in
    let passes = ap (λ (l : List ShardPassView). length l) before.passes ∙ as_many_passes g.H.BoundName.word (length all) in
    grind (arith, many, passes, c.in_default-pop.ensures.cases, c.in_default-pop.ensures.variant, c.in_default-pop.ensures.len)

pub shard_noted-pass-requires-clause-word : goal.shard_noted-pass-requires-clause-word
shard_noted-pass-requires-clause-word g c =
    let before = c.loop-shard.invariant in
    let all = c.loop-shard.shards.items in
    let left = c.pop.new.self.items in
    let last = c.in-Some.shard in
    let items : all ≡ left ++ last ∷ [] = c.in-Some.ensures.items in
    let many = one_fewer all left last items in
    let taken = last_pass g.H.BoundName.word (length all) (length left) c.loop-shard.passes.items c.pop-in-Some.new.self.items c.in-Some-pop.pass before.passes many c.in-Some-pop.ensures.items in
    ap (λ (p : ShardPassView). p.word) taken.1 ∙ sym c.requires.word

pub shard_noted-pass-requires-clause-blind : goal.shard_noted-pass-requires-clause-blind
shard_noted-pass-requires-clause-blind g c =
    let before = c.loop-shard.invariant in
    let all = c.loop-shard.shards.items in
    let left = c.pop.new.self.items in
    let last = c.in-Some.shard in
    let items : all ≡ left ++ last ∷ [] = c.in-Some.ensures.items in
    let many = one_fewer all left last items in
    let taken = last_pass g.H.BoundName.word (length all) (length left) c.loop-shard.passes.items c.pop-in-Some.new.self.items c.in-Some-pop.pass before.passes many c.in-Some-pop.ensures.items in
    ap (λ (p : ShardPassView). p.seen) taken.1

pub new-requires-clause-named : goal.new-requires-clause-named
new-requires-clause-named g c =
    let before = c.loop-shard.invariant in
    let all = c.loop-shard.shards.items in
    let left = c.pop.new.self.items in
    let last = c.in-Some.shard in
    let items : all ≡ left ++ last ∷ [] = c.in-Some.ensures.items in
    let many = one_fewer all left last items in
    (all_but_last (IsNamed g.H.HubName.terms) all left last items before.named).1

pub new-requires-clause-count : goal.new-requires-clause-count
new-requires-clause-count g c =
    let before = c.loop-shard.invariant in
    let all = c.loop-shard.shards.items in
    let left = c.pop.new.self.items in
    let last = c.in-Some.shard in
    let items : all ≡ left ++ last ∷ [] = c.in-Some.ensures.items in
    let many = one_fewer all left last items in
    (all_but_last (HasCount g.H.BoundName.word.shards) all left last items before.counted).1

pub new-requires-clause-token : goal.new-requires-clause-token
new-requires-clause-token g c =
    let before = c.loop-shard.invariant in
    let all = c.loop-shard.shards.items in
    let left = c.pop.new.self.items in
    let last = c.in-Some.shard in
    let items : all ≡ left ++ last ∷ [] = c.in-Some.ensures.items in
    let many = one_fewer all left last items in
    let placed = placed_before left last (subst ArePlaced items before.placed) in
    let number : c.len.result ≡ length left = grind (arith, c.len.ensures) in
    subst (λ n. IsTokenOf n c.token_of-token.result.parts c.token_of-token.result.amount) (number ∙ sym placed.1) c.token_of-token.ensures.token

pub new-requires-clause-word : goal.new-requires-clause-word
new-requires-clause-word g c =
    let before = c.loop-shard.invariant in
    let all = c.loop-shard.shards.items in
    let left = c.pop.new.self.items in
    let last = c.in-Some.shard in
    let items : all ≡ left ++ last ∷ [] = c.in-Some.ensures.items in
    let many = one_fewer all left last items in
    let taken = last_pass g.H.BoundName.word (length all) (length left) c.loop-shard.passes.items c.pop-in-Some.new.self.items c.in-Some-pop.pass before.passes many c.in-Some-pop.ensures.items in
    c.shard_noted-pass.ensures.word ∙ ap (λ (p : ShardPassView). p.word) taken.1

pub new-requires-clause-number : goal.new-requires-clause-number
new-requires-clause-number g c =
    let before = c.loop-shard.invariant in
    let all = c.loop-shard.shards.items in
    let left = c.pop.new.self.items in
    let last = c.in-Some.shard in
    let items : all ≡ left ++ last ∷ [] = c.in-Some.ensures.items in
    let many = one_fewer all left last items in
    let taken = last_pass g.H.BoundName.word (length all) (length left) c.loop-shard.passes.items c.pop-in-Some.new.self.items c.in-Some-pop.pass before.passes many c.in-Some-pop.ensures.items in
    let placed = placed_before left last (subst ArePlaced items before.placed) in
    c.shard_noted-pass.ensures.shard ∙ ap (λ (p : ShardPassView). p.shard) taken.1 ∙ sym placed.1

pub new-requires-clause-new : goal.new-requires-clause-new
new-requires-clause-new g c =
    let before = c.loop-shard.invariant in
    let all = c.loop-shard.shards.items in
    let left = c.pop.new.self.items in
    let last = c.in-Some.shard in
    let items : all ≡ left ++ last ∷ [] = c.in-Some.ensures.items in
    let many = one_fewer all left last items in
    let stopped = c.shard_noted-pass.ensures.only.stopped_is ∙ ap (λ (p : PassView). p.seen.stopped) (c.note.ensures.note ∙ before.caller) in
    subst (λ b. IsNewShard g.H.HubName.opening g.H.BoundName.before b last) (sym stopped)
    (all_but_last (IsNewShard g.H.HubName.opening g.H.BoundName.before c.args.caller.now.seen.stopped) all left last items before.new).1

pub loop-shard-preserved : goal.loop-shard-preserved
loop-shard-preserved g c =
    let before = c.loop-shard.invariant in
    let all = c.loop-shard.shards.items in
    let left = c.pop.new.self.items in
    let last = c.in-Some.shard in
    let items : all ≡ left ++ last ∷ [] = c.in-Some.ensures.items in
    let many = one_fewer all left last items in
    let taken = last_pass g.H.BoundName.word (length all) (length left) c.loop-shard.passes.items c.pop-in-Some.new.self.items c.in-Some-pop.pass before.passes many c.in-Some-pop.ensures.items in
    let placed = placed_before left last (subst ArePlaced items before.placed) in
    let double : 2 ^ length all ≡ 2 ^ length left + 2 ^ length left = ap (λ (n : ℕ). 2 ^ n) many ∙ two-pow-succ (length left) in
    let number : c.len.result ≡ length left = grind (arith, c.len.ensures) in
    let power = ap (λ (n : ℕ). 2 ^ n) number in
    record {
      named = (all_but_last (IsNamed g.H.HubName.terms) all left last items before.named).0;
      counted = (all_but_last (HasCount g.H.BoundName.word.shards) all left last items before.counted).0;
      new = (all_but_last (IsNewShard g.H.HubName.opening g.H.BoundName.before c.args.caller.now.seen.stopped) all left last items before.new).0;
      placed = placed.0;
      all = grind (arith, before.all, c.push_reserved.ensures.len, c.in-Some.ensures.cases);
      room = grind (arith, before.room, c.push_reserved.ensures.capacity);
      left = grind (arith, before.left, c.pop.ensures.capacity);
      parts = grind (arith, before.parts, c.token_of-token.ensures.parts, c.in-Some.ensures.cases);
      bare = c.token_of-token.ensures.bare;
      total = grind (arith, before.total, c.token_of-token.ensures.total, power, double);
      passes = taken.0;
      caller = c.note.ensures.same ∙ before.caller;
    }
