use Rattle.std.proofs.Common.{ℕ, ◌≡◌, ◌^◌, ◌∙◌, length, vec_len, rules, sym, ap, arith}
use Rattle.std.proofs.lemmas.List.Sorted.{IsNonDecreasingBy-from_sort_by_key, sum_by-IsPermutation}
use Rattle.key_shard.specs.Shards.{ShardView}
use Rattle.shard_lock.proofs.PowerLemmas.{are_placed}
use Rattle.bound_hub.proofs.hub_parts.unlocked.Goals as goal

pub returns-clause-placed : goal.returns-clause-placed
returns-clause-placed g c =
    let number : ShardView → ℕ = λ shard. shard.terms.no in
    let sorted = c.sort_unstable_by_key.new.self.items in
    let sum = sum_by-IsPermutation (λ (shard : ShardView). 2 ^ number shard) c.taken-shards.result.0.items sorted c.sort_unstable_by_key.ensures.permutation in
    let up = IsNonDecreasingBy-from_sort_by_key number sorted c.sort_unstable_by_key.ensures.sorted (λ a r q k. search rules) in
    let whole = c.audit.ensures.whole (c.taken-shards.ensures.parts ∙ sym c.requires.tokens.one_each) in
    let many : length sorted ≡ vec_len c.args.locks = grind (arith, c.sort_unstable_by_key.ensures.len, c.taken-shards.ensures.as_many) in
    let powers = ap (λ (n : ℕ). 2 ^ n) many in
    are_placed number sorted
    (grind (arith, sum, powers, whole, c.taken-shards.ensures.amount, c.requires.tokens.amount_is))
    up
