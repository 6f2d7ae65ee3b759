use Rattle.std.proofs.Common.{ℕ, ◌≡◌, length, vec_len, sym, subst, ◌∙◌, arith}
use Rattle.shard_lock.specs.Names.{AreTokens, HaveCount}
use Rattle.shard_lock.proofs.PlaceLemmas.{have_count}
use Rattle.bound_hub.proofs.hubs.BoundHub.new.Goals as goal

pub invariant_of-hub : goal.invariant_of-hub
invariant_of-hub g c =
    let made = c.locked-locks.ensures in
    let have = have_count g.H.HubName.terms c.args.shards.items c.requires.shards in
    let count : c.len-count.result ≡ vec_len c.args.shards = grind (arith, c.len-count.ensures) in
    let many : length c.args.shards.items ≡ c.len-count.result = grind (arith, count) in (
      grind (arith, c.requires.shards.some, many),
      grind (arith, made.all, count),
      grind (arith, c.requires.ledger.1, c.requires.one_each, count),
      c.requires.word,
      c.requires.of_shards ∙ many,
      subst (λ (n : ℕ). HaveCount g.H.HubName.terms n) many have,
      subst (λ (n : ℕ). AreTokens n c.locked-locks.result.2.parts c.locked-locks.result.2.amount) (sym count) made.tokens,
    )
