use Rattle.std.proofs.Common.{◌≡◌, ℕ, length, ap, ◌∙◌, arith}
use Rattle.rows_model.specs.Placement.{shard_of}
use Rattle.rows_model.proofs.PlacementLemmas.{shard_below}
use Rattle.core_history.proofs.homes.home_of.Goals as goal

pub returns-clause-within : goal.returns-clause-within
returns-clause-within c =
    let shards = c.args.shards.now in
    let here : c.shard_number.result ≡ shard_of c.args.key.now (length shards.items) =
    c.shard_number.ensures ∙ ap (λ (n : ℕ). shard_of c.args.key.now n) (c.len.ensures ∙ shards.ok.0) in
    omega (arith, shard_below c.args.key.now (length shards.items) c.requires.some, here)
