use Rattle.std.proofs.Common.{◌≡◌, ℕ, ◌+◌, ◌<◌, List, [], ◌∷◌, length, length-append, slice_get, Some, sym, subst, ◌∙◌, arith}
use Rattle.key_shard.specs.Shards.{ShardView}
use Rattle.core_history.specs.Cores.{shard_after}
use Rattle.core_history.proofs.ShardsLemmas.{each_pushed}
use Rattle.core_history.proofs.cores.shards_of.Goals as goal

pub loop-no-preserved : goal.loop-no-preserved
loop-no-preserved c =
    let shards = c.loop-no.shards.items in
    let x = c.in_ok-new.field-0 in
    let P : List ShardView → Type 0 = λ xs. (length xs ≡ c.loop-no.no + 1)
    × ((place : ℕ) → place < c.loop-no.no + 1 → slice_get xs place ≡ Some (shard_after c.args.shape [] place)) in
    subst P (sym c.in_ok-push.ensures.items) (
      omega (arith, length-append shards (x ∷ []), c.loop-no.invariant.0),
      each_pushed (shard_after c.args.shape []) shards x c.loop-no.no c.loop-no.invariant.0 c.in_ok-new.ensures c.loop-no.invariant.1,
    )

pub returns : goal.returns
returns c =
    let all : c.loop-no.no ≡ c.args.shape.shards = omega arith in
    record {
      fit = c.requires;
      count = c.loop-no.invariant.0 ∙ all;
      each = λ place below. c.loop-no.invariant.1 place (omega arith);
    }
