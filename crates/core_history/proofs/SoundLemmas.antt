-- What is so of a core at every end.
use Rattle.std.proofs.Common.{ℕ, suc, ◌+◌, ◌≡◌, ◌≢◌, ◌<◌, List, [], ◌∷◌, length, map, reverse, Some, slice_get, refl, ap, subst, ◌∙◌, arith}
use Rattle.std.specs.List.{range_with_len}
use Rattle.std.specs.Option.{ForSome}
use Rattle.rows_model.specs.Rows.{Tables}
use Rattle.key_shard.specs.declared.steps.Step.{Step}
use Rattle.key_shard.specs.Shards.{ShardView}
use Rattle.sql_keeper.specs.Log.{rows_after}
use Rattle.session_client.specs.declared.plans.Shape.{Shape}
use Rattle.core_history.specs.Cores.{Origin, CoreView, HasShards, HasKept, IsSound, shard_after}
use Rattle.core_history.specs.Events.{Event, steps_of}
use Rattle.core_history.specs.Freshness.{histories_of}
use Rattle.core_history.specs.Machine.{Move, world_of}
use Rattle.core_history.proofs.FreshRuns.{runs_fresh}
use Rattle.core_history.proofs.GrantLemmas.{runs_are_lawful_is}

-- the histories of shards that are those of a past from this place on
each_history : (shape : Shape) (past : List Event) (shards : List ShardView) (first : ℕ)
    → ((place : ℕ) → place < length shards → slice_get shards place ≡ Some (shard_after shape past (first + place))) →
    map (λ shard. shard.history) shards ≡ map (λ place. reverse (steps_of place past)) (range_with_len first (length shards))
each_history shape past [] first each = refl
each_history shape past (shard ∷ shards) first each =
    let zeroth : first + 0 ≡ first = omega arith in
    let here : shard ≡ shard_after shape past first = some_is shard _ (each 0 (omega arith)) ∙ ap (shard_after shape past) zeroth in
    let P : ℕ → ℕ → Type 0 = λ place at. slice_get shards place ≡ Some (shard_after shape past at) in
    let more = each_history shape past shards (first + 1) (λ place below. subst (P place) (omega arith) (each (suc place) (omega arith))) in
    ap (λ (v : ShardView). v.history ∷ map (λ s. s.history) shards) here ∙ ap (λ (l : List (List Step)). reverse (steps_of first past) ∷ l) more
  where
    some_is : (a b : ShardView) → Some a ≡ Some b → a ≡ b
    some_is a b e = cc

-- the histories of the shards are those of the past
histories_are : (shards : List ShardView) (shape : Shape) (past : List Event) → HasShards shards shape past
    → map (λ shard. shard.history) shards ≡ histories_of shape past
histories_are shards shape past has =
    each_history shape past shards 0 (λ place below. has.each place (omega (arith, below, has.count))
    ∙ ap (λ (n : ℕ). Some (shard_after shape past n)) (omega arith))
    ∙ ap (λ (n : ℕ). map (λ place. reverse (steps_of place past)) (range_with_len 0 n)) has.count

pub sound : (core : CoreView) (origin : Origin) (moves : List Move) → HasKept core origin moves
    → ForSome core.store.known_rows (λ known. known ≡ rows_after core.store.ledger.opening core.store.ledger.log) → IsSound core origin moves
sound core origin moves kept rows =
    let shape = origin.shape in
    let some : shape.shards ≢ 0 = λ e. absurd (omega (arith, kept.shards.fit.some_shards, e)) in
    record {
      log = kept.store.log;
      histories = histories_are core.shards shape (world_of shape moves).past kept.shards;
      lawful = runs_are_lawful_is shape moves some kept.plans;
      rows = λ known is. rows known is ∙ ap (λ (t : Tables). rows_after t core.store.ledger.log) kept.store.opening
          ∙ ap (rows_after origin.opening) kept.store.log;
      fresh = λ known. (runs_fresh shape origin.opening moves some kept.plans kept.fit (kept.store.truth known)).1;
    }
