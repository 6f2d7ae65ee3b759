-- The steps of a shard, all of which are in memory, or none.
use Rattle.std.specs.Prelude.{ℕ, ◌-◌, ◌^◌, Bool, true, false, if◌then◌else◌, List, [], map, vec_len, vec_capacity, Option, Some, None}
use Rattle.key_shard.specs.declared.steps.Step.{Step}
use Rattle.key_shard.specs.declared.steps.Step.TheVariants.{Hit}
use Rattle.key_shard.specs.declared.histories.Steps.{Steps}
use Rattle.key_shard.specs.declared.histories.Steps.TheVariants.{Whole, GivenUp}

-- whether each step is given up as it comes, all steps, how many are in memory, and for how many there is room
pub record HistoryView : Type 0 where
  pub rolls : Bool
  pub steps : List Step
  pub used : ℕ
  pub room : ℕ

-- steps as callers see them: those that are given up take no room
abbrev pub history_of : Steps → HistoryView
history_of (Whole steps) = record { rolls = false; steps = steps.items; used = vec_len steps; room = vec_capacity steps }
history_of (GivenUp log) = record { rolls = true; steps = map (λ told. told.0) log.items; used = 0; room = 2 ^ 64 - 1 }

-- the steps in memory
abbrev pub kept_in : HistoryView → List Step
kept_in history = if history.rolls then [] else history.steps

-- the value that a step hit, if it is a hit
abbrev pub value_hit : Step → Option (List ℕ)
value_hit (Hit key sid floor value stamp) = Some value
value_hit step = None
