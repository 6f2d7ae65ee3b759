-- Lists that go on from others, and the longer of two. Lists have the latest first.
use Rattle.std.specs.Prelude.{ℕ, zero, suc, ◌≡◌, ◌⊎◌, if◌then◌else◌, nat_lt, List, [], ◌∷◌, ◌++◌, length}
use Rattle.log_word.specs.declared.events.Short.{Short}

module _ {A : Type 0} where
  -- The first list is a start of the second: what the second has more came later.
  abbrev pub IsStart : List A → List A → Type 0
  IsStart early late = (more : List A) × (late ≡ more ++ early)

  -- The member is among these.
  abbrev pub Among : A → List A → Type 0
  Among a [] = ⊥
  Among a (first ∷ others) = (first ≡ a) ⊎ Among a others

  -- The longer of two lists, the first where they are equally long.
  abbrev pub longer : List A → List A → List A
  longer one other = if nat_lt (length one) (length other) then other else one

-- The steps of the shard of this number.
abbrev pub steps_of : ℕ → List (List Short) → List Short
steps_of shard [] = []
steps_of zero (first ∷ others) = first
steps_of (suc shard) (first ∷ others) = steps_of shard others

-- All steps, with one more of the shard of this number.
abbrev pub with_step_of : ℕ → Short → List (List Short) → List (List Short)
with_step_of zero step [] = (step ∷ []) ∷ []
with_step_of (suc shard) step [] = [] ∷ with_step_of shard step []
with_step_of zero step (first ∷ others) = (step ∷ first) ∷ others
with_step_of (suc shard) step (first ∷ others) = first ∷ with_step_of shard step others

-- All steps but those of the shard of this number.
abbrev pub without_steps_of : ℕ → List (List Short) → List (List Short)
without_steps_of shard [] = []
without_steps_of zero (first ∷ others) = [] ∷ others
without_steps_of (suc shard) (first ∷ others) = first ∷ without_steps_of shard others

-- Of each shard the longer list.
abbrev pub longer_each : List (List Short) → List (List Short) → List (List Short)
longer_each [] other = other
longer_each (first ∷ others) [] = first ∷ others
longer_each (first ∷ others) (second ∷ more) = longer first second ∷ longer_each others more
