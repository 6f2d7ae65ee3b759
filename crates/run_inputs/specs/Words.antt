-- The words of the command `work`.
use Rattle.std.specs.Prelude.{ℕ, ◌≡◌, ◌<◌, ◌^◌, List, [], ◌∷◌, map, codes, decimal}
use Rattle.run_inputs.specs.declared.loads.WorkSpec.{WorkSpec}
use Rattle.run_inputs.specs.Loads.{IsWork}

-- The numbers of a load, in the order in which the words have them.
abbrev pub numbers_of : WorkSpec → List ℕ
numbers_of spec = spec.members ∷ spec.sessions ∷ spec.workers ∷ spec.shards ∷ spec.seed ∷ []

-- The words are `work` and the numbers of this load in decimal, and it is one that can be drawn.
pub record AreWork (words : List (List ℕ)) (spec : WorkSpec) : Type 0 where
  pub written : words ≡ codes "work" ∷ map decimal (numbers_of spec)
  pub fits : IsWork spec
  pub seed_below : spec.seed < 2 ^ 64
