-- What a door tells of itself, of the lines handed back in numbers.
use Rattle.std.specs.Prelude.{ℕ, Bool, List, Option}

-- The address that it is open at, how many lines it gave, how often it failed, whether it answered that no more come, and how many lines were handed back, where it tells them.
pub record DoorSeen : Type 0 where
  pub bound : Option (List ℕ)
  pub lines : ℕ
  pub faults : ℕ
  pub ended : Bool
  pub closed : Option ℕ
