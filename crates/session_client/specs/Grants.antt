use Rattle.std.specs.Prelude.{ℕ, List}
use Rattle.key_shard.specs.Permit.{Permit}

-- What contracts see of a list of grants: the grants, and for how many there is room.
pub record GrantsView : Type 0 where
  pub items : List Permit
  pub room : ℕ
