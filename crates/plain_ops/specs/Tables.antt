-- What a table keeps.
use Rattle.std.specs.Prelude.{ℕ, ◌≡◌, ◌≤◌, List, length}
use Rattle.plain_ops.specs.declared.items.Item.{Item}
use Rattle.plain_ops.specs.Entries.{bytes_in}

-- the sum is that of the entries, which are no more than there may be
pub record IsTable (entries : List (List ℕ × Item)) (bytes : ℕ) : Type 0 where
  pub sum : bytes ≡ bytes_in entries
  pub few : length entries ≤ 65536
  pub small : bytes_in entries ≤ 268435456
