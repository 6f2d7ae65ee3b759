-- What the numbers of the last commits tell of a log.
use Rattle.std.specs.Prelude.{ℕ, ◌≡◌, nat_lt, List}
use Rattle.std.specs.Map.{lookup}
use Rattle.std.specs.Option.{unwrap_or}
use Rattle.rows_model.specs.declared.keys.QKey.{QKey}
use Rattle.rows_model.specs.Key.{same_key}
use Rattle.sql_keeper.specs.declared.stores.Commit.{Commit}
use Rattle.shard_dump.specs.Dumps.{is_touched}

-- the number that stands beside a key, or 0
abbrev pub number_of : QKey → List (QKey × ℕ) → ℕ
number_of key numbers = unwrap_or (lookup (same_key key) numbers) 0

-- a key's number is above a stamp exactly where a commit above the stamp touches the key
abbrev pub TellsTouches : List Commit → List (QKey × ℕ) → Type 0
TellsTouches log numbers = (key : QKey) (stamp : ℕ) → nat_lt stamp (number_of key numbers) ≡ is_touched log key stamp
