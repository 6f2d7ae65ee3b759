-- Which plans a session takes, and what it quarantines.
use Rattle.std.specs.Prelude.{ℤ, pos, ◌≡◌, ◌≤◌, Bool, true, false, not, if◌then◌else◌, List, [], filter}
use Rattle.rows_model.specs.declared.keys.QKey.{QKey}
use Rattle.rows_model.specs.declared.changes.Change.{Change}
use Rattle.lease_table.specs.declared.records.Mode.{Mode}
use Rattle.lease_table.specs.declared.records.Mode.TheVariants.{Invalidate, Refresh, Delta}
use Rattle.rows_model.specs.Key.{same_key}
use Rattle.rows_model.specs.Changes.{touches, footprint, IsTxn}
use Rattle.rows_model.specs.Delta.{is_count, delta_of}
use Rattle.session_client.specs.declared.plans.Shape.{Shape}
use Rattle.session_client.specs.declared.plans.Plan.{Plan}
use Rattle.session_client.specs.declared.plans.Plan.TheVariants.{Read, Write, Look, Quit, Skip, Raise, Renew}

-- The limits of a shape.
pub record IsShape (shape : Shape) : Type 0 where
  pub some_members : 1 ≤ shape.members
  pub few_members : shape.members ≤ 100000
  pub some_shards : 1 ≤ shape.shards
  pub few_shards : shape.shards ≤ 64
  pub some_room : 1 ≤ shape.room
  pub small_room : shape.room ≤ 65536
  pub some_life : 1 ≤ shape.life

-- A plan that a session takes: a key that it looks at or skips is one that its transaction touches.
abbrev pub IsPlan : Plan → Type 0
IsPlan (Read key floor) = Unit {0}
IsPlan (Write mode txn) = IsTxn txn
IsPlan (Look mode key txn) = IsTxn txn × (touches txn key ≡ true)
IsPlan (Quit mode txn) = IsTxn txn
IsPlan (Skip key txn) = IsTxn txn × (touches txn key ≡ true)
IsPlan (Raise txn) = IsTxn txn
IsPlan (Renew mode txn) = IsTxn txn

-- Whether a session of this plan may commit.
abbrev pub writes : Plan → Bool
writes (Read key floor) = false
writes (Write mode txn) = true
writes (Look mode key txn) = true
writes (Quit mode txn) = true
writes (Skip key txn) = true
writes (Raise txn) = true
writes (Renew mode txn) = true

-- The changes that a session of this plan is to commit: none of a reader.
abbrev pub changes_of : Plan → List Change
changes_of (Read key floor) = []
changes_of (Write mode txn) = txn
changes_of (Look mode key txn) = txn
changes_of (Quit mode txn) = txn
changes_of (Skip key txn) = txn
changes_of (Raise txn) = txn
changes_of (Renew mode txn) = txn

-- The mode in which a session of this plan writes.
abbrev pub mode_of : Plan → Mode
mode_of (Read key floor) = Invalidate
mode_of (Write mode txn) = mode
mode_of (Look mode key txn) = mode
mode_of (Quit mode txn) = mode
mode_of (Skip key txn) = Invalidate
mode_of (Raise txn) = Invalidate
mode_of (Renew mode txn) = mode

-- The keys without one of them.
abbrev pub without_key : QKey → List QKey → List QKey
without_key key keys = filter (λ other. not (same_key key other)) keys

-- The keys that a session of this plan quarantines, in their order.
abbrev pub keys_of : Plan → List QKey
keys_of (Read key floor) = []
keys_of (Write mode txn) = footprint txn
keys_of (Look mode key txn) = footprint txn
keys_of (Quit mode txn) = footprint txn
keys_of (Skip key txn) = without_key key (footprint txn)
keys_of (Raise txn) = footprint txn
keys_of (Renew mode txn) = footprint txn

-- The mode in which a session that writes in this mode quarantines a key: a delta is of a count alone, and any other key is invalidated beside it.
abbrev pub mode_on : Mode → QKey → Mode
mode_on Invalidate key = Invalidate
mode_on Refresh key = Refresh
mode_on Delta key = if is_count key then Delta else Invalidate

-- By how much the value of a key is to be shifted that is quarantined in this mode for this transaction.
abbrev pub shift_in : Mode → QKey → List Change → ℤ
shift_in Invalidate key txn = pos 0
shift_in Refresh key txn = pos 0
shift_in Delta key txn = delta_of key txn
