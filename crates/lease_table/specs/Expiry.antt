use Rattle.std.specs.Prelude.{ℕ, ◌≡◌, ◌<◌, ◌≤◌, ◌==◌, Bool, ◌&&◌, ◌||◌, nat_lt, List, Any}
use Rattle.std.specs.List.{All}
use Rattle.std.specs.Bool.{IsFalse}
use Rattle.rows_model.specs.declared.keys.QKey.{QKey}
use Rattle.rows_model.specs.Key.{kind_number, same_key}
use Rattle.lease_table.specs.declared.records.Quar.{Quar}
use Rattle.lease_table.specs.declared.records.Lease.{Lease}
use Rattle.lease_table.specs.declared.records.Due.{Due}
use Rattle.lease_table.specs.Leases.{quars}

-- how a due quarantine on a key is told
abbrev pub due_as : QKey → Quar → Due
due_as key quar = record { key = key; sid = quar.sid; token = quar.token }

-- whether a key comes before another: by kind, then by id
abbrev pub key_before : QKey → QKey → Bool
key_before a b =
    nat_lt (kind_number a.kind) (kind_number b.kind) || ((kind_number a.kind == kind_number b.kind) && nat_lt a.id b.id)

-- whether the first comes before the second: by key, then by token
abbrev pub comes_before : Due → Due → Bool
comes_before a b =
    key_before a.key b.key || (same_key a.key b.key && nat_lt a.token b.token)

-- the quarantines of a table, by the key that they stand on
abbrev pub quars_in : List Lease → QKey → List Quar
quars_in leases = λ key. quars key leases

-- whether the deadline of a quarantine has come
abbrev pub IsDue : ℕ → Quar → Type 0
IsDue now quar = quar.deadline ≤ now

-- a quarantine whose deadline has come stands on its key and is told so, by what stands on each key
abbrev pub StandsDue : ℕ → (QKey → List Quar) → Due → Type 0
StandsDue now standing due = Any (λ quar. IsDue now quar × (due ≡ due_as due.key quar)) (standing due.key)

-- no quarantine whose deadline has come, on any key, comes before this one
abbrev pub NoneDueBefore : ℕ → (QKey → List Quar) → Due → Type 0
NoneDueBefore now standing due =
    (key : QKey) → All (λ quar. IsDue now quar → IsFalse (comes_before (due_as key quar) due)) (standing key)

-- on every key the deadline of each quarantine lies ahead
abbrev pub NoneDue : ℕ → (QKey → List Quar) → Type 0
NoneDue now standing = (key : QKey) → All (λ quar. now < quar.deadline) (standing key)
