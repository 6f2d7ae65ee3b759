-- Why a store refuses a commit before it asks its keeper.
use Rattle.std.specs.Prelude.{ℕ, Bool, true, false, not, ◌==◌, ◌&&◌, if◌then◌else◌, List, find, Option, Some, None}
use Rattle.std.specs.List.{list_any}
use Rattle.rows_model.specs.declared.keys.QKey.{QKey}
use Rattle.rows_model.specs.declared.keys.Sid.{Sid}
use Rattle.rows_model.specs.declared.changes.Change.{Change}
use Rattle.rows_model.specs.Key.{same_key}
use Rattle.rows_model.specs.Changes.{footprint}
use Rattle.key_shard.specs.Permit.{Permit}
use Rattle.sql_keeper.specs.declared.faults.CommitFault.{CommitFault}
use Rattle.sql_keeper.specs.declared.faults.CommitFault.TheVariants as faults

-- whether a grant is this session's, on this key
abbrev pub covers : Sid → QKey → Permit → Bool
covers who key grant = same_key key grant.key && (grant.sid.number == who.number)

-- whether one of the grants covers the key
abbrev pub is_covered : Sid → List Permit → QKey → Bool
is_covered who grants key = list_any (covers who key) grants

-- the first key that the transaction touches and no grant of the session covers
abbrev pub uncovered : Sid → List Permit → List Change → Option QKey
uncovered who grants changes = find (λ key. not (is_covered who grants key)) (footprint changes)

-- the log is full where it holds as many commits as it may
abbrev pub full : ℕ → ℕ → Option CommitFault
full count cap = if count == cap then Some (faults.LogFull count) else None

-- the first fault of a covered commit
abbrev pub covered_fault : Option QKey → ℕ → ℕ → Option CommitFault
covered_fault (Some key) count cap = Some (faults.Uncovered key)
covered_fault None count cap = full count cap

-- why a commit is refused before the keeper is asked, if it is: the session isn't open, a key isn't covered, the log is full
abbrev pub commit_fault : Bool → Sid → List Permit → List Change → ℕ → ℕ → Option CommitFault
commit_fault false who grants changes count cap = Some faults.Ended
commit_fault true who grants changes count cap = covered_fault (uncovered who grants changes) count cap
