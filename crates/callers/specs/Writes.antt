-- What is said of the values that writers leave, to who reads behind them.
use Rattle.std.specs.Prelude.{ℕ, ◌≡◌, ◌≤◌, Bool, true, false, not, ◌&&◌, if◌then◌else◌, All, List, ◌∷◌, ◌++◌, reverse, Option, Some, None, slice_get}
use Rattle.rows_model.specs.declared.keys.QKey.{QKey}
use Rattle.rows_model.specs.declared.keys.Sid.{Sid}
use Rattle.rows_model.specs.Key.{same_key}
use Rattle.rows_model.specs.Rows.{Tables}
use Rattle.rows_model.specs.Query.{answer}
use Rattle.key_shard.specs.declared.steps.Ended.{Ended}
use Rattle.key_shard.specs.declared.steps.Ended.TheVariants.{Keep, Drop, Put, Shift}
use Rattle.key_shard.specs.declared.steps.Step.{Step}
use Rattle.key_shard.specs.declared.steps.Step.TheVariants.{Hit, Lease, Again, Own, Stored, Released}
use Rattle.key_shard.specs.Past.{own_of, entry, entry_shifted, evicted_by, is_evicted}
use Rattle.sql_keeper.specs.declared.stores.Commit.{Commit}
use Rattle.sql_keeper.specs.Log.{state}
use Rattle.core_history.specs.Freshness.{IsCommitOf}

-- A writer's release left this value with this stamp: it put it, or it moved the number of the entry that it found to it.
abbrev pub LeavesValue : Ended → Option (List ℕ × ℕ) → List ℕ → ℕ → Type 0
LeavesValue Keep found value stamp = ⊥
LeavesValue Drop found value stamp = ⊥
LeavesValue (Put put stamped evicted) found value stamp = (put ≡ value) × (stamped ≡ stamp)
LeavesValue (Shift by stamped) found value stamp =
    (stamped ≡ stamp) × (entry_shifted by stamped found ≡ Some (value, stamp))

-- Whether a quarantine that ended left the entry of its key.
abbrev pub is_keep : Ended → Bool
is_keep Keep = true
is_keep Drop = false
is_keep (Put value stamp evicted) = false
is_keep (Shift by stamp) = false

-- Whether a step leaves the entry of a key: it doesn't store, put, shift or drop it, doesn't evict it for another, and is no miss on the key.
abbrev pub leaves_entry : QKey → Step → Bool
leaves_entry key (Stored on token now value stamp evicted) = not (same_key key on) && not (is_evicted key evicted)
leaves_entry key (Released on sid token how) =
    if same_key key on then is_keep how else not (is_evicted key (evicted_by how))
leaves_entry key (Lease on sid floor now token deadline) = not (same_key key on)
leaves_entry key (Again on sid floor now standing) = not (same_key key on)
leaves_entry key other = true

-- The step is an answer to a get of the key by this session with this floor. One that is told of its own quarantine tells no floor.
abbrev pub IsGetOf : QKey → Sid → ℕ → Step → Type 0
IsGetOf key who floor (Hit on sid least value stamp) = (on ≡ key) × (sid ≡ who) × (least ≡ floor)
IsGetOf key who floor (Lease on sid least now token deadline) = (on ≡ key) × (sid ≡ who) × (least ≡ floor)
IsGetOf key who floor (Again on sid least now standing) = (on ≡ key) × (sid ≡ who) × (least ≡ floor)
IsGetOf key who floor (Own on sid) = (on ≡ key) × (sid ≡ who)
IsGetOf key who floor other = ⊥

-- A get behind a writer's release that left this value with this stamp, in a history that has the earliest step first:
-- each step between them leaves the entry, the reader holds no quarantine of the key, and its floor is at most the stamp.
pub record IsGetBehindWrite (history : List Step) (key : QKey)
    (writer : Sid) (value : List ℕ) (stamp : ℕ) (reader : Sid) (floor : ℕ) (step : Step) : Type 0 where
  pub before : List Step
  pub token : ℕ
  pub how : Ended
  pub between : List Step
  pub after : List Step
  pub steps : history ≡ before ++ Released key writer token how ∷ (between ++ step ∷ after)
  pub wrote : LeavesValue how (entry key (reverse before)) value stamp
  pub untouched : All (λ other. leaves_entry key other ≡ true) between
  pub asked : IsGetOf key reader floor step
  pub unheld : own_of key reader (reverse (before ++ Released key writer token how ∷ between)) ≡ None
  pub low : floor ≤ stamp

-- The get is a hit of what was written: its stamp is the number of the writer's commit, and its value is the key's answer after as many commits.
pub record IsServed (opening : Tables) (log : List Commit) (key : QKey)
    (writer : Sid) (value : List ℕ) (stamp : ℕ) (reader : Sid) (floor : ℕ) (step : Step) : Type 0 where
  pub hit : step ≡ Hit key reader floor value stamp
  pub number : IsCommitOf log writer stamp
  pub right : value ≡ answer key (state opening log stamp)

-- Each get behind a writer's release is served what that left.
abbrev pub HitsAfterWrites : Tables → List Commit → List (List Step) → Type 0
HitsAfterWrites opening log histories =
    (shard : ℕ) (history : List Step) (key : QKey) (writer : Sid) (value : List ℕ) (stamp : ℕ) (reader : Sid) (floor : ℕ) (step : Step)
    → slice_get histories shard ≡ Some history
    → IsGetBehindWrite history key writer value stamp reader floor step
    → IsServed opening log key writer value stamp reader floor step
