-- No hit is stale, and no commit touches a key that wasn't quarantined.
use Rattle.std.specs.Prelude.{ℕ, Bool, true, false, ◌==◌, ◌&&◌, ◌≡◌, ◌≤◌, ◌<◌, IsTrue, List, [], ◌∷◌, length, reverse, All, slice_get, Some}
use Rattle.std.specs.List.{list_any}
use Rattle.rows_model.specs.declared.keys.QKey.{QKey}
use Rattle.rows_model.specs.declared.keys.Sid.{Sid}
use Rattle.rows_model.specs.Key.{same_key}
use Rattle.rows_model.specs.Rows.{Tables}
use Rattle.rows_model.specs.Query.{answer}
use Rattle.rows_model.specs.Changes.{touches}
use Rattle.rows_model.specs.Placement.{shard_of}
use Rattle.key_shard.specs.declared.steps.Step.{Step}
use Rattle.key_shard.specs.declared.steps.Step.TheVariants.{Hit, Granted, Released}
use Rattle.sql_keeper.specs.declared.stores.Commit.{Commit}
use Rattle.sql_keeper.specs.Log.{state}

-- whether a step ended a quarantine of this session on this key
abbrev pub releases : QKey → Sid → Step → Bool
releases key who (Released on sid token how) = same_key key on && (sid.number == who.number)
releases key who other = false

-- whether a step granted this session a quarantine on this key
abbrev pub quarantines : QKey → Sid → Step → Bool
quarantines key who (Granted on sid mode shift now token deadline) = same_key key on && (sid.number == who.number)
quarantines key who other = false

-- A hit of this value and stamp is fresh, after these steps of its shard: the
-- stamp is a number of commits, the value is the key's answer on the rows after so
-- many, and among these is each commit on the key whose quarantine there had ended.
pub record IsFreshHit (opening : Tables) (log : List Commit) (past : List Step) (key : QKey) (value : List ℕ) (stamp : ℕ) : Type 0 where
  pub known : stamp ≤ length log
  pub right : value ≡ answer key (state opening log stamp)
  pub current : (place : ℕ) (commit : Commit) → slice_get log place ≡ Some commit
      → touches commit.txn key ≡ true → list_any (releases key commit.sid) past ≡ true → place < stamp

-- a step after these is fresh: of other steps than hits nothing is said
abbrev pub IsFreshStep : Tables → List Commit → List Step → Step → Type 0
IsFreshStep opening log past (Hit key sid floor value stamp) = IsFreshHit opening log past key value stamp
IsFreshStep opening log past other = Unit {0}

-- each hit among these steps, the latest first, is fresh
abbrev pub IsFreshPast : Tables → List Commit → List Step → Type 0
IsFreshPast opening log [] = Unit {0}
IsFreshPast opening log (step ∷ past) = IsFreshStep opening log past step × IsFreshPast opening log past

-- each hit of each history, the earliest step first, is fresh
abbrev pub Fresh : Tables → List Commit → List (List Step) → Type 0
Fresh opening log histories = All (λ history. IsFreshPast opening log (reverse history)) histories

-- a history has the key granted to this session
abbrev pub HasGranted : QKey → Sid → List Step → Type 0
HasGranted key who history = IsTrue (list_any (quarantines key who) history)

-- each commit has a quarantine granted to its session on each key that it touches, in the history of the key's shard
abbrev pub Covered : List Commit → List (List Step) → Type 0
Covered log histories =
    (place : ℕ) (commit : Commit) (key : QKey) → slice_get log place ≡ Some commit → touches commit.txn key ≡ true
    → (history : List Step) × (slice_get histories (shard_of key (length histories)) ≡ Some history) × HasGranted key commit.sid history
