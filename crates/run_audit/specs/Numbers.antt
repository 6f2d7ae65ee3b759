-- The number of the last commit of a kind in a log, counted from 1.
use Rattle.std.specs.Prelude.{ℕ, zero, suc, ◌≡◌, ◌==◌, ◌&&◌, Bool, List, [], ◌∷◌, if◌then◌else◌}
use Rattle.std.specs.List.{list_any}
use Rattle.std.specs.Option.{unwrap_or}
use Rattle.std.specs.BTreeMap.{BTreeMap, get}
use Rattle.rows_model.specs.declared.keys.QKey.{QKey}
use Rattle.rows_model.specs.Key.{same_key}
use Rattle.rows_model.specs.Changes.{touches}
use Rattle.key_shard.specs.declared.steps.Step.{Step}
use Rattle.key_shard.specs.declared.steps.Step.TheVariants.{Released}
use Rattle.sql_keeper.specs.declared.stores.Commit.{Commit}
use Rattle.sql_keeper.specs.Fresh.{releases}
use Rattle.run_audit.specs.declared.holds.Hold.{Hold}
use Rattle.run_audit.specs.Grants.{hold_cmp}
use Rattle.lease_table.specs.Standing.{key_cmp}

-- A number behind one commit more; where there is none, that of the commit itself, if it passes.
abbrev pub one_further : Bool → ℕ → ℕ
one_further passes zero = if passes then 1 else 0
one_further passes (suc number) = suc (suc number)

-- The number of the last commit that passes the test, or 0 where none does.
abbrev pub last_number : (Commit → Bool) → List Commit → ℕ
last_number test [] = 0
last_number test (commit ∷ log) = one_further (test commit) (last_number test log)

-- Whether a commit is of this session, and touches this key.
abbrev pub is_on : Hold → Commit → Bool
is_on hold commit = touches commit.txn hold.key && (commit.sid.number == hold.sid.number)

-- Whether a commit touches the key, and its session's quarantine there ended among these steps.
abbrev pub is_released : QKey → List Step → Commit → Bool
is_released key past commit = touches commit.txn key && list_any (releases key commit.sid) past

-- The number that is noted of a session and a key, or 0.
abbrev pub number_of : Hold → BTreeMap Hold ℕ → ℕ
number_of hold numbers = unwrap_or (get hold_cmp numbers hold) 0

-- What is noted of each session and key is the number of the session's last commit there.
abbrev pub AreNumbers : List Commit → BTreeMap Hold ℕ → Type 0
AreNumbers log numbers = (hold : Hold) → number_of hold numbers ≡ last_number (is_on hold) log

-- The number that is noted of a key, or 0.
abbrev pub floor_of : QKey → BTreeMap QKey ℕ → ℕ
floor_of key floors = unwrap_or (get key_cmp floors key) 0

-- The number that is noted of the session whose quarantine of the key the step ends, or 0.
abbrev pub released_number : BTreeMap Hold ℕ → QKey → Step → ℕ
released_number numbers key (Released on sid token how) =
    if same_key key on then number_of (record { sid = sid; key = key }) numbers else 0
released_number numbers key other = 0

-- What is noted of each key is the number of the last commit on it whose quarantine there ended among these steps.
abbrev pub AreFloors : List Commit → List Step → BTreeMap QKey ℕ → Type 0
AreFloors log past floors = (key : QKey) → floor_of key floors ≡ last_number (is_released key past) log
