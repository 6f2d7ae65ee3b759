-- The versions of a key's answer: what it is after each number of commits.
use Rattle.std.specs.Prelude.{ℕ, ◌≡◌, ◌≤◌, true, List, [], ◌∷◌, ◌++◌, length, nat_le, if◌then◌else◌, All, AllPairs, Option, Some, None}
use Rattle.std.specs.Prelude.{is_some, option_map, option_and_then, slice_get, ◌-◌, IsTrue, IfSome}
use Rattle.std.specs.List.Sorted.{IsNonDecreasingBy}
use Rattle.std.specs.Option.{option_or, unwrap_or}
use Rattle.std.specs.BTreeMap.{BTreeMap, get}
use Rattle.std.specs.Global.{Vec}
use Rattle.rows_model.specs.declared.keys.QKey.{QKey}
use Rattle.rows_model.specs.declared.changes.Change.{Change}
use Rattle.rows_model.specs.Rows.{Tables}
use Rattle.rows_model.specs.Refresh.{refreshed}
use Rattle.rows_model.specs.Query.{answer}
use Rattle.rows_model.specs.Changes.{is_key_before}
use Rattle.lease_table.specs.Standing.{key_cmp}
use Rattle.key_shard.specs.declared.steps.Step.{Step}
use Rattle.key_shard.specs.declared.steps.Step.TheVariants.{Hit}
use Rattle.sql_keeper.specs.declared.stores.Commit.{Commit}
use Rattle.sql_keeper.specs.Log.{state}
use Rattle.run_audit.specs.declared.answers.Version.{Version}

-- The versions that are noted of a key, if it is noted.
abbrev pub noted : QKey → BTreeMap QKey (Vec Version) → Option (List Version)
noted key answers = option_map (λ versions. versions.items) (get key_cmp answers key)

-- A version of this value from so many commits on.
abbrev pub version : ℕ → List ℕ → Version
version from value = record { from = from; value = value }

-- The value of the last version.
abbrev pub last_value : List Version → Option (List ℕ)
last_value versions = option_map (λ one. one.value) (slice_get versions (length versions - 1))

-- What a key is answered once a transaction led to these rows: its last value, refreshed by the transaction; where that gives none, what the rows answer.
abbrev pub renewed : QKey → List Change → Tables → List Version → List ℕ
renewed key txn rows versions = unwrap_or (option_and_then (λ value. refreshed key value txn) (last_value versions)) (answer key rows)

-- The versions of a key, if it is noted, with one more.
abbrev pub pushed : ℕ → (List Version → List ℕ) → Option (List Version) → Option (List Version)
pushed from value found = option_map (λ versions. versions ++ version from (value versions) ∷ []) found

-- The value after so many commits: that of the last version from at most so many on.
abbrev pub value_at : ℕ → List Version → Option (List ℕ)
value_at count [] = None
value_at count (one ∷ later) =
    if nat_le one.from count then option_or (value_at count later) (Some one.value) else value_at count later

-- Versions in order of what they are from.
abbrev pub InTurn : List Version → Type 0
InTurn versions = IsNonDecreasingBy (λ one. one.from) versions

-- These versions tell a value after each number of commits up to this one: they stand in order, and none is from more commits on.
pub record AreVersions (value : ℕ → List ℕ) (count : ℕ) (versions : List Version) : Type 0 where
  pub right : (n : ℕ) → n ≤ count → value_at n versions ≡ Some (value n)
  pub in_turn : InTurn versions
  pub few : All (λ one. one.from ≤ count) versions

-- The versions of each key that is noted tell its answer after each number of commits of the log.
abbrev pub AreAnswers : Tables → List Commit → BTreeMap QKey (Vec Version) → Type 0
AreAnswers opening log answers =
    (key : QKey) → IfSome (noted key answers) (AreVersions (λ n. answer key (state opening log n)) (length log))

-- The versions of each key that is noted tell its answer on the opening rows.
abbrev pub AreOpening : Tables → BTreeMap QKey (Vec Version) → Type 0
AreOpening opening answers = (key : QKey) → IfSome (noted key answers) (λ versions. versions ≡ version 0 (answer key opening) ∷ [])

-- The key of a hit is noted. Of other steps nothing is said.
abbrev pub Knows : BTreeMap QKey (Vec Version) → Step → Type 0
Knows answers (Hit key sid floor value stamp) = IsTrue (is_some (noted key answers))
Knows answers other = Unit {0}

-- Each key that was noted is noted.
abbrev pub Keeps : BTreeMap QKey (Vec Version) → BTreeMap QKey (Vec Version) → Type 0
Keeps old new = (key : QKey) → IsTrue (is_some (noted key old)) → IsTrue (is_some (noted key new))

-- The same keys are noted.
abbrev pub KnowsTheSame : BTreeMap QKey (Vec Version) → BTreeMap QKey (Vec Version) → Type 0
KnowsTheSame old new = (key : QKey) → is_some (noted key new) ≡ is_some (noted key old)

-- Keys in order, without repeats.
abbrev pub InOrder : List QKey → Type 0
InOrder keys = AllPairs (λ key later. is_key_before later key ≡ true) keys
