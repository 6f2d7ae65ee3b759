-- What an audit finds of a log and of the histories of the shards.
use Rattle.std.specs.Prelude.{ℕ, ◌≡◌, ◌+◌, ◌<◌, ◌^◌, true, false, List, length, take, map, reverse, slice_get, Some, None, All}
use Rattle.rows_model.specs.declared.keys.QKey.{QKey}
use Rattle.rows_model.specs.declared.keys.Sid.{Sid}
use Rattle.rows_model.specs.Rows.{Tables}
use Rattle.rows_model.specs.Changes.{touches, is_key_before}
use Rattle.rows_model.specs.Placement.{shard_of}
use Rattle.key_shard.specs.declared.steps.Step.{Step}
use Rattle.key_shard.specs.Shards.{ShardView}
use Rattle.sql_keeper.specs.declared.stores.Commit.{Commit}
use Rattle.sql_keeper.specs.Fresh.{Fresh, Covered, HasGranted, IsFreshStep, IsFreshPast}
use Rattle.run_audit.specs.declared.findings.Finding.{Finding}
use Rattle.run_audit.specs.declared.findings.Finding.TheVariants.{Clean, Uncovered, Stale}

-- The histories of shards.
abbrev pub histories_in : List ShardView → List (List Step)
histories_in shards = map (λ shard. shard.history) shards

-- Each shard is whole: its history is in memory from the first step on.
abbrev pub AreWhole : List ShardView → Type 0
AreWhole shards = All (λ shard. shard.terms.rolls ≡ false) shards

-- A shard has this number, of so many.
pub record IsNumbered (number total : ℕ) (shard : ShardView) : Type 0 where
  pub no : shard.terms.no ≡ number
  pub count : shard.terms.count ≡ total

-- Each shard has the number of its place, from 0, of as many as there are; a number of shards is one of 32 bits.
pub record AreNumbered (shards : List ShardView) : Type 0 where
  pub few : length shards < 2 ^ 32
  pub each : (place : ℕ) (shard : ShardView) → slice_get shards place ≡ Some shard → IsNumbered place (length shards) shard

-- The history of the key's shard has the key granted to this session.
abbrev pub IsGranted : List (List Step) → QKey → Sid → Type 0
IsGranted histories key who =
    (history : List Step) × (slice_get histories (shard_of key (length histories)) ≡ Some history) × HasGranted key who history

-- The commit of this number, counted from 1, is the first that isn't covered, and
-- this is the least key that it touches and that wasn't granted to its session: each
-- commit before it is covered, and each key before this one that it touches was granted.
pub record IsFirstUncovered (log : List Commit) (histories : List (List Step)) (number : ℕ) (key : QKey) : Type 0 where
  pub place : ℕ
  pub commit : Commit
  pub number_is : number ≡ place + 1
  pub there : slice_get log place ≡ Some commit
  pub touched : touches commit.txn key ≡ true
  pub not_granted : ¬ (IsGranted histories key commit.sid)
  pub covered_before : Covered (take place log) histories
  pub least : (other : QKey) → is_key_before key other ≡ true → touches commit.txn other ≡ true → IsGranted histories other commit.sid

-- The step at this place of the history is the first that isn't fresh. Of other steps than hits nothing is asked, so it is a hit.
pub record IsFirstStaleIn (opening : Tables) (log : List Commit) (history : List Step) (place : ℕ) : Type 0 where
  pub step : Step
  pub there : slice_get history place ≡ Some step
  pub stale : ¬ (IsFreshStep opening log (reverse (take place history)) step)
  pub fresh_before : IsFreshPast opening log (reverse (take place history))

-- The first step that isn't fresh stands there in the history of this shard, and each hit of the shards before it is fresh.
pub record IsFirstStale (opening : Tables) (log : List Commit) (histories : List (List Step)) (shard place : ℕ) : Type 0 where
  pub history : List Step
  pub there : slice_get histories shard ≡ Some history
  pub first_in : IsFirstStaleIn opening log history place
  pub fresh_before : Fresh opening log (take shard histories)

-- What is found among the hits: each is fresh, or which is the first that isn't.
abbrev pub IsFoundIn : Tables → List Commit → List (List Step) → Finding → Type 0
IsFoundIn opening log histories Clean = Fresh opening log histories
IsFoundIn opening log histories (Stale shard place) = IsFirstStale opening log histories shard place
IsFoundIn opening log histories (Uncovered commit key) = ⊥

-- The finding is right: each commit is covered and each hit is fresh; or it names the first
-- commit that isn't covered; or each is covered, and it names the first hit that isn't fresh.
abbrev pub IsFinding : Tables → List Commit → List (List Step) → Finding → Type 0
IsFinding opening log histories Clean = Covered log histories × Fresh opening log histories
IsFinding opening log histories (Uncovered commit key) = IsFirstUncovered log histories commit key
IsFinding opening log histories (Stale shard place) = Covered log histories × IsFirstStale opening log histories shard place
