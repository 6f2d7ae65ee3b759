-- What holds of each key of a shard, by what the pass beside it has seen.
use Rattle.std.specs.Prelude.{ℕ, ◌≡◌, ◌⊎◌, ◌<◌, true, false, Bool, List, [], ◌++◌, Option, None, Some, option_map}
use Rattle.std.specs.List.{list_any}
use Rattle.rows_model.specs.declared.keys.QKey.{QKey}
use Rattle.rows_model.specs.Rows.{Tables}
use Rattle.rows_model.specs.Query as query
use Rattle.key_shard.specs.declared.steps.Step.{Step}
use Rattle.key_shard.specs.Past.{Terms, entry, standing, recorded, grants, next_token}
use Rattle.key_shard.specs.Permit.{Permit}
use Rattle.sql_keeper.specs.declared.stores.Commit.{Commit}
use Rattle.sql_keeper.specs.Log.{rows_after}
use Rattle.log_word.specs.declared.seen.Seen.{Seen}
use Rattle.key_freshness.specs.Marks.{marks_of}
use Rattle.key_freshness.specs.Held.{IsTied, IsEntryHeld, IsEntryRight}
use Rattle.bound_hub.specs.Knowns.{commits_of, known_of}

-- The answer to a key after some commits on these opening rows.
abbrev pub answer_after : Tables → QKey → List Commit → List ℕ
answer_after opening key log = query.answer key (rows_after opening log)

-- The stamp of an entry, if there is one.
abbrev pub stamp_of : Option (List ℕ × ℕ) → Option ℕ
stamp_of found = option_map (λ entry. entry.1) found

-- What holds of a key, where its shard made these steps before the hub was and these since: marks and
-- what stands belong together, the entry is held by what is known, and it is right, unless it is known
-- that the store has stopped telling its rows.
pub record HoldsFacts (opening : Tables) (before more : List Step) (seen : Seen) (key : QKey) : Type 0 where
  pub tied : IsTied (marks_of key more) (stamp_of (entry key before)) (standing key (more ++ before)) (entry key (more ++ before))
  pub held : IsEntryHeld key (marks_of key more) (known_of seen.events) (entry key (more ++ before))
  pub right : seen.stopped ≡ false
      → IsEntryRight (answer_after opening key) (commits_of seen.events) (entry key (more ++ before))

-- The entry that a key has at first, if it has one, is of stamp 0. Where the store tells its rows, it is
-- the key's answer on the opening rows.
abbrev pub IsFirst : Tables → Bool → QKey → Option (List ℕ × ℕ) → Type 0
IsFirst opening stopped key None = Unit {0}
IsFirst opening stopped key (Some found) =
    (found.1 ≡ 0) × (stopped ≡ false → found.0 ≡ query.answer key opening)

-- No quarantine stands after these steps, and no lease to read is recorded.
abbrev pub IsQuiet : List Step → Type 0
IsQuiet past = (key : QKey) → (standing key past ≡ []) × (recorded key past ≡ None)

-- Each entry after these steps is of stamp 0.
abbrev pub AreOfStampZero : List Step → Type 0
AreOfStampZero past = (key : QKey) (stamp : ℕ) → stamp_of (entry key past) ≡ Some stamp → stamp ≡ 0

-- The quarantine of which the permit speaks was granted by one of the later steps, or its token was drawn
-- by those before.
abbrev pub WasGrantedOr : Terms → List Step → List Step → Permit → Type 0
WasGrantedOr terms before more permit =
    (list_any (grants permit) more ≡ true) ⊎ (permit.token < next_token terms before)
