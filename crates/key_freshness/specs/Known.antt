-- What is known of the store, and how it grows.
use Rattle.std.specs.Prelude.{ℕ, ◌≡◌, ◌⊎◌, ◌≤◌, List, [], ◌∷◌, ◌++◌, Some, length, slice_get, true}
use Rattle.rows_model.specs.declared.keys.QKey.{QKey}
use Rattle.rows_model.specs.Changes.{touches}
use Rattle.sql_keeper.specs.declared.stores.Commit.{Commit}
use Rattle.key_freshness.specs.Marks.{Mark, Granted, Ended, Wrote, Has}

-- What is known of a store: its log so far, the earliest commit first, and the numbers of the sessions that were ended without a commit.
pub record Known : Type 0 where
  pub log : List Commit
  pub ended : List ℕ

-- The number is among these.
abbrev pub IsAmong : ℕ → List ℕ → Type 0
IsAmong number [] = ⊥
IsAmong number (first ∷ numbers) = (first ≡ number) ⊎ IsAmong number numbers

-- The commit stands at this place of the log, from 0.
abbrev pub StandsAt : List Commit → ℕ → Commit → Type 0
StandsAt log place commit = slice_get log place ≡ Some commit

-- The session committed.
pub record IsLogged (log : List Commit) (who : ℕ) : Type 0 where
  pub place : ℕ
  pub commit : Commit
  pub at : StandsAt log place commit
  pub own : commit.sid.number ≡ who

-- The session is over: it committed, or was ended without a commit.
abbrev pub IsOver : Known → ℕ → Type 0
IsOver known who = IsLogged known.log who ⊎ IsAmong who known.ended

-- More is known: the log goes on from the old one, and no ended session is lost.
pub record IsMore (old new : Known) : Type 0 where
  pub more : List Commit
  pub goes_on : new.log ≡ old.log ++ more
  pub kept : (who : ℕ) → IsAmong who old.ended → IsAmong who new.ended

-- The session was granted a quarantine of the key.
pub record WasGranted (marks : List Mark) (who : ℕ) : Type 0 where
  pub token : ℕ
  pub mark : Has (Granted who token) marks

-- The rule of a key's marks and of what is known of the store.
pub record IsRuled (key : QKey) (marks : List Mark) (known : Known) : Type 0 where
  -- each session one of whose quarantines ended is over
  pub over : (who token : ℕ) → Has (Ended who token) marks → IsOver known who
  -- a session is in the log once
  pub once : (i j : ℕ) (a b : Commit) → StandsAt known.log i a → StandsAt known.log j b → a.sid.number ≡ b.sid.number → i ≡ j
  -- no session of the log was ended
  pub apart : (place : ℕ) (commit : Commit) → StandsAt known.log place commit → IsAmong commit.sid.number known.ended → ⊥
  -- each commit that touches the key was granted a quarantine of it
  pub covered : (place : ℕ) (commit : Commit) → StandsAt known.log place commit → touches commit.txn key ≡ true → WasGranted marks commit.sid.number
  -- no stamp that was written is above the number of commits
  pub wrote : (stamp : ℕ) → Has (Wrote stamp) marks → stamp ≤ length known.log
