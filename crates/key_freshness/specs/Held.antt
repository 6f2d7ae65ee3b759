-- When an entry of a key is held, and what ties marks to what a shard holds.
use Rattle.std.specs.Prelude.{ℕ, ◌≡◌, ◌⊎◌, ◌+◌, ◌≤◌, ◌<◌, Bool, true, false, ◌==◌, ◌&&◌, List, take, length, Option, None, Some}
use Rattle.std.specs.List.{list_any}
use Rattle.rows_model.specs.declared.keys.QKey.{QKey}
use Rattle.rows_model.specs.declared.changes.Change.{Change}
use Rattle.rows_model.specs.Changes.{touches}
use Rattle.lease_table.specs.declared.records.Quar.{Quar}
use Rattle.sql_keeper.specs.declared.stores.Commit.{Commit}
use Rattle.key_freshness.specs.Marks.{Mark, Granted, Ended, Has, HasEnded, last_wrote}
use Rattle.key_freshness.specs.Known.{Known, StandsAt}

-- An entry of this stamp is held: the stamp is a number of known commits, and of the commits on the key exactly those before the
-- stamp have ended a quarantine there.
pub record IsHeld (key : QKey) (marks : List Mark) (known : Known) (stamp : ℕ) : Type 0 where
  pub within : stamp ≤ length known.log
  pub pending : (place : ℕ) (commit : Commit) (token : ℕ) → StandsAt known.log place commit → stamp ≤ place
      → touches commit.txn key ≡ true → Has (Ended commit.sid.number token) marks → ⊥
  pub settled : (place : ℕ) (commit : Commit) → StandsAt known.log place commit → place < stamp
      → touches commit.txn key ≡ true → HasEnded marks commit.sid.number

-- The value is the answer to the key after as many commits as the stamp says. The answer after some commits is a parameter.
abbrev pub IsRight : (List Commit → List ℕ) → List Commit → List ℕ → ℕ → Type 0
IsRight answer log value stamp = value ≡ answer (take stamp log)

-- What is asked of the answers: a commit that doesn't touch the key leaves them.
abbrev pub LeavesUntouched : QKey → (List Commit → List ℕ) → List Commit → Type 0
LeavesUntouched key answer log =
    (place : ℕ) (commit : Commit) → StandsAt log place commit → touches commit.txn key ≡ false
    → answer (take (place + 1) log) ≡ answer (take place log)

-- And: from the answer before a commit its own changes make the one after it.
abbrev pub MakesNext : (List Change → List ℕ → Option (List ℕ)) → (List Commit → List ℕ) → List Commit → Type 0
MakesNext next answer log =
    (place : ℕ) (commit : Commit) → StandsAt log place commit
    → next commit.txn (answer (take place log)) ≡ Some (answer (take (place + 1) log))

-- The entry of a key, if it has one, is held.
abbrev pub IsEntryHeld : QKey → List Mark → Known → Option (List ℕ × ℕ) → Type 0
IsEntryHeld key marks known None = Unit {0}
IsEntryHeld key marks known (Some found) = IsHeld key marks known found.1

-- The entry of a key, if it has one, is right.
abbrev pub IsEntryRight : (List Commit → List ℕ) → List Commit → Option (List ℕ × ℕ) → Type 0
IsEntryRight answer log None = Unit {0}
IsEntryRight answer log (Some found) = IsRight answer log found.0 found.1

-- Whether a quarantine of this session and token stands among these.
abbrev pub stands_as : ℕ → ℕ → List Quar → Bool
stands_as who token quars = list_any (λ quar. (quar.sid.number == who) && (quar.token == token)) quars

-- An entry has the stamp that was written last.
abbrev pub IsStamped : List Mark → Option ℕ → Option (List ℕ × ℕ) → Type 0
IsStamped marks start None = Unit {0}
IsStamped marks start (Some found) = last_wrote marks start ≡ Some found.1

-- Marks and what a shard holds of the key belong together: each quarantine that was granted
-- stands or has ended, and the entry has the stamp that was written last, or the one at the start.
pub record IsTied (marks : List Mark) (start : Option ℕ) (quars : List Quar) (found : Option (List ℕ × ℕ)) : Type 0 where
  pub granted : (who token : ℕ) → Has (Granted who token) marks → (stands_as who token quars ≡ true) ⊎ Has (Ended who token) marks
  pub stamped : IsStamped marks start found
