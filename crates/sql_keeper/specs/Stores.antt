-- What contracts see of a store, and what becomes of it.
use Rattle.std.specs.Prelude.{ℕ, ◌≡◌, ◌≢◌, ◌≤◌, Bool, true, false, List, [], ◌∷◌, ◌++◌, length, map, All, AllPairs, Option, Some, None, Err}
use Rattle.iq_outside.specs.Outside.{count_up}
use Rattle.rows_model.specs.declared.keys.Sid.{Sid}
use Rattle.rows_model.specs.declared.changes.Change.{Change}
use Rattle.rows_model.specs.Rows.{Tables}
use Rattle.rows_model.specs.Changes.{apply_all}
use Rattle.sql_keeper.specs.declared.faults.CommitFault.{CommitFault}
use Rattle.sql_keeper.specs.declared.faults.CommitFault.TheVariants as faults
use Rattle.sql_keeper.specs.declared.stores.Commit.{Commit}
use Rattle.sql_keeper.specs.declared.stores.Phase.{Phase}
use Rattle.sql_keeper.specs.declared.stores.Phase.TheVariants.{Committed}
use Rattle.key_shard.specs.Permit.{Permit}
use Rattle.sql_keeper.specs.Log.{rows_after}
use Rattle.sql_keeper.specs.Sessions.{phase_of, is_open, with_begun, ended, closed, with_phase}
use Rattle.sql_keeper.specs.Commits.{commit_fault}

-- what a store itself knows: the rows that its keeper started with, the commits so far, where
-- each session stands, how many commits there may be, and how many calls of the keeper failed
pub record Ledger : Type 0 where
  pub opening : Tables
  pub log : List Commit
  pub sessions : List Phase
  pub cap : ℕ
  pub failed : ℕ

-- a store: its ledger, and of its keeper the rows, where it tells them, and the count of faults
pub record StoreView : Type 0 where
  pub ledger : Ledger
  pub known_rows : Option Tables
  pub faults : ℕ

-- the log of a ledger: it is no longer than it may be, each of its sessions has committed, and none did so twice
pub record IsLedger (ledger : Ledger) : Type 0 where
  pub few : length ledger.log ≤ ledger.cap
  pub committed : All (λ commit. phase_of commit.sid ledger.sessions ≡ Some Committed) ledger.log
  pub once : AllPairs (λ commit later. commit.sid.number ≢ later.sid.number) ledger.log

-- the rows after the log of a ledger
abbrev pub rows_of : Ledger → Tables
rows_of ledger = rows_after ledger.opening ledger.log

-- why a ledger refuses a commit before the keeper is asked, if it does
abbrev pub first_fault : Ledger → Sid → List Permit → List Change → Option CommitFault
first_fault ledger who grants txn = commit_fault (is_open who ledger.sessions) who grants txn (length ledger.log) ledger.cap

-- the ledger of a new store
abbrev pub opened : Tables → ℕ → Ledger
opened opening cap = record { opening = opening; log = []; sessions = []; cap = cap; failed = 0 }

-- the ledger after a session began
abbrev pub with_session : Bool → Ledger → Ledger
with_session writes ledger =
    record { opening = ledger.opening; log = ledger.log; sessions = with_begun writes ledger.sessions; cap = ledger.cap; failed = ledger.failed }

-- the ledger after a session was ended, where it was open
abbrev pub with_end : Sid → Ledger → Ledger
with_end who ledger =
    record { opening = ledger.opening; log = ledger.log; sessions = ended who ledger.sessions; cap = ledger.cap; failed = ledger.failed }

-- the ledger after a commit
abbrev pub with_commit : Sid → List Change → Ledger → Ledger
with_commit who txn ledger = record {
  opening = ledger.opening;
  log = ledger.log ++ record { sid = who; txn = txn } ∷ [];
  sessions = with_phase who Committed ledger.sessions;
  cap = ledger.cap;
  failed = ledger.failed;
}

-- the ledger after a call of the keeper, which failed or didn't
abbrev pub with_call : Bool → Ledger → Ledger
with_call true ledger =
    record { opening = ledger.opening; log = ledger.log; sessions = ledger.sessions; cap = ledger.cap; failed = count_up ledger.failed }
with_call false ledger = ledger

-- the ledger of a store that is made anew over the rows after the log: no commit is in its log, and no session is open
abbrev pub rebased : Ledger → Ledger
rebased ledger =
    record { opening = rows_of ledger; log = []; sessions = map closed ledger.sessions; cap = ledger.cap; failed = ledger.failed }

-- A commit is refused for this fault: for the first that is found before the keeper is asked; where
-- there is none, for one of the keeper's. Memory may run out instead, but for a session that isn't open.
abbrev pub IsRefusal : Option CommitFault → CommitFault → Type 0
IsRefusal first faults.Memory = first ≢ Some faults.Ended
IsRefusal (Some fault) refused = refused ≡ fault
IsRefusal None (faults.Rejected index) = Unit {0}
IsRefusal None faults.KeepFault = Unit {0}
IsRefusal None other = ⊥

-- a fault of a commit that names a place names that of the first change that doesn't apply
abbrev pub IsTrueFault : List Change → Tables → CommitFault → Type 0
IsTrueFault txn rows (faults.Rejected index) = apply_all txn rows ≡ Err index
IsTrueFault txn rows other = Unit {0}
