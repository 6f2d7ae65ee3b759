-- What the calls of a store make of its ledger, and what none of them does.
use Rattle.std.specs.Prelude.{◌≡◌, ◌≤◌, Bool, false, List, length}
use Rattle.rows_model.specs.declared.keys.Sid.{Sid}
use Rattle.rows_model.specs.declared.changes.Change.{Change}
use Rattle.sql_keeper.specs.Sessions.{is_open}
use Rattle.sql_keeper.specs.Stores.{Ledger, with_session, with_end, with_commit, with_call}

-- a call of a store: a session begins, or is ended, or commits, or the keeper is asked and fails or doesn't
pub data Move : Type 0 where
  Begin : (writes : Bool) → Move
  End : (who : Sid) → Move
  Commit : (who : Sid) (txn : List Change) → Move
  Call : (failed : Bool) → Move

-- the ledger after a call
abbrev pub moved : Move → Ledger → Ledger
moved (Begin writes) ledger = with_session writes ledger
moved (End who) ledger = with_end who ledger
moved (Commit who txn) ledger = with_commit who txn ledger
moved (Call failed) ledger = with_call failed ledger

-- a session that has begun and isn't open is never open again, whatever is called
abbrev pub ClosedStaysClosed : Type 0
ClosedStaysClosed =
    (ledger : Ledger) (move : Move) (who : Sid) → who.number ≤ length ledger.sessions → is_open who ledger.sessions ≡ false
    → is_open who (moved move ledger).sessions ≡ false
