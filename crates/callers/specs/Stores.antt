-- What is said of a store to who calls it.
use Rattle.std.specs.Prelude.{◌≡◌, ◌≤◌, true, false, List, length, fold}
use Rattle.rows_model.specs.declared.keys.QKey.{QKey}
use Rattle.rows_model.specs.declared.keys.Sid.{Sid}
use Rattle.rows_model.specs.declared.changes.Change.{Change}
use Rattle.rows_model.specs.Changes.{touches}
use Rattle.key_shard.specs.Permit.{Permit}
use Rattle.sql_keeper.specs.Commits.{is_covered}
use Rattle.sql_keeper.specs.Sessions.{is_open}
use Rattle.sql_keeper.specs.Stores.{Ledger}
use Rattle.sql_keeper.specs.Moves.{Move, moved}

-- The ledger after these calls, the earliest first.
abbrev pub after_moves : Ledger → List Move → Ledger
after_moves ledger moves = fold (λ so_far move. moved move so_far) ledger moves

-- A session that has begun and isn't open isn't open after any calls.
abbrev pub NeverOpensAgain : Type 0
NeverOpensAgain =
    (ledger : Ledger) (moves : List Move) (who : Sid) → who.number ≤ length ledger.sessions → is_open who ledger.sessions ≡ false
    → is_open who (after_moves ledger moves).sessions ≡ false

-- On each key that the transaction touches one of the grants is the session's.
abbrev pub AreCovered : Sid → List Permit → List Change → Type 0
AreCovered who grants txn = (key : QKey) → touches txn key ≡ true → is_covered who grants key ≡ true
