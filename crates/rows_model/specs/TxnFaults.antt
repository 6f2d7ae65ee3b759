use Rattle.std.specs.Prelude.{ℕ, ◌≡◌, ◌≤◌, ◌<◌, ◌⊎◌, List, length}
use Rattle.rows_model.specs.declared.changes.Change.{Change}
use Rattle.rows_model.specs.declared.refusals.TxnFault.{TxnFault}
use Rattle.rows_model.specs.declared.refusals.TxnFault.TheVariants.{Length, Memory}

-- so many changes make no transaction
abbrev pub IsBadLength : ℕ → Type 0
IsBadLength count = (count < 1) ⊎ (8 < count)

-- these changes are refused for this cause
abbrev pub ComesFrom : List Change → TxnFault → Type 0
ComesFrom changes (Length count) = (count ≡ length changes) × IsBadLength count
ComesFrom changes Memory = (1 ≤ length changes) × (length changes ≤ 8)
