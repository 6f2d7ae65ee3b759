use Rattle.std.specs.Prelude.{◌≡◌, List, Ok, Err}
use Rattle.rows_model.specs.declared.changes.Change.{Change}
use Rattle.rows_model.specs.declared.refusals.ApplyFault.{ApplyFault}
use Rattle.rows_model.specs.declared.refusals.ApplyFault.TheVariants.{Rejected, Memory}
use Rattle.rows_model.specs.Rows.{Tables}
use Rattle.rows_model.specs.Changes.{apply_all}

-- a fault that names a place names that of the first change that doesn't apply
abbrev pub IsRejection : List Change → Tables → ApplyFault → Type 0
IsRejection changes tables (Rejected index) = apply_all changes tables ≡ Err index
IsRejection changes tables Memory = Unit {0}

-- each of these changes applies in its turn
abbrev pub AllApply : List Change → Tables → Type 0
AllApply changes tables = (after : Tables) × (apply_all changes tables ≡ Ok after)
