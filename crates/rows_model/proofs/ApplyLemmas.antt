-- Changes in turn, from the first of a transaction on.
use Rattle.std.proofs.Common.{◌≡◌, List, refl}
use Rattle.rows_model.specs.declared.changes.Change.{Change}
use Rattle.rows_model.specs.Rows.{Tables}
use Rattle.rows_model.specs.Changes.{apply_from, apply_all}

-- the changes in turn, spelled out
pub apply_all_is : (changes : List Change) (tables : Tables) → apply_all changes tables ≡ apply_from 0 changes tables
unfolding apply_all
apply_all_is changes tables = refl
