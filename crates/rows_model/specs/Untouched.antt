use Rattle.std.specs.Prelude.{◌≡◌, false, List, Ok}
use Rattle.rows_model.specs.declared.keys.QKey.{QKey}
use Rattle.rows_model.specs.declared.changes.Change.{Change}
use Rattle.rows_model.specs.Rows.{Tables, Fit}
use Rattle.rows_model.specs.Query.{answer}
use Rattle.rows_model.specs.Changes.{apply_all, touches}

-- a key that changes don't touch has one answer before and after them, on fit tables where they apply
abbrev pub UntouchedKeepsItsAnswer : Type 0
UntouchedKeepsItsAnswer =
    (changes : List Change) (key : QKey) (tables after : Tables)
    → Fit tables → apply_all changes tables ≡ Ok after → touches changes key ≡ false → answer key after ≡ answer key tables
