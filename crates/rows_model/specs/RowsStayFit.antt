use Rattle.std.specs.Prelude.{◌≡◌, List, All, Ok}
use Rattle.rows_model.specs.declared.changes.Change.{Change}
use Rattle.rows_model.specs.Rows.{Tables, Fit}
use Rattle.rows_model.specs.Changes.{HasIds, apply_all}

-- fit tables are fit after changes that apply
abbrev pub RowsStayFit : Type 0
RowsStayFit =
    (changes : List Change) (tables after : Tables) → Fit tables → All HasIds changes → apply_all changes tables ≡ Ok after → Fit after
