use Rattle.std.specs.Prelude.{◌≡◌, List, All, Some, Ok}
use Rattle.rows_model.specs.declared.keys.QKey.{QKey}
use Rattle.rows_model.specs.declared.changes.Change.{Change}
use Rattle.rows_model.specs.Rows.{Tables, Fit}
use Rattle.rows_model.specs.Query.{answer}
use Rattle.rows_model.specs.Changes.{HasIds, apply_all}
use Rattle.rows_model.specs.Refresh.{refreshed}

-- the answer before changes that apply to fit tables, refreshed by them, is the answer after them
abbrev pub RefreshIsAnswer : Type 0
RefreshIsAnswer =
    (key : QKey) (changes : List Change) (before after : Tables) → Fit before → All HasIds changes
    → apply_all changes before ≡ Ok after → refreshed key (answer key before) changes ≡ Some (answer key after)
