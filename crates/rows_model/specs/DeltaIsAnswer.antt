use Rattle.std.specs.Prelude.{◌≡◌, true, List, All, Some, Ok, option_map, decimal}
use Rattle.rows_model.specs.declared.keys.QKey.{QKey}
use Rattle.rows_model.specs.declared.changes.Change.{Change}
use Rattle.rows_model.specs.Rows.{Tables, Fit}
use Rattle.rows_model.specs.Query.{answer}
use Rattle.rows_model.specs.Changes.{HasIds, apply_all}
use Rattle.rows_model.specs.Shift.{shifted}
use Rattle.rows_model.specs.Delta.{is_count, delta_of}

-- The count that answers a key before changes that apply to fit tables, shifted by what they add, is the answer after them.
abbrev pub DeltaIsAnswer : Type 0
DeltaIsAnswer =
    (key : QKey) (changes : List Change) (before after : Tables) → is_count key ≡ true → Fit before → All HasIds changes
    → apply_all changes before ≡ Ok after
    → option_map decimal (shifted (answer key before) (delta_of key changes)) ≡ Some (answer key after)
