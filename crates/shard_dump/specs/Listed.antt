-- What a list of rows keeps beside it: the set of their keys.
use Rattle.std.specs.Prelude.{◌≡◌, Bool, List}
use Rattle.std.specs.List.{list_any}
use Rattle.std.specs.BTreeSet.{BTreeSet, contains}
use Rattle.rows_model.specs.declared.keys.QKey.{QKey}
use Rattle.rows_model.specs.Key.{same_key}
use Rattle.lease_table.specs.Standing.{key_cmp}
use Rattle.shard_dump.specs.declared.rows.DumpRow.{DumpRow}

-- whether one of the rows has this key
abbrev pub has_row : QKey → List DumpRow → Bool
has_row key rows = list_any (λ row. same_key key row.key) rows

-- the set has the keys of the rows
abbrev pub AreKeysOf : List DumpRow → BTreeSet QKey → Type 0
AreKeysOf rows keys = (key : QKey) → contains key_cmp keys key ≡ has_row key rows
