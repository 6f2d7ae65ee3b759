use Rattle.std.specs.Prelude.{◌≡◌, ℕ, ◌≤◌, Bool, Option, Some, None, option_map, List, [], ◌∷◌, length, map, filter, not, find, if◌then◌else◌}
use Rattle.rows_model.specs.declared.keys.QKey.{QKey}
use Rattle.rows_model.specs.Key.{same_key}

-- an entry: its key, the bytes of its value, and its stamp
abbrev pub Item : Type 0
Item = QKey × List ℕ × ℕ

-- whether an entry has this key
abbrev pub has_key : QKey → Item → Bool
has_key key e = same_key e.0 key

-- the value and the stamp of the entry of a key
unfoldable pub lookup : QKey → List Item → Option (List ℕ × ℕ)
lookup key list = option_map (λ e. (e.1, e.2)) (find (has_key key) list)

-- the list less the entry of a key
unfoldable pub without : QKey → List Item → List Item
without key list = filter (λ e. not (has_key key e)) list

-- the list with another value and stamp for a key, in the place of its entry
unfoldable pub replaced : QKey → List ℕ → ℕ → List Item → List Item
replaced key value stamp list = map (λ e. if has_key key e then (e.0, value, stamp) else e) list

-- the keys of the entries, in their order
unfoldable pub keys : List Item → List QKey
keys list = map (λ e. e.0) list

-- no two entries have one key: none has its key again behind it
abbrev pub DistinctKeys : List Item → Type 0
DistinctKeys [] = Unit {0}
DistinctKeys (e ∷ behind) = (lookup e.0 behind ≡ None) × DistinctKeys behind

-- a table: how many entries it has room for, and its entries, most recent first
pub record Table : Type 0 where
  pub room : ℕ
  pub list : List Item

-- there is room for an entry, no more entries than room, and no two of one key
pub record IsSound (table : Table) : Type 0 where
  pub roomy : 1 ≤ table.room
  pub within : length table.list ≤ table.room
  pub distinct : DistinctKeys table.list

-- the table with its entry of a key brought to the front, or as it is where it has none
unfoldable pub promoted : QKey → Table → Table
promoted key table = in_front (lookup key table.list)
  where
    in_front : Option (List ℕ × ℕ) → Table
    in_front None = table
    in_front (Some found) = record table { list = (key, found.0, found.1) ∷ without key table.list }
