use Rattle.std.specs.Prelude.{List, map, Option, None, Some, if◌then◌else◌}
use Rattle.lru.specs.LruCache.{LruCache}
use Rattle.rows_model.specs.declared.keys.QKey.{QKey}
use Rattle.rows_model.specs.Key.{same_key}
use Rattle.entry_table.specs.declared.table.Held.{Held}
use Rattle.entry_table.specs.Entries.{Item, Table}

-- an entry of the cache as callers see it
abbrev pub held_item : QKey × Held → Item
held_item e = (e.0, e.1.value, e.1.stamp)

-- the entries of the cache as callers see them, in the same order
unfoldable pub shown_all : List (QKey × Held) → List Item
shown_all entries = map held_item entries

-- the cache as callers see it
abbrev pub shown_table : LruCache QKey Held → Table
shown_table cache = record { room = cache.cap; list = shown_all cache.entries }

-- what a full cache dropped for a key, of what `push` answers: that may be the key's own entry too
abbrev pub dropped_for : QKey → Option (QKey × Held) → Option Item
dropped_for key None = None
dropped_for key (Some e) = if same_key e.0 key then None else Some (held_item e)
