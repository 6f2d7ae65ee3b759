-- The entries of the plain map: its items by their keys, in no order.
use Rattle.std.specs.Prelude.{ℕ, ◌+◌, Bool, ◌&&◌, nat_eq, nat_le, List, ◌∷◌, length, Option, option_map}
use Rattle.std.specs.List.{filter_map, sum_by}
use Rattle.std.specs.Cmp.Lexicographic.{pointwise}
use Rattle.std.specs.Map.{lookup, remove_entry}
use Rattle.mc_text.specs.declared.plain_replies.Found.{Found}
use Rattle.plain_ops.specs.declared.items.Item.{Item}

-- whether two keys are the same bytes
abbrev pub is_same : List ℕ → List ℕ → Bool
is_same key other = pointwise nat_eq key other

-- an item of these flags, this value and this unique
abbrev pub item_of : ℕ → List ℕ → ℕ → Item
item_of flags value unique = record { flags = flags; value = value; unique = unique }

-- the item that a key has
abbrev pub item_at : List (List ℕ × Item) → List ℕ → Option Item
item_at entries key = lookup (is_same key) entries

-- the entries without that of a key
abbrev pub without : List (List ℕ × Item) → List ℕ → List (List ℕ × Item)
without entries key = remove_entry (is_same key) entries

-- the entries with this item at a key, whatever the key had
abbrev pub with_item : List (List ℕ × Item) → List ℕ → Item → List (List ℕ × Item)
with_item entries key item = (key, item) ∷ without entries key

-- how many bytes the key and the value of an entry have together
abbrev pub size_of : List ℕ × Item → ℕ
size_of entry = length entry.0 + length entry.1.value

-- how many bytes all keys and values have together
abbrev pub bytes_in : List (List ℕ × Item) → ℕ
bytes_in entries = sum_by size_of entries

-- whether there are no more keys and no more bytes than there may be
abbrev pub is_fit : List (List ℕ × Item) → Bool
is_fit entries = nat_le (length entries) 65536 && nat_le (bytes_in entries) 268435456

-- what is told of the item of a key
abbrev pub told_of : List ℕ → Item → Found
told_of key item = record { key = key; flags = item.flags; value = item.value; unique = item.unique }

-- what is told of some keys, in their order: a key that has no item is passed over
abbrev pub found_in : List (List ℕ × Item) → List (List ℕ) → List Found
found_in entries keys = filter_map (λ key. option_map (told_of key) (item_at entries key)) keys
