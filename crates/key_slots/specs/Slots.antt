-- Which key has which slot.
use Rattle.std.specs.Prelude.{ℕ, ◌≡◌, ◌+◌, ◌≤◌, Bool, false, nat_eq, nat_lt, if◌then◌else◌, List, [], ◌∷◌, ◌++◌, length, count_by, Option, Some, None, is_some, option_map, slice_index_or, slice_set}
use Rattle.std.specs.Cmp.Lexicographic.{pointwise}

-- How many slots there may be, and who has each slot from 0 on: a key, or nobody. Nobody has a slot behind the last.
pub record Slots : Type 0 where
  pub room : ℕ
  pub holders : List (Option (List ℕ))

-- a key that may have a slot: 1 to 250 bytes
pub record IsSlotKey (key : List ℕ) : Type 0 where
  pub some : 1 ≤ length key
  pub short : length key ≤ 250

-- whether two keys are the same bytes
abbrev pub is_same : List ℕ → List ℕ → Bool
is_same key other = pointwise nat_eq key other

-- who has a slot
abbrev pub holder_at : List (Option (List ℕ)) → ℕ → Option (List ℕ)
holder_at holders slot = slice_index_or holders slot None

-- whether a slot is the key's, by who has it
abbrev pub is_held : List ℕ → Option (List ℕ) → Bool
is_held key None = false
is_held key (Some other) = is_same key other

-- the first slot that is a key's
abbrev pub place_of : List ℕ → List (Option (List ℕ)) → Option ℕ
place_of key [] = None
place_of key (holder ∷ holders) =
    if is_held key holder then Some 0 else option_map (λ slot. slot + 1) (place_of key holders)

-- the key that has a slot
abbrev pub key_of : Slots → ℕ → Option (List ℕ)
key_of slots slot = holder_at slots.holders slot

-- the slot of a key
abbrev pub slot_of : Slots → List ℕ → Option ℕ
slot_of slots key = place_of key slots.holders

-- how many slots have a key
abbrev pub taken : Slots → ℕ
taken slots = count_by is_some slots.holders

-- who has each slot, once this one is the key's
abbrev pub held_with : List (Option (List ℕ)) → ℕ → List ℕ → List (Option (List ℕ))
held_with holders slot key =
    if nat_lt slot (length holders) then slice_set holders slot (Some key) else holders ++ Some key ∷ []

-- the slots, once this one is the key's
abbrev pub with_key : Slots → ℕ → List ℕ → Slots
with_key slots slot key = record slots { holders = held_with slots.holders slot key }

-- the slots, once this one is nobody's
abbrev pub without_key : Slots → ℕ → Slots
without_key slots slot = record slots { holders = slice_set slots.holders slot None }

-- no key has two slots
abbrev pub EachOnce : List (Option (List ℕ)) → Type 0
EachOnce holders = (key : List ℕ) (slot other : ℕ) → holder_at holders slot ≡ Some key → holder_at holders other ≡ Some key → slot ≡ other

-- no key has two slots, each key may have one, and each slot is below the room
pub record IsSound (slots : Slots) : Type 0 where
  pub once : EachOnce slots.holders
  pub fit : (key : List ℕ) (slot : ℕ) → key_of slots slot ≡ Some key → IsSlotKey key
  pub within : length slots.holders ≤ slots.room
