-- How slots are kept in memory: a map from keys to slots, who has each slot, and the slots that were freed.
use Rattle.std.specs.Prelude.{ℕ, ◌≡◌, ◌≤◌, ◌<◌, ◌+◌, ◌^◌, ◌↔◌, nat_eq, Vec, List, [], length, count_by, Option, Some, None, is_some, slice_index_or}
use Rattle.std.specs.Map.{lookup}
use Rattle.key_slots.specs.Slots.{IsSlotKey, is_same, holder_at}

-- the slot that the map has for a key
abbrev pub found_at : {A : Type 0} → List ℕ → List (Vec ℕ A × ℕ) → Option ℕ
found_at key entries = lookup (λ name. is_same key name.items) entries

-- how often a slot was freed, by who has it: once where nobody has it
abbrev pub vacancy : Option (List ℕ) → ℕ
vacancy None = 1
vacancy (Some key) = 0

-- how often a slot has to stand among the freed ones: a slot that no key has had yet doesn't
abbrev pub vacancy_at : List (Option (List ℕ)) → ℕ → ℕ
vacancy_at holders slot = vacancy (slice_index_or holders slot (Some []))

-- The map has the keys that have a slot, each with its own. The freed slots are those that nobody has, each once, and there is room for all slots
-- among them.
pub record IsKept {A : Type 0} (room : ℕ) (places : List (Vec ℕ A × ℕ)) (holders : List (Option (List ℕ))) (free : List ℕ) (cap : ℕ) : Type 0 where
  pub agree : (key : List ℕ) (slot : ℕ) → (found_at key places ≡ Some slot) ↔ (holder_at holders slot ≡ Some key)
  pub fit : (key : List ℕ) (slot : ℕ) → holder_at holders slot ≡ Some key → IsSlotKey key
  pub freed : (slot : ℕ) → count_by (nat_eq slot) free ≡ vacancy_at holders slot
  pub counted : length free + count_by is_some holders ≡ length holders
  pub within : length holders ≤ room
  pub spare : length holders ≤ cap
  pub low : room < 2 ^ 32
