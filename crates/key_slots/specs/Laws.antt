-- What follows for each key and each slot.
use Rattle.std.specs.Prelude.{ℕ, ◌≡◌, ◌≤◌, ◌↔◌, if◌then◌else◌, ◌==◌, List, length, Some, None}
use Rattle.key_slots.specs.Slots.{Slots, IsSound, is_same, is_held, slot_of, key_of, with_key, without_key}

-- A slot is the key's exactly where the key has that slot.
abbrev pub EachSlotIsOneKeys : Type 0
EachSlotIsOneKeys =
    (slots : Slots) → IsSound slots → (key : List ℕ) (slot : ℕ)
    → (slot_of slots key ≡ Some slot) ↔ (key_of slots slot ≡ Some key)

-- A slot that is given is the key's, and each other key and slot has what it had.
pub record IsGiven (slots : Slots) (slot : ℕ) (key : List ℕ) : Type 0 where
  pub keys : (other : ℕ) → key_of (with_key slots slot key) other ≡ (if other == slot then Some key else key_of slots other)
  pub places : (other : List ℕ) → slot_of (with_key slots slot key) other ≡ (if is_same key other then Some slot else slot_of slots other)

abbrev pub GivenSlotsAreOneKeys : Type 0
GivenSlotsAreOneKeys =
    (slots : Slots) (slot : ℕ) (key : List ℕ) → IsSound slots → slot ≤ length slots.holders
    → key_of slots slot ≡ None → slot_of slots key ≡ None → IsGiven slots slot key

-- A slot that is freed is nobody's, its key has none, and each other key and slot has what it had.
pub record IsFreed (slots : Slots) (slot : ℕ) : Type 0 where
  pub keys : (other : ℕ) → key_of (without_key slots slot) other ≡ (if other == slot then None else key_of slots other)
  pub places : (other : List ℕ) → slot_of (without_key slots slot) other ≡ (if is_held other (key_of slots slot) then None else slot_of slots other)

abbrev pub FreedSlotsAreNobodys : Type 0
FreedSlotsAreNobodys = (slots : Slots) (slot : ℕ) → IsSound slots → IsFreed slots slot
