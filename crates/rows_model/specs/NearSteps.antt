-- What a call leaves of each list of the index.
use Rattle.std.specs.Prelude.{ℕ, ◌+◌, ◌≤◌, ◌≡◌, true, ◌==◌, ◌&&◌, ◌||◌, if◌then◌else◌, List, length, fold, All, vec_capacity}
use Rattle.std.specs.List.{list_any}
use Rattle.rows_model.specs.declared.near.Near.{Near}
use Rattle.rows_model.specs.declared.changes.Change.{Change}
use Rattle.rows_model.specs.Refresh.{with_id}
use Rattle.rows_model.specs.Near.{names, puts, blocks_by, links_after, near_after, blocked_after}

-- a list of the same member with the same links and blocks
pub record IsSame (one other : Near) : Type 0 where
  pub id : other.id ≡ one.id
  pub links : other.links.items ≡ one.links.items
  pub blocked : other.blocked.items ≡ one.blocked.items

-- the same list, with no less room
pub record IsGrown (one other : Near) : Type 0 where
  pub id : other.id ≡ one.id
  pub links : other.links.items ≡ one.links.items
  pub room : vec_capacity one.links ≤ vec_capacity other.links
  pub blocked : other.blocked.items ≡ one.blocked.items
  pub block_room : vec_capacity one.blocked ≤ vec_capacity other.blocked

-- the list has room for so many more links, if it is that of this member
abbrev pub HasRoomAt : ℕ → ℕ → Near → Type 0
HasRoomAt id more one = one.id ≡ id → length one.links.items + more ≤ vec_capacity one.links

-- the list has room for so many more links, if it is that of one of these two
abbrev pub HasRoomAtBoth : ℕ → ℕ → ℕ → Near → Type 0
HasRoomAtBoth a b more one = ((a == one.id) || (b == one.id)) ≡ true → length one.links.items + more ≤ vec_capacity one.links

-- the list has room for so many more links, if the change puts one there
abbrev pub HasRoomOf : Change → ℕ → Near → Type 0
HasRoomOf change more one = (puts change && names one.id change) ≡ true → length one.links.items + more ≤ vec_capacity one.links

-- the list has room for so many more links, if one of the changes puts one there
abbrev pub HasRoomFor : List Change → ℕ → Near → Type 0
HasRoomFor changes more one =
    list_any (λ change. puts change && names one.id change) changes ≡ true → length one.links.items + more ≤ vec_capacity one.links

-- the list has room for so many more blocks, if it is that of this member
abbrev pub HasBlockRoomAt : ℕ → ℕ → Near → Type 0
HasBlockRoomAt id more one = one.id ≡ id → length one.blocked.items + more ≤ vec_capacity one.blocked

-- the list has room for so many more blocks, if the change puts one there
abbrev pub HasBlockRoomOf : Near → ℕ → Change → Type 0
HasBlockRoomOf one more change = blocks_by one.id change ≡ true → length one.blocked.items + more ≤ vec_capacity one.blocked

-- the list has room for so many more blocks, if one of the changes puts one there
abbrev pub HasBlockRoomFor : List Change → ℕ → Near → Type 0
HasBlockRoomFor changes more one = All (HasBlockRoomOf one more) changes

-- a list after a change was made in that of this member
pub record IsMadeAt (member : ℕ) (change : Change) (one other : Near) : Type 0 where
  pub id : other.id ≡ one.id
  pub links : other.links.items ≡ (if one.id == member then links_after one.links.items change else one.links.items)
  pub room : vec_capacity other.links ≡ vec_capacity one.links
  pub blocked : other.blocked ≡ one.blocked

-- a list after a change was made in those of these two
pub record IsMadeAtBoth (a b : ℕ) (change : Change) (one other : Near) : Type 0 where
  pub id : other.id ≡ one.id
  pub links : other.links.items ≡ (if (a == one.id) || (b == one.id) then links_after one.links.items change else one.links.items)
  pub room : vec_capacity other.links ≡ vec_capacity one.links
  pub blocked : other.blocked ≡ one.blocked

-- a list after this id was put in that of this member, as of one blocked
pub record IsBarredAt (member new : ℕ) (one other : Near) : Type 0 where
  pub id : other.id ≡ one.id
  pub blocked : other.blocked.items ≡ (if member == one.id then with_id new one.blocked.items else one.blocked.items)
  pub block_room : vec_capacity other.blocked ≡ vec_capacity one.blocked
  pub links : other.links ≡ one.links

-- a list after a change
pub record IsMade (change : Change) (one other : Near) : Type 0 where
  pub id : other.id ≡ one.id
  pub links : other.links.items ≡ near_after one.id one.links.items change
  pub room : vec_capacity other.links ≡ vec_capacity one.links
  pub blocked : other.blocked.items ≡ blocked_after one.id one.blocked.items change
  pub block_room : vec_capacity other.blocked ≡ vec_capacity one.blocked

-- a list after changes in turn
pub record IsMadeAll (changes : List Change) (one other : Near) : Type 0 where
  pub id : other.id ≡ one.id
  pub links : other.links.items ≡ fold (near_after one.id) one.links.items changes
  pub blocked : other.blocked.items ≡ fold (blocked_after one.id) one.blocked.items changes
