-- The index of the links and the blocks: beside each member the links of which it is an end, and those whom it has
-- blocked. No public contract names it.
use Rattle.std.specs.Prelude.{ℕ, ◌<◌, ◌≡◌, ◌≢◌, Bool, true, false, ◌==◌, ◌||◌, if◌then◌else◌, List, length, map, filter, get_or, All, AllPairs}
use Rattle.std.specs.List.{flat_map}
use Rattle.rows_model.specs.declared.rows.Link.{Link}
use Rattle.rows_model.specs.declared.rows.Member.{Member}
use Rattle.rows_model.specs.declared.near.Near.{Near}
use Rattle.rows_model.specs.declared.changes.Change.{Change}
use Rattle.rows_model.specs.declared.changes.Change.TheVariants.{Invite, Accept, Reject, Thaw, Rename, Block}
use Rattle.rows_model.specs.Rows.{Tables, BlockRow, Fit}
use Rattle.rows_model.specs.Changes.{with_link, without_link, invitation, friendship, with_block, block_of, renamed}
use Rattle.rows_model.specs.Refresh.{with_id}

-- these members, links and blocks
abbrev pub tables_of : List Member → List Link → List BlockRow → Tables
tables_of members links blocks = record { members = members; links = links; blocks = blocks }

-- the element at this place passes the test
pub record IsAt {X : Type 0} (test : X → Bool) (xs : List X) (place : ℕ) : Type 0 where
  pub within : place < length xs
  pub passes : (d : X) → test (get_or xs place d) ≡ true

-- whether a member is an end of a link
abbrev pub is_end : ℕ → Link → Bool
is_end id link = (link.a == id) || (link.b == id)

-- the links of a member's list that name it first
abbrev pub firsts : Near → List Link
firsts one = filter (λ link. link.a == one.id) one.links.items

-- the links of all lists, each once, by their two ids
abbrev pub whole : List Near → List Link
whole near = flat_map firsts near

-- the blocks by a member
abbrev pub blocks_of : Near → List BlockRow
blocks_of one = map (block_of one.id) one.blocked.items

-- the blocks by all members
abbrev pub all_blocks : List Near → List BlockRow
all_blocks near = flat_map blocks_of near

-- these members, and the links and blocks of all lists
abbrev pub tables_in : List Member → List Near → Tables
tables_in members near = tables_of members (whole near) (all_blocks near)

-- the lists stand by id
abbrev pub NearAscend : List Near → Type 0
NearAscend near = AllPairs (λ one later. one.id < later.id) near

-- each list holds the links of which its member is an end, in the order of all
abbrev pub IsIndex : List Near → List Link → Type 0
IsIndex near links = All (λ one. one.links.items ≡ filter (is_end one.id) links) near

-- the members, their lists and the counts of the links and the blocks are rows of the store
pub record AreKept (members : List Member) (near : List Near) (count blocks : ℕ) : Type 0 where
  pub fit : Fit (tables_in members near)
  pub ids : map (λ one. one.id) near ≡ map (λ member. member.id) members
  pub index : IsIndex near (whole near)
  pub counted : count ≡ length (whole near)
  pub blocks_counted : blocks ≡ length (all_blocks near)

-- whether a change names this member as an end of a link
abbrev pub names : ℕ → Change → Bool
names id (Invite a b) = (a == id) || (b == id)
names id (Accept a b) = (a == id) || (b == id)
names id (Reject a b) = (a == id) || (b == id)
names id (Thaw a b) = (a == id) || (b == id)
names id (Rename a name) = false
names id (Block a b) = false

-- whether a change puts a link
abbrev pub puts : Change → Bool
puts (Invite a b) = true
puts (Accept a b) = true
puts (Reject a b) = false
puts (Thaw a b) = false
puts (Rename a name) = false
puts (Block a b) = false

-- whether a change puts a block by this member
abbrev pub blocks_by : ℕ → Change → Bool
blocks_by id (Invite a b) = false
blocks_by id (Accept a b) = false
blocks_by id (Reject a b) = false
blocks_by id (Thaw a b) = false
blocks_by id (Rename a name) = false
blocks_by id (Block a b) = a == id

-- the two ends that a change names differ
abbrev pub AreTwo : Change → Type 0
AreTwo (Invite a b) = a ≢ b
AreTwo (Accept a b) = a ≢ b
AreTwo (Reject a b) = a ≢ b
AreTwo (Thaw a b) = a ≢ b
AreTwo (Rename a name) = Unit {0}
AreTwo (Block a b) = Unit {0}

-- links after a change that applies
abbrev pub links_after : List Link → Change → List Link
links_after links (Invite a b) = with_link (invitation a b) links
links_after links (Accept a b) = with_link (friendship a b) (without_link a b links)
links_after links (Reject a b) = without_link a b links
links_after links (Thaw a b) = without_link a b links
links_after links (Rename a name) = links
links_after links (Block a b) = links

-- a member's links after a change that applies
abbrev pub near_after : ℕ → List Link → Change → List Link
near_after id links change = if names id change then links_after links change else links

-- the members after a change that applies
abbrev pub members_after : List Member → Change → List Member
members_after members (Invite a b) = members
members_after members (Accept a b) = members
members_after members (Reject a b) = members
members_after members (Thaw a b) = members
members_after members (Rename a name) = map (renamed a name) members
members_after members (Block a b) = members

-- blocks after a change that applies
abbrev pub blocks_after : List BlockRow → Change → List BlockRow
blocks_after blocks (Invite a b) = blocks
blocks_after blocks (Accept a b) = blocks
blocks_after blocks (Reject a b) = blocks
blocks_after blocks (Thaw a b) = blocks
blocks_after blocks (Rename a name) = blocks
blocks_after blocks (Block a b) = with_block (block_of a b) blocks

-- those whom a member has blocked, after a change that applies
abbrev pub blocked_after : ℕ → List ℕ → Change → List ℕ
blocked_after id ids (Invite a b) = ids
blocked_after id ids (Accept a b) = ids
blocked_after id ids (Reject a b) = ids
blocked_after id ids (Thaw a b) = ids
blocked_after id ids (Rename a name) = ids
blocked_after id ids (Block a b) = if a == id then with_id b ids else ids
