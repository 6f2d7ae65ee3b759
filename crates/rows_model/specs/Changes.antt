use Rattle.std.specs.Prelude.{ℕ, ◌+◌, Bool, ◌==◌, ◌&&◌, ◌||◌, ◌≤◌, not, nat_lt, if◌then◌else◌, List, [], ◌∷◌, ◌++◌, length, map, filter}
use Rattle.std.specs.Prelude.{fold, count_by, All, Result, Ok, Err}
use Rattle.std.specs.List.{list_any, flat_map, insert}
use Rattle.rows_model.specs.declared.keys.Kind.{Kind}
use Rattle.rows_model.specs.declared.keys.Kind.TheVariants.{Profile, Friends, Pending, NFriends, NPending, Blocked}
use Rattle.rows_model.specs.declared.keys.QKey.{QKey}
use Rattle.rows_model.specs.declared.rows.LinkState.TheVariants.{Pending as Waiting, Friend}
use Rattle.rows_model.specs.declared.rows.Link.{Link}
use Rattle.rows_model.specs.declared.rows.Member.{Member}
use Rattle.rows_model.specs.declared.changes.Change.{Change}
use Rattle.rows_model.specs.declared.changes.Change.TheVariants.{Invite, Accept, Reject, Thaw, Rename, Block}
use Rattle.rows_model.specs.Key.{kind_number, same_key}
use Rattle.rows_model.specs.Name.{IsName}
use Rattle.rows_model.specs.Rows.{Tables, BlockRow, is_pending, is_friend, joins}

-- whether some member has this id
abbrev pub is_member : ℕ → Tables → Bool
is_member id tables = list_any (λ member. member.id == id) tables.members

-- whether a link stands between two members, in either direction
abbrev pub is_linked : ℕ → ℕ → Tables → Bool
is_linked a b tables = list_any (joins a b) tables.links

-- whether the invitation of one member by another waits for an answer
abbrev pub is_invited : ℕ → ℕ → Tables → Bool
is_invited a b tables = list_any (λ link. is_pending link.state && (link.a == a) && (link.b == b)) tables.links

-- whether two members are friends
abbrev pub are_friends : ℕ → ℕ → Tables → Bool
are_friends a b tables = list_any (λ link. is_friend link.state && joins a b link) tables.links

-- whether one member has blocked another
abbrev pub has_blocked : ℕ → ℕ → Tables → Bool
has_blocked a b tables = list_any (λ block. (block.blocker == a) && (block.blocked == b)) tables.blocks

-- whether a change applies
abbrev pub applies : Change → Tables → Bool
applies (Invite a b) tables =
    not (a == b) && is_member a tables && is_member b tables && not (is_linked a b tables)
    && not (has_blocked a b tables) && not (has_blocked b a tables) && nat_lt (length tables.links) 1000000
applies (Accept a b) tables = is_invited a b tables
applies (Reject a b) tables = is_invited a b tables
applies (Thaw a b) tables = are_friends a b tables
applies (Rename a name) tables = is_member a tables
applies (Block a b) tables =
    not (a == b) && is_member a tables && is_member b tables && not (is_linked a b tables)
    && not (has_blocked a b tables) && nat_lt (length tables.blocks) 1000000

-- whether a link stands before another: by its first member, and then by its second
abbrev pub is_before : Link → Link → Bool
is_before later link = nat_lt link.a later.a || ((link.a == later.a) && nat_lt link.b later.b)

-- the links and one more, behind those that stand before it
abbrev pub with_link : Link → List Link → List Link
with_link new links = insert links (count_by (is_before new) links) new

-- the links without the one that joins these two
abbrev pub without_link : ℕ → ℕ → List Link → List Link
without_link a b links = filter (λ link. not (joins a b link)) links

-- an invitation of one member by another
abbrev pub invitation : ℕ → ℕ → Link
invitation a b = record { a = a; b = b; state = Waiting }

-- a friendship of two members, which names the smaller first
abbrev pub friendship : ℕ → ℕ → Link
friendship a b =
    if nat_lt a b then record { a = a; b = b; state = Friend } else record { a = b; b = a; state = Friend }

-- whether a block stands before another: by its blocker, and then by the one that is blocked
abbrev pub is_block_before : BlockRow → BlockRow → Bool
is_block_before later block =
    nat_lt block.blocker later.blocker || ((block.blocker == later.blocker) && nat_lt block.blocked later.blocked)

-- the blocks and one more, behind those that stand before it
abbrev pub with_block : BlockRow → List BlockRow → List BlockRow
with_block new blocks = insert blocks (count_by (is_block_before new) blocks) new

-- the block of one member by another
abbrev pub block_of : ℕ → ℕ → BlockRow
block_of a b = record { blocker = a; blocked = b }

-- a member, with this name if it has this id
abbrev pub renamed : ℕ → List ℕ → Member → Member
renamed id name member = if member.id == id then record { id = member.id; name = name } else member

-- the tables after a change that applies
abbrev pub changed : Change → Tables → Tables
changed (Invite a b) tables =
    record { members = tables.members; links = with_link (invitation a b) tables.links; blocks = tables.blocks }
changed (Accept a b) tables =
    record { members = tables.members; links = with_link (friendship a b) (without_link a b tables.links); blocks = tables.blocks }
changed (Reject a b) tables = record { members = tables.members; links = without_link a b tables.links; blocks = tables.blocks }
changed (Thaw a b) tables = record { members = tables.members; links = without_link a b tables.links; blocks = tables.blocks }
changed (Rename a name) tables =
    record { members = map (renamed a name) tables.members; links = tables.links; blocks = tables.blocks }
changed (Block a b) tables =
    record { members = tables.members; links = tables.links; blocks = with_block (block_of a b) tables.blocks }

-- the tables after changes in turn, or the place of the first that doesn't apply, counted from this one
abbrev pub apply_from : ℕ → List Change → Tables → Result Tables ℕ
apply_from place [] tables = Ok tables
apply_from place (change ∷ changes) tables =
    if applies change tables then apply_from (place + 1) changes (changed change tables) else Err place

-- the tables after changes in turn, or the place of the first that doesn't apply, from 0
unfoldable pub apply_all : List Change → Tables → Result Tables ℕ
apply_all changes tables = apply_from 0 changes tables

-- the keys of one member
abbrev pub keys_of : ℕ → List Kind → List QKey
keys_of id kinds = map (λ kind. record { kind = kind; id = id }) kinds

-- the keys whose answers a change may alter
abbrev pub foot_of : Change → List QKey
foot_of (Invite a b) = keys_of b (Profile ∷ Pending ∷ NPending ∷ [])
foot_of (Accept a b) =
    keys_of a (Profile ∷ Friends ∷ NFriends ∷ []) ++ keys_of b (Profile ∷ Friends ∷ Pending ∷ NFriends ∷ NPending ∷ [])
foot_of (Reject a b) = keys_of b (Profile ∷ Pending ∷ NPending ∷ [])
foot_of (Thaw a b) = keys_of a (Profile ∷ Friends ∷ NFriends ∷ []) ++ keys_of b (Profile ∷ Friends ∷ NFriends ∷ [])
foot_of (Rename a name) = keys_of a (Profile ∷ [])
foot_of (Block a b) = keys_of a (Blocked ∷ [])

-- whether a key is among these
abbrev pub has_key : QKey → List QKey → Bool
has_key key keys = list_any (same_key key) keys

-- whether some change touches a key
abbrev pub touches : List Change → QKey → Bool
touches changes key = list_any (λ change. has_key key (foot_of change)) changes

-- whether a key stands before another: by its kind, and then by its id
abbrev pub is_key_before : QKey → QKey → Bool
is_key_before later key =
    nat_lt (kind_number key.kind) (kind_number later.kind)
    || ((kind_number key.kind == kind_number later.kind) && nat_lt key.id later.id)

-- the keys and one more, behind those that stand before it; the same keys where it is among them
abbrev pub with_key : List QKey → QKey → List QKey
with_key keys key = if has_key key keys then keys else insert keys (count_by (is_key_before key) keys) key

-- the keys that the changes touch, ascending and without repeats
abbrev pub footprint : List Change → List QKey
footprint changes = fold with_key [] (flat_map foot_of changes)

-- no id in a change is 0, and a new name is a name
abbrev pub HasIds : Change → Type 0
HasIds (Invite a b) = (1 ≤ a) × (1 ≤ b)
HasIds (Accept a b) = (1 ≤ a) × (1 ≤ b)
HasIds (Reject a b) = (1 ≤ a) × (1 ≤ b)
HasIds (Thaw a b) = (1 ≤ a) × (1 ≤ b)
HasIds (Rename a name) = (1 ≤ a) × IsName name
HasIds (Block a b) = (1 ≤ a) × (1 ≤ b)

-- the changes are those of a transaction: 1 to 8 of them
pub record IsTxn (changes : List Change) : Type 0 where
  pub some : 1 ≤ length changes
  pub few : length changes ≤ 8
  pub ids : All HasIds changes
