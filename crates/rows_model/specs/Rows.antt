use Rattle.std.specs.Prelude.{ℕ, Bool, true, false, ◌==◌, ◌&&◌, ◌||◌, ◌≡◌, ◌≢◌, ◌<◌, ◌≤◌, List, [], ◌∷◌, length, map, Option, IsSome, find}
use Rattle.std.specs.Prelude.{All, AllPairs, decimal}
use Rattle.std.specs.List.{range_with_len, list_any}
use Rattle.rows_model.specs.declared.rows.LinkState.{LinkState}
use Rattle.rows_model.specs.declared.rows.LinkState.TheVariants.{Pending, Friend}
use Rattle.rows_model.specs.declared.rows.Link.{Link}
use Rattle.rows_model.specs.declared.rows.Member.{Member}
use Rattle.rows_model.specs.Name.{IsName}

-- a block: one member has blocked another
pub record BlockRow : Type 0 where
  pub blocker : ℕ
  pub blocked : ℕ

-- the rows: who is a member, which members are linked, and who has blocked whom
pub record Tables : Type 0 where
  pub members : List Member
  pub links : List Link
  pub blocks : List BlockRow

-- the member with this id, if there is one
abbrev pub member_of : ℕ → Tables → Option Member
member_of id tables = find (λ member. member.id == id) tables.members

-- some member has this id
abbrev pub IsMember : ℕ → Tables → Type 0
IsMember id tables = IsSome (member_of id tables)

-- whether a link is an invitation that waits for an answer
abbrev pub is_pending : LinkState → Bool
is_pending Pending = true
is_pending Friend = false

-- whether a link is a friendship
abbrev pub is_friend : LinkState → Bool
is_friend Pending = false
is_friend Friend = true

-- whether a link joins these two, in whichever order
abbrev pub joins : ℕ → ℕ → Link → Bool
joins a b link = ((link.a == a) && (link.b == b)) || ((link.a == b) && (link.b == a))

-- one link stands before another: by its first member, and then by its second
abbrev pub IsBefore : Link → Link → Type 0
IsBefore link later = (link.a ≤ later.a) × (link.a ≡ later.a → link.b < later.b)

-- a link of these tables joins two different members, and a friendship names the smaller first
pub record IsLink (tables : Tables) (link : Link) : Type 0 where
  pub from : IsMember link.a tables
  pub to : IsMember link.b tables
  pub different : link.a ≢ link.b
  pub smaller_first : is_friend link.state ≡ true → link.a < link.b

-- one block stands before another: by its blocker, and then by the one that is blocked
abbrev pub IsBlockBefore : BlockRow → BlockRow → Type 0
IsBlockBefore block later = (block.blocker ≤ later.blocker) × (block.blocker ≡ later.blocker → block.blocked < later.blocked)

-- a block of these tables joins two different members between whom no link stands
pub record IsBlock (tables : Tables) (block : BlockRow) : Type 0 where
  pub from : IsMember block.blocker tables
  pub to : IsMember block.blocked tables
  pub different : block.blocker ≢ block.blocked
  pub unlinked : list_any (joins block.blocker block.blocked) tables.links ≡ false

-- the tables are rows of the store
pub record Fit (tables : Tables) : Type 0 where
  pub ids : All (λ member. (1 ≤ member.id) × (member.id ≤ 100000)) tables.members
  pub names : All (λ member. IsName member.name) tables.members
  pub members_ascend : AllPairs (λ member later. member.id < later.id) tables.members
  pub links_join : All (λ link. IsLink tables link) tables.links
  pub links_ascend : AllPairs IsBefore tables.links
  pub one_link : AllPairs (λ link later. joins later.a later.b link ≡ false) tables.links
  pub few_links : length tables.links ≤ 1000000
  pub blocks_join : All (λ block. IsBlock tables block) tables.blocks
  pub blocks_ascend : AllPairs IsBlockBefore tables.blocks
  pub few_blocks : length tables.blocks ≤ 1000000

-- the member with this id at the start, named `m` and the id
abbrev pub start_member : ℕ → Member
start_member id = record { id = id; name = 109 ∷ decimal id }

-- members 1 to n, no links and no blocks
unfoldable pub start_tables : ℕ → Tables
start_tables n = record { members = map start_member (range_with_len 1 n); links = []; blocks = [] }
