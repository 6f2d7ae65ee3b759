use Rattle.std.specs.Prelude.{ℕ, Bool, ◌==◌, ◌&&◌, ◌||◌, if◌then◌else◌, List, ◌∷◌, ◌++◌, Option, Some, None, map, filter, count_by, codes, decimal}
use Rattle.std.specs.List.{join_with_byte}
use Rattle.std.specs.List.Sorted.{IsStrictlyIncreasing}
use Rattle.rows_model.specs.declared.keys.Kind.{Kind}
use Rattle.rows_model.specs.declared.keys.Kind.TheVariants.{Profile, Friends, Pending, NFriends, NPending, Blocked}
use Rattle.rows_model.specs.declared.keys.QKey.{QKey}
use Rattle.rows_model.specs.declared.rows.Link.{Link}
use Rattle.rows_model.specs.declared.rows.Member.{Member}
use Rattle.rows_model.specs.Rows.{Tables, BlockRow, Fit, member_of, is_pending, is_friend}

-- whether a link is a pending invitation to this member
abbrev pub invites : ℕ → Link → Bool
invites id link = is_pending link.state && (link.b == id)

-- whether a link makes this member a friend of another
abbrev pub befriends : ℕ → Link → Bool
befriends id link = is_friend link.state && ((link.a == id) || (link.b == id))

-- the member at the other end of a link of this one
abbrev pub other_end : ℕ → Link → ℕ
other_end id link = if link.a == id then link.b else link.a

-- how many friends a member has
abbrev pub friend_count : ℕ → Tables → ℕ
friend_count id tables = count_by (befriends id) tables.links

-- how many invitations to a member are pending
abbrev pub pending_count : ℕ → Tables → ℕ
pending_count id tables = count_by (invites id) tables.links

-- the ids of a member's friends; the links' order makes them ascend
abbrev pub friend_ids : ℕ → Tables → List ℕ
friend_ids id tables = map (other_end id) (filter (befriends id) tables.links)

-- the ids of those who invited a member; the links' order makes them ascend
abbrev pub inviter_ids : ℕ → Tables → List ℕ
inviter_ids id tables = map (λ link. link.a) (filter (invites id) tables.links)

-- whether a block is by this member
abbrev pub is_by : ℕ → BlockRow → Bool
is_by id block = block.blocker == id

-- the ids of those whom a member has blocked; the blocks' order makes them ascend
abbrev pub blocked_ids : ℕ → Tables → List ℕ
blocked_ids id tables = map (λ block. block.blocked) (filter (is_by id) tables.blocks)

-- ids in decimal, with commas between
abbrev pub id_list : List ℕ → List ℕ
id_list ids = join_with_byte 44 (map decimal ids)

-- the name and the two counts, with spaces between, or `-` for no member
abbrev pub profile_text : Option Member → ℕ → ℕ → List ℕ
profile_text None friends pending = codes "-"
profile_text (Some member) friends pending = member.name ++ 32 ∷ decimal friends ++ 32 ∷ decimal pending

-- what a question of this kind about a member is answered
abbrev pub answer_of : Kind → ℕ → Tables → List ℕ
answer_of Profile id tables =
    profile_text (member_of id tables) (friend_count id tables) (pending_count id tables)
answer_of Friends id tables = id_list (friend_ids id tables)
answer_of Pending id tables = id_list (inviter_ids id tables)
answer_of NFriends id tables = decimal (friend_count id tables)
answer_of NPending id tables = decimal (pending_count id tables)
answer_of Blocked id tables = id_list (blocked_ids id tables)

-- the answer to a key on these tables
unfoldable pub answer : QKey → Tables → List ℕ
answer key tables = answer_of key.kind key.id tables

-- the ids of the three lists ascend
pub record IsAscendingFor (id : ℕ) (tables : Tables) : Type 0 where
  pub friends : IsStrictlyIncreasing (friend_ids id tables)
  pub inviters : IsStrictlyIncreasing (inviter_ids id tables)
  pub blocked : IsStrictlyIncreasing (blocked_ids id tables)

-- on fit rows the ids in the answers about each member ascend
abbrev pub AnswersAscend : Type 0
AnswersAscend = (tables : Tables) (id : ℕ) → Fit tables → IsAscendingFor id tables
