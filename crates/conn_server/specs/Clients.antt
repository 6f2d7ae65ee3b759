-- What the server knows of the client of a connection: its present session, and the grants that this one holds.
use Rattle.std.specs.Prelude.{ℕ, ◌==◌, ◌||◌, not, nat_le, Bool, true, false, List, [], ◌∷◌, length, Option, Some, None, is_some, if◌then◌else◌}
use Rattle.rows_model.specs.declared.keys.QKey.{QKey}
use Rattle.rows_model.specs.declared.keys.Sid.{Sid}
use Rattle.rows_model.specs.Key.{same_key}
use Rattle.key_shard.specs.Permit.{Permit}
use Rattle.conn_server.specs.declared.clients.Client.{Client}
use Rattle.conn_server.specs.declared.clients.Present.{Present}
use Rattle.conn_server.specs.declared.clients.Stage.{Stage}
use Rattle.conn_server.specs.declared.clients.Stage.TheVariants.{Reading, Open, Committed}

-- a session that stands here may still commit
abbrev pub is_open_stage : Stage → Bool
is_open_stage Open = true
is_open_stage other = false

-- a session that stands here only reads
abbrev pub is_reading_stage : Stage → Bool
is_reading_stage Reading = true
is_reading_stage other = false

-- the number of the commit of a session that stands here
abbrev pub commit_at : Stage → Option ℕ
commit_at (Committed number) = Some number
commit_at other = None

-- how many grants a session may hold
abbrev pub most_grants : ℕ
most_grants = 64

-- a client that has just come: it has no session
abbrev pub newcomer : Client
newcomer = record { present = None; grants = record { items = []; room = most_grants } }

-- the present session may still commit, and hasn't been aborted
abbrev pub is_open : Option Present → Bool
is_open (Some present) = is_open_stage present.stage
is_open None = false

-- the present session only reads
abbrev pub is_reading : Option Present → Bool
is_reading (Some present) = is_reading_stage present.stage
is_reading None = false

-- the number of the present session's commit
abbrev pub commit_of : Option Present → Option ℕ
commit_of (Some present) = commit_at present.stage
commit_of None = None

-- the present session has committed
abbrev pub has_committed : Option Present → Bool
has_committed present = is_some (commit_of present)

-- the present session is in the midst of a write: it is open, or it holds grants, as no reader does
abbrev pub is_busy : Client → Bool
is_busy client = is_open client.present || not (length client.grants.items == 0)

-- the present session holds as many grants as it may
abbrev pub is_full : Client → Bool
is_full client = nat_le most_grants (length client.grants.items)

-- the session that a request is made for: the present one, or number 0, which no session has
abbrev pub asker : Option Present → Sid
asker (Some present) = present.sid
asker None = record { number = 0 }

-- this is the present session
abbrev pub is_present : Option Present → Sid → Bool
is_present (Some present) sid = present.sid.number == sid.number
is_present None sid = false

-- the grant that was given first on a key
abbrev pub grant_on : QKey → List Permit → Option Permit
grant_on key [] = None
grant_on key (grant ∷ grants) = if same_key grant.key key then Some grant else grant_on key grants

-- the others: the grants without the first on the key
abbrev pub grants_but : QKey → List Permit → List Permit
grants_but key [] = []
grants_but key (grant ∷ grants) = if same_key grant.key key then grants else grant ∷ grants_but key grants
