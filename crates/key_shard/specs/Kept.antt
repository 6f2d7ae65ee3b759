-- What a shard keeps: entries, leases and the next token are those that its past tells.
use Rattle.std.specs.Prelude.{ℕ, ◌≡◌, ◌<◌, ◌≤◌, ◌+◌, ◌==◌, ◌&&◌, IsTrue, [], ◌∷◌, Bool, false, not, nat_lt, nat_le, if◌then◌else◌, List}
use Rattle.std.specs.Prelude.{map, filter, length, reverse, Option, Some, None, is_some}
use Rattle.std.specs.List.{All, list_any, sum_by}
use Rattle.rows_model.specs.declared.keys.QKey.{QKey}
use Rattle.rows_model.specs.declared.keys.Sid.{Sid}
use Rattle.rows_model.specs.Key.{same_key}
use Rattle.case_tables.specs.Compatibility.{verdict, read}
use Rattle.case_tables.specs.declared.grids.Verdict.TheVariants as verdicts
use Rattle.lease_table.specs.declared.records.Lease.{Lease}
use Rattle.lease_table.specs.declared.records.Quar.{Quar}
use Rattle.lease_table.specs.declared.records.Mode.TheVariants as modes
use Rattle.lease_table.specs.Leases as leases
use Rattle.entry_table.specs.Entries.{Item, Table, IsSound, lookup, keys}
use Rattle.key_shard.specs.Permit.{Permit}
use Rattle.key_shard.specs.declared.steps.Ended.{Ended}
use Rattle.key_shard.specs.declared.steps.Step.{Step}
use Rattle.key_shard.specs.declared.steps.Step.TheVariants.{Hit, Lease as StepLease, Again, Own, Held, Refused, Gone, Shared}
use Rattle.key_shard.specs.declared.replies.How.{How}
use Rattle.key_shard.specs.declared.replies.How.TheVariants as hows
use Rattle.key_shard.specs.declared.bodies.Body.{Body}
use Rattle.key_shard.specs.declared.outs.Out.{Out}
use Rattle.key_shard.specs.declared.lookups.Look.{Look}
use Rattle.key_shard.specs.declared.lookups.Look.TheVariants as looks
use Rattle.key_shard.specs.Past.{Terms, standing, recorded, seen_by, quar_of, entry, order, is_evicted, entry_ended, is_put, last_key, next_token, deadline_at}
use Rattle.key_shard.specs.Answers.{IsAtHome, IsLegalPast, IsOf, WasGranted, get_step}
use Rattle.key_shard.specs.Shards.{ShardView}

-- what a shard is made with
abbrev pub terms_of : Body → Terms
terms_of body = record { no = body.no; count = body.count; room = body.entries.room; life = body.life; first = body.first; rolls = body.history.rolls }

-- its steps, the latest first
abbrev pub steps_of : Body → List Step
steps_of body = reverse body.history.steps

-- what a grant that is out at a shard says
abbrev pub permit_of : ℕ → Out → Permit
permit_of number out = record { shard = number; key = out.key; sid = out.sid; mode = out.mode; token = out.token }

-- the shard as callers see it
abbrev pub shown : Body → ShardView
shown body = record {
  terms = terms_of body;
  history = body.history.steps;
  out = map (permit_of body.no) body.out;
}

-- entries, leases and the next token are those of a past, and that past is legal
pub record Ties (terms : Terms) (past : List Step) (list : List Item) (table : List Lease) (next : ℕ) : Type 0 where
  pub entries : (key : QKey) → lookup key list ≡ entry key past
  pub in_order : keys list ≡ order past
  pub sound : IsSound (record { room = terms.room; list = list })
  pub quars : (key : QKey) → leases.quars key table ≡ standing key past
  pub reads : (key : QKey) → leases.recorded key table ≡ recorded key past
  pub counted : next ≡ next_token terms past
  pub below : (key : QKey) → All (λ quar. quar.token < next) (standing key past)
  pub legal : IsLegalPast terms past

-- of a grant that is out the key is the shard's, and its quarantine was granted, under a token drawn before; where that one stands, it is the grant's
pub record IsOut (terms : Terms) (past : List Step) (out : Out) : Type 0 where
  pub at_home : IsAtHome terms out.key
  pub granted : WasGranted past (permit_of terms.no out)
  pub drawn : out.token < next_token terms past
  pub stands : (quar : Quar) → quar_of out.key out.token past ≡ Some quar → IsOf (permit_of terms.no out) quar

-- how many places of the history a grant that is out may still take: one for its release, and one more while its quarantine stands
abbrev pub places_for : List Step → Out → ℕ
places_for past out = if is_some (quar_of out.key out.token past) then 2 else 1

-- how many all of them may
abbrev pub places_of : List Step → List Out → ℕ
places_of past outs = sum_by (places_for past) outs

-- Whether a grant that is out is of this key and token.
abbrev pub is_for : QKey → ℕ → Out → Bool
is_for key token out = same_key key out.key && (out.token == token)

-- A grant that is out, once the one of this key and token is raised.
abbrev pub raised_out : QKey → ℕ → Out → Out
raised_out key token out =
    if is_for key token out then record { key = out.key; sid = out.sid; mode = modes.Refresh; token = out.token } else out

-- Each quarantine that stands has a grant that is out.
abbrev pub AreHeld : List Step → List Out → Type 0
AreHeld past outs =
    (key : QKey) (token : ℕ) (quar : Quar) → quar_of key token past ≡ Some quar → IsTrue (list_any (is_for key token) outs)

-- What a shard keeps: that, a grant for each quarantine that stands, and the places of the history that the grants that are out may still take.
pub record IsKept (body : Body) : Type 0 where
  pub one_of : body.no < body.count
  pub ties : Ties (terms_of body) (steps_of body) body.entries.list body.leases body.next
  pub outs : All (IsOut (terms_of body) (steps_of body)) body.out
  pub held : AreHeld (steps_of body) body.out
  pub promises : places_of (steps_of body) body.out ≤ body.promised
  pub reserved : body.history.used + body.promised ≤ body.history.room

-- a step that changes no entry, order or lease
abbrev pub IsQuiet : Step → Type 0
IsQuiet (Own key sid) = Unit {0}
IsQuiet (Held key sid mode) = Unit {0}
IsQuiet (Refused key sid mode holder held) = Unit {0}
IsQuiet (Gone key sid token) = Unit {0}
IsQuiet (Shared key sid token holder) = Unit {0}
IsQuiet step = ⊥

-- whether there is an entry with a stamp of at least the floor
abbrev pub is_fresh : ℕ → Option (List ℕ × ℕ) → Bool
is_fresh floor None = false
is_fresh floor (Some found) = nat_le floor found.1

-- what a get finds is what its step says
abbrev pub IsLook : Terms → List Step → QKey → Sid → ℕ → ℕ → Look → Type 0
IsLook terms past key who floor now looks.Own = get_step terms past key who floor now ≡ Own key who
IsLook terms past key who floor now looks.Found =
    (found : List ℕ × ℕ) × (entry key past ≡ Some found) × (get_step terms past key who floor now ≡ Hit key who floor found.0 found.1)
IsLook terms past key who floor now (looks.Waits stands) =
    get_step terms past key who floor now ≡ Again key who floor now stands
IsLook terms past key who floor now looks.Free =
    (verdict (seen_by key who now past) read ≡ verdicts.Give)
    × (get_step terms past key who floor now ≡ StepLease key who floor now (next_token terms past) (deadline_at terms now))

-- who makes room for a key in a table: nobody where it has an entry or there is room, else the last
abbrev pub makes_room : ℕ → QKey → List Item → Option QKey
makes_room room key list =
    if is_some (lookup key list) then None
    else (if nat_lt (length (keys list)) room then None else last_key (keys list))

-- a value was put in front, and this key made room
pub record Puts (key : QKey) (value : List ℕ) (stamp : ℕ) (evicted : Option QKey) (old new : Table) : Type 0 where
  pub entries : (other : QKey)
      → lookup other new.list ≡ (if same_key other key then Some (value, stamp) else (if is_evicted other evicted then None else lookup other old.list))
  pub in_order : keys new.list ≡ key ∷ filter (λ other. not (is_evicted other evicted)) (filter (λ other. not (same_key key other)) (keys old.list))
  pub room_by : evicted ≡ makes_room old.room key old.list
  pub same_room : new.room ≡ old.room
  pub sound : IsSound new

-- the entry of a key ended this way, and no other changed: with no entry the key has no place
pub record Ends (key : QKey) (how : Ended) (old new : Table) : Type 0 where
  pub entries : (other : QKey) → lookup other new.list ≡ (if same_key other key then entry_ended how (lookup other old.list) else lookup other old.list)
  pub in_order : keys new.list
      ≡ (if is_some (entry_ended how (lookup key old.list)) then keys old.list else filter (λ other. not (same_key key other)) (keys old.list))
  pub same_room : new.room ≡ old.room
  pub sound : IsSound new

-- for a shift there is room for a number's digits
abbrev pub HasRoom : How → List ℕ → ℕ → Type 0
HasRoom hows.Keep items capacity = Unit {0}
HasRoom hows.Drop items capacity = Unit {0}
HasRoom (hows.Shift stamp) items capacity = (items ≡ []) × (20 ≤ capacity)

-- no value is put
abbrev pub PutsNone : Ended → Type 0
PutsNone how = is_put how ≡ false
