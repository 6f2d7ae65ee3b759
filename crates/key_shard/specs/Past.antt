-- What a shard holds, found by looking back over its steps. A past is a list of steps, the latest first.
use Rattle.std.specs.Prelude.{ℕ, ◌+◌, ◌-◌, ◌^◌, Bool, true, false, not, ◌==◌, ◌&&◌, nat_lt, if◌then◌else◌, List, [], ◌∷◌, ◌++◌, length}
use Rattle.std.specs.Prelude.{map, filter, find, count_by, Option, Some, None, is_some, option_map, option_and_then, min, ℤ, decimal}
use Rattle.rows_model.specs.declared.keys.QKey.{QKey}
use Rattle.rows_model.specs.declared.keys.Sid.{Sid}
use Rattle.rows_model.specs.Key.{same_key}
use Rattle.rows_model.specs.Shift.{shifted}
use Rattle.case_tables.specs.Compatibility.{Holding}
use Rattle.lease_table.specs.declared.records.Quar.{Quar}
use Rattle.lease_table.specs.declared.records.ReadLease.{ReadLease}
use Rattle.lease_table.specs.Lapses.{unlapsed}
use Rattle.lease_table.specs.Leases.{has_token, own_in, others_in, holder_in, holding_of, raised, renewed}
use Rattle.key_shard.specs.Permit.{Permit}
use Rattle.key_shard.specs.declared.steps.Ended.{Ended}
use Rattle.key_shard.specs.declared.steps.Ended.TheVariants.{Keep, Drop, Put, Shift}
use Rattle.key_shard.specs.declared.steps.Step.{Step}
use Rattle.key_shard.specs.declared.steps.Step.TheVariants.{Hit, Lease, Again, Stored, Void, Granted, Released, Raised, Renewed}

-- What a shard is made with: its number of so many, how many entries it has room for, how long a lease lives, its first token, and
-- whether it gives up each step as it comes.
pub record Terms : Type 0 where
  pub no : ℕ
  pub count : ℕ
  pub room : ℕ
  pub life : ℕ
  pub first : ℕ
  pub rolls : Bool

-- The quarantines that stand on a key, in order of token: those granted, less those released since. One that was raised is to refresh, and
-- one that was renewed has its new deadline.
abbrev pub standing : QKey → List Step → List Quar
standing key [] = []
standing key (Granted on sid mode shift now token deadline ∷ past) =
    if same_key key on then standing key past ++ record { sid = sid; mode = mode; token = token; deadline = deadline; shift = shift } ∷ []
    else standing key past
standing key (Released on sid token how ∷ past) =
    if same_key key on then filter (λ quar. not (has_token token quar)) (standing key past) else standing key past
standing key (Raised on sid token ∷ past) =
    if same_key key on then map (raised token) (standing key past) else standing key past
standing key (Renewed on sid token now deadline ∷ past) =
    if same_key key on then map (renewed token deadline) (standing key past) else standing key past
standing key (step ∷ past) = standing key past

-- The recorded I lease of a key: the last one given on it, unless it was quarantined or a value was stored on it since. A set under the lease's own
-- token that came when its deadline had come was void, and dropped it. The history says so whatever times came later.
abbrev pub recorded : QKey → List Step → Option ReadLease
recorded key [] = None
recorded key (Lease on sid floor now token deadline ∷ past) =
    if same_key key on then Some (record { sid = sid; token = token; deadline = deadline }) else recorded key past
recorded key (Granted on sid mode shift now token deadline ∷ past) =
    if same_key key on then None else recorded key past
recorded key (Stored on token now value stamp evicted ∷ past) =
    if same_key key on then None else recorded key past
recorded key (Void on token now ∷ past) =
    if same_key key on then unlapsed token now (recorded key past) else recorded key past
recorded key (step ∷ past) = recorded key past

-- The session's own quarantine of a key.
abbrev pub own_of : QKey → Sid → List Step → Option Quar
own_of key who past = own_in who (standing key past)

-- The other sessions' quarantines of a key.
abbrev pub others_of : QKey → Sid → List Step → List Quar
others_of key who past = others_in who (standing key past)

-- What stands on a key at this time, as a session sees it.
abbrev pub seen_by : QKey → Sid → ℕ → List Step → Holding
seen_by key who now past = holding_of who now (recorded key past) (standing key past)

-- Who holds a key against a session: the session itself, or else the quarantine of least token.
abbrev pub holder_of : QKey → Sid → List Step → Option Quar
holder_of key who past = holder_in who (standing key past)

-- The quarantine of this token on a key.
abbrev pub quar_of : QKey → ℕ → List Step → Option Quar
quar_of key token past = find (has_token token) (standing key past)

-- Whether a key is the one that made room.
abbrev pub is_evicted : QKey → Option QKey → Bool
is_evicted key None = false
is_evicted key (Some evicted) = same_key key evicted

-- The entry after its number was moved: none where there was none, or where its value is no number.
abbrev pub entry_shifted : ℤ → ℕ → Option (List ℕ × ℕ) → Option (List ℕ × ℕ)
entry_shifted by stamp found =
    option_and_then (λ old. option_map (λ n. (decimal n, stamp)) (shifted old.0 by)) found

-- The entry of the key whose quarantine ended.
abbrev pub entry_ended : Ended → Option (List ℕ × ℕ) → Option (List ℕ × ℕ)
entry_ended Keep found = found
entry_ended Drop found = None
entry_ended (Put value stamp evicted) found = Some (value, stamp)
entry_ended (Shift by stamp) found = entry_shifted by stamp found

-- The key that made room for a value that was put.
abbrev pub evicted_by : Ended → Option QKey
evicted_by Keep = None
evicted_by Drop = None
evicted_by (Put value stamp evicted) = evicted
evicted_by (Shift by stamp) = None

-- The entry of a key, value and stamp. A stored or put value is the entry; a shift moves it; a miss, a drop and an eviction leave none.
abbrev pub entry : QKey → List Step → Option (List ℕ × ℕ)
entry key [] = None
entry key (Stored on token now value stamp evicted ∷ past) =
    if same_key key on then Some (value, stamp) else (if is_evicted key evicted then None else entry key past)
entry key (Released on sid token how ∷ past) =
    if same_key key on then entry_ended how (entry key past)
    else (if is_evicted key (evicted_by how) then None else entry key past)
entry key (Lease on sid floor now token deadline ∷ past) =
    if same_key key on then None else entry key past
entry key (Again on sid floor now standing ∷ past) =
    if same_key key on then None else entry key past
entry key (step ∷ past) = entry key past

-- Whether a quarantine ended with a new value.
abbrev pub is_put : Ended → Bool
is_put Keep = false
is_put Drop = false
is_put (Put value stamp evicted) = true
is_put (Shift by stamp) = false

-- The keys that were hit, stored or put, the latest first.
abbrev pub used : List Step → List QKey
used [] = []
used (Hit on sid floor value stamp ∷ past) = on ∷ used past
used (Stored on token now value stamp evicted ∷ past) = on ∷ used past
used (Released on sid token how ∷ past) = if is_put how then on ∷ used past else used past
used (step ∷ past) = used past

-- Each key once, where it stands first.
abbrev pub each_once : List QKey → List QKey
each_once [] = []
each_once (key ∷ keys) = key ∷ filter (λ other. not (same_key key other)) (each_once keys)

-- The keys that have an entry, by their last use, the latest first.
abbrev pub order : List Step → List QKey
order past = filter (λ key. is_some (entry key past)) (each_once (used past))

-- The last of these keys.
abbrev pub last_key : List QKey → Option QKey
last_key [] = None
last_key (key ∷ []) = Some key
last_key (key ∷ next ∷ keys) = last_key (next ∷ keys)

-- Who has to make room for a value of the key: nobody where the key has an entry or there is room, else the last in the order.
abbrev pub evicts : Terms → QKey → List Step → Option QKey
evicts terms key past =
    if is_some (entry key past) then None
    else (if nat_lt (length (order past)) terms.room then None else last_key (order past))

-- Whether a step draws a token.
abbrev pub draws : Step → Bool
draws (Lease on sid floor now token deadline) = true
draws (Granted on sid mode shift now token deadline) = true
draws step = false

-- Tokens are drawn in turn, from the first on.
abbrev pub next_token : Terms → List Step → ℕ
next_token terms past = terms.first + count_by draws past

-- A lease given now lives this long, and no longer than the clock can tell.
abbrev pub deadline_at : Terms → ℕ → ℕ
deadline_at terms now = min (now + terms.life) (2 ^ 64 - 1)

-- Whether a step is the grant of which this permit speaks: its key, session and token. Its mode isn't asked.
abbrev pub grants : Permit → Step → Bool
grants permit (Granted on sid mode shift now token deadline) =
    same_key permit.key on && (permit.sid.number == sid.number) && (permit.token == token)
grants permit step = false
