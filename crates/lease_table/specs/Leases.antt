use Rattle.std.specs.Prelude.{ℕ, ◌≡◌, ◌≢◌, ◌<◌, ◌≤◌, ◌==◌, Bool, false, not, nat_lt, if◌then◌else◌, Option, Some, None, option_map, ◌&&◌}
use Rattle.std.specs.Prelude.{List, [], ◌∷◌, map, filter, find, length, IsTrue}
use Rattle.std.specs.List.{filter_map, list_any, AllPairs}
use Rattle.std.specs.Option.{option_or}
use Rattle.std.specs.Bool.{IsFalse}
use Rattle.rows_model.specs.declared.keys.Sid.{Sid}
use Rattle.rows_model.specs.declared.keys.QKey.{QKey}
use Rattle.rows_model.specs.Key.{same_key}
use Rattle.case_tables.specs.Compatibility.{Way, invalidate, refresh, delta, is_invalidate, Holding, verdict, raise}
use Rattle.case_tables.specs.declared.grids.Verdict.{Verdict}
use Rattle.case_tables.specs.declared.grids.Verdict.TheVariants as verdicts
use Rattle.lease_table.specs.declared.records.Mode.{Mode}
use Rattle.lease_table.specs.declared.records.Mode.TheVariants.{Invalidate, Refresh, Delta}
use Rattle.lease_table.specs.declared.records.Quar.{Quar}
use Rattle.lease_table.specs.declared.records.ReadLease.{ReadLease}
use Rattle.lease_table.specs.declared.records.Held.{Held}
use Rattle.lease_table.specs.declared.records.Held.TheVariants.{Read, Quarantine}
use Rattle.lease_table.specs.declared.records.Lease.{Lease}

-- a mode, as the rules of compatibility call it
abbrev pub way_of : Mode → Way
way_of Invalidate = invalidate
way_of Refresh = refresh
way_of Delta = delta

-- the quarantine, if it is one
abbrev pub quar_of : Held → Option Quar
quar_of (Read lease) = None
quar_of (Quarantine quar) = Some quar

-- the lease to read, if it is one
abbrev pub read_of : Held → Option ReadLease
read_of (Read lease) = Some lease
read_of (Quarantine quar) = None

-- the quarantine on this key that a record is, if it is one
abbrev pub quar_on : QKey → Lease → Option Quar
quar_on key lease = if same_key key lease.key then quar_of lease.held else None

-- the lease to read this key that a record is, if it is one
abbrev pub read_on : QKey → Lease → Option ReadLease
read_on key lease = if same_key key lease.key then read_of lease.held else None

-- the quarantines on a key, in order of token
abbrev pub quars : QKey → List Lease → List Quar
quars key leases = filter_map (quar_on key) leases

-- the leases to read a key that are recorded: one at most
abbrev pub reads : QKey → List Lease → List ReadLease
reads key leases = filter_map (read_on key) leases

-- the first of a list
abbrev pub first : {X : Type 0} → List X → Option X
first [] = None
first (x ∷ xs) = Some x

-- the lease to read that is recorded on a key
abbrev pub recorded : QKey → List Lease → Option ReadLease
recorded key leases = first (reads key leases)

-- whether there is a lease to read and its deadline lies ahead
abbrev pub is_unexpired : ℕ → Option ReadLease → Bool
is_unexpired now None = false
is_unexpired now (Some lease) = nat_lt now lease.deadline

-- whether a quarantine is this session's
abbrev pub is_of : Sid → Quar → Bool
is_of who quar = quar.sid.number == who.number

-- one's own quarantine, among those that stand on a key
abbrev pub own_in : Sid → List Quar → Option Quar
own_in who quars = find (is_of who) quars

-- the others' quarantines, among those that stand on a key
abbrev pub others_in : Sid → List Quar → List Quar
others_in who quars = filter (λ quar. not (is_of who quar)) quars

-- who holds a key against a session, among the quarantines that stand on it: the session itself, or else the first
abbrev pub holder_in : Sid → List Quar → Option Quar
holder_in who quars = option_or (own_in who quars) (first quars)

-- what stands on a key at this time as a session sees it, by the lease to read that is recorded and the quarantines
abbrev pub holding_of : Sid → ℕ → Option ReadLease → List Quar → Holding
holding_of who now reader quars = record {
  own = option_map (λ quar. way_of quar.mode) (own_in who quars);
  others = map (λ quar. way_of quar.mode) (others_in who quars);
  reading = is_unexpired now reader;
}

-- the session's own quarantine on a key
abbrev pub own_quar : QKey → Sid → List Lease → Option Quar
own_quar key who leases = own_in who (quars key leases)

-- the other sessions' quarantines on a key
abbrev pub other_quars : QKey → Sid → List Lease → List Quar
other_quars key who leases = others_in who (quars key leases)

-- what stands on a key at this time, as this session sees it
abbrev pub holding : QKey → Sid → ℕ → List Lease → Holding
holding key who now leases = holding_of who now (recorded key leases) (quars key leases)

-- of two quarantines on one key the earlier has the lower token, they are of two sessions, and both are
-- to invalidate
pub record StandBeside (earlier later : Quar) : Type 0 where
  pub in_order : earlier.token < later.token
  pub of_two : earlier.sid.number ≢ later.sid.number
  pub one_invalidates : IsTrue (is_invalidate (way_of earlier.mode))
  pub other_invalidates : IsTrue (is_invalidate (way_of later.mode))

-- what may stand on one key: quarantines beside one another, or one lease to read
pub record MayStand (standing : List Quar) (readers : List ReadLease) : Type 0 where
  pub beside : AllPairs StandBeside standing
  pub one_reader : length readers ≤ 1
  pub apart : 0 < length standing → length readers ≡ 0

-- on each key of a table there is what may stand
abbrev pub IsTable : List Lease → Type 0
IsTable leases = (key : QKey) → MayStand (quars key leases) (reads key leases)

-- a key has the same lease to read and the same quarantines as before
pub record SameOn (key : QKey) (old new : List Lease) : Type 0 where
  pub same_reader : recorded key new ≡ recorded key old
  pub same_quars : quars key new ≡ quars key old

-- on this key there are now this lease to read and these quarantines, and each other key is as before
pub record Leaves (key : QKey) (reader : Option ReadLease) (standing : List Quar) (old new : List Lease) : Type 0 where
  pub on_reader : recorded key new ≡ reader
  pub on_quars : quars key new ≡ standing
  pub elsewhere : (other : QKey) → IsFalse (same_key key other) → SameOn other old new

-- whether a quarantine has this token
abbrev pub has_token : ℕ → Quar → Bool
has_token token quar = quar.token == token

-- whether a lease to read is there, has this token, and its deadline lies ahead
abbrev pub is_current : ℕ → ℕ → Option ReadLease → Bool
is_current token now None = false
is_current token now (Some lease) = (lease.token == token) && nat_lt now lease.deadline

-- whether a quarantine is this session's, has this token, and is to invalidate
abbrev pub is_raisable : Sid → ℕ → Quar → Bool
is_raisable who token quar = is_of who quar && (has_token token quar && is_invalidate (way_of quar.mode))

-- the verdict on raising the quarantine of a token, among those that stand on a key: that of the rules where it may be
-- raised at all, and else Gone
abbrev pub raise_in : Sid → ℕ → List Quar → Verdict
raise_in who token quars =
    if list_any (is_raisable who token) quars then verdict (holding_of who 0 None quars) raise else verdicts.Gone

-- a quarantine once the one of this token is raised
abbrev pub raised : ℕ → Quar → Quar
raised token quar =
    if has_token token quar then
    record { sid = quar.sid; mode = Refresh; token = quar.token; deadline = quar.deadline; shift = quar.shift }
    else quar

-- a quarantine once the one of this token has another deadline
abbrev pub renewed : ℕ → ℕ → Quar → Quar
renewed token deadline quar =
    if has_token token quar then
    record { sid = quar.sid; mode = quar.mode; token = quar.token; deadline = deadline; shift = quar.shift }
    else quar
