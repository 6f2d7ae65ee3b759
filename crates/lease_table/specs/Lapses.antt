-- Leases to read whose deadline has come, and the entries by which they are found.
use Rattle.std.specs.Prelude.{ℕ, ◌≡◌, ◌<◌, ◌≤◌, ◌==◌, Bool, false, ◌&&◌, nat_le, if◌then◌else◌, Option, Some, None, List, IfSome}
use Rattle.std.specs.List.{list_any}
use Rattle.std.specs.BTreeMap.{BTreeMap}
use Rattle.std.specs.BTreeSet.{contains}
use Rattle.std.specs.declared.cmp.Ordering.{Ordering}
use Rattle.rows_model.specs.declared.keys.QKey.{QKey}
use Rattle.rows_model.specs.Key.{same_key}
use Rattle.lease_table.specs.declared.records.Lapse.{Lapse}
use Rattle.lease_table.specs.declared.records.Lease.{Lease}
use Rattle.lease_table.specs.declared.records.ReadLease.{ReadLease}
use Rattle.lease_table.specs.declared.records.KeyLeases.{KeyLeases}
use Rattle.lease_table.specs.declared.lapses.Lapses.{Lapses}
use Rattle.lease_table.specs.contracts.records.LapseOrd.TheImpl as lapse_order
use Rattle.lease_table.specs.Leases.{recorded}
use Rattle.lease_table.specs.Standing.{leases_on, reads_of}

-- whether a lease to read is there, has this token, and its deadline has come
abbrev pub is_lapsed : ℕ → ℕ → Option ReadLease → Bool
is_lapsed token now None = false
is_lapsed token now (Some lease) = (lease.token == token) && nat_le lease.deadline now

-- what is left of a lease to read once the one of this token is dropped if its deadline has come
abbrev pub unlapsed : ℕ → ℕ → Option ReadLease → Option ReadLease
unlapsed token now reader = if is_lapsed token now reader then None else reader

-- the leases to read of a table, by their keys
abbrev pub reader_in : List Lease → QKey → Option ReadLease
reader_in leases = λ key. recorded key leases

-- this lease to read is recorded, by what is recorded on each key, and its deadline has come
pub record HasLapsed (now : ℕ) (reading : QKey → Option ReadLease) (lapse : Lapse) : Type 0 where
  pub lease : ReadLease
  pub is_recorded : reading lapse.key ≡ Some lease
  pub its_token : lease.token ≡ lapse.token
  pub its_deadline : lease.deadline ≡ lapse.deadline
  pub has_come : lapse.deadline ≤ now

-- no lease to read that is recorded has an earlier deadline
abbrev pub NoneLapsedBefore : (QKey → Option ReadLease) → Lapse → Type 0
NoneLapsedBefore reading lapse = (key : QKey) → IfSome (reading key) (λ lease. lapse.deadline ≤ lease.deadline)

-- the deadline of each lease to read that is recorded lies ahead
abbrev pub NoneLapsed : ℕ → (QKey → Option ReadLease) → Type 0
NoneLapsed now reading = (key : QKey) → IfSome (reading key) (λ lease. now < lease.deadline)

-- ---- the entries

-- the entry of a lease to read a key
abbrev pub lapse_of : QKey → ReadLease → Lapse
lapse_of key lease = record { deadline = lease.deadline; key = key; token = lease.token }

-- the order of entries: by deadline, then by key, then by token
abbrev pub lapse_cmp : Lapse → Lapse → Ordering
lapse_cmp = (lapse_order.ghosts).cmp

-- whether two entries are one
abbrev pub is_lapse : Lapse → Lapse → Bool
is_lapse a b = (a.deadline == b.deadline) && (same_key a.key b.key && (a.token == b.token))

-- whether an entry is that of the lease to read a key, if it is one
abbrev pub is_reader : QKey → Option ReadLease → Lapse → Bool
is_reader key None lapse = false
is_reader key (Some lease) lapse = is_lapse (lapse_of key lease) lapse

-- whether an entry is there
abbrev pub has_lapse : Lapse → Lapses → Bool
has_lapse lapse lapses = contains lapse_cmp lapses.entries lapse

-- whether a lease to read has the deadline and the token of an entry
abbrev pub is_told_by : Lapse → ReadLease → Bool
is_told_by lapse lease = (lease.deadline == lapse.deadline) && (lease.token == lapse.token)

-- there is an entry for each lease to read that the map has, and for no other
abbrev pub AreListed : BTreeMap QKey KeyLeases → Lapses → Type 0
AreListed leases lapses =
    (lapse : Lapse) → has_lapse lapse lapses ≡ list_any (is_told_by lapse) (reads_of (leases_on lapse.key leases))
