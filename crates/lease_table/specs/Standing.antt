use Rattle.std.specs.Prelude.{ℕ, ◌≡◌, Bool, true, false, Option, Some, None, List, [], ◌∷◌, ◌++◌, map, IfSome, IsTrue}
use Rattle.std.specs.Bool.{IsFalse}
use Rattle.std.specs.declared.cmp.Ordering.{Ordering}
use Rattle.std.specs.BTreeMap.{BTreeMap, IsOrdered, get}
use Rattle.rows_model.specs.declared.keys.QKey.{QKey}
use Rattle.rows_model.specs.contracts.keys.QKeyOrd.TheImpl as key_order
use Rattle.rows_model.specs.Key.{same_key}
use Rattle.lease_table.specs.declared.records.Quar.{Quar}
use Rattle.lease_table.specs.declared.records.ReadLease.{ReadLease}
use Rattle.lease_table.specs.declared.records.Held.TheVariants as held
use Rattle.lease_table.specs.declared.records.Lease.{Lease}
use Rattle.lease_table.specs.declared.records.KeyLeases.{KeyLeases}
use Rattle.lease_table.specs.declared.records.KeyLeases.TheVariants.{Read, Quarantines}
use Rattle.lease_table.specs.declared.edits.Change.{Change}
use Rattle.lease_table.specs.declared.edits.Change.TheVariants.{ToRefresh, ToDeadline}
use Rattle.lease_table.specs.declared.index.Index.{Index}
use Rattle.lease_table.specs.Leases.{IsTable, raised, renewed}
use Rattle.lease_table.specs.Index.{IsSound, ListsEach}

-- The order of the keys in the map.
abbrev pub key_cmp : QKey → QKey → Ordering
key_cmp = (key_order.ghosts).cmp

-- The record of a lease to read a key.
abbrev pub read_lease : QKey → ReadLease → Lease
read_lease key lease = record { key = key; held = held.Read lease }

-- The record of a quarantine of a key.
abbrev pub quar_lease : QKey → Quar → Lease
quar_lease key quar = record { key = key; held = held.Quarantine quar }

-- The records of the leases of one key.
abbrev pub records_on : QKey → KeyLeases → List Lease
records_on key (Read lease) = read_lease key lease ∷ []
records_on key (Quarantines quars) = map (quar_lease key) quars.items

-- The records of all leases, in order of their keys, and on each key in order of token.
abbrev pub records : List (QKey × KeyLeases) → List Lease
records [] = []
records (e ∷ es) = records_on e.0 e.1 ++ records es

-- The leases that the map has on a key, if any.
abbrev pub leases_on : QKey → BTreeMap QKey KeyLeases → Option KeyLeases
leases_on key leases = get key_cmp leases key

-- The quarantines among the leases of a key, if it has leases.
abbrev pub quars_of : Option KeyLeases → List Quar
quars_of None = []
quars_of (Some (Read lease)) = []
quars_of (Some (Quarantines quars)) = quars.items

-- The quarantines that stand on each key, by the map.
abbrev pub stands_in : BTreeMap QKey KeyLeases → QKey → List Quar
stands_in leases key = quars_of (leases_on key leases)

-- The leases to read among the leases of a key, if it has leases.
abbrev pub reads_of : Option KeyLeases → List ReadLease
reads_of None = []
reads_of (Some (Read lease)) = lease ∷ []
reads_of (Some (Quarantines quars)) = []

-- Whether a list has an element.
abbrev pub is_any : {X : Type 0} → List X → Bool
is_any [] = false
is_any (x ∷ xs) = true

-- Whether the leases of a key are one at least.
abbrev pub has_any : KeyLeases → Bool
has_any (Read lease) = true
has_any (Quarantines quars) = is_any quars.items

-- The map has no key without a lease.
abbrev pub NoneEmpty : BTreeMap QKey KeyLeases → Type 0
NoneEmpty leases = (key : QKey) → IfSome (leases_on key leases) (λ there. IsTrue (has_any there))

-- The map keeps its keys in order, has on each what may stand there, and no key without a lease, and the index lists
-- each quarantine that stands.
pub record IsKept (leases : BTreeMap QKey KeyLeases) (index : Index) : Type 0 where
  pub in_order : IsOrdered key_cmp leases
  pub table : IsTable (records leases.entries)
  pub none_empty : NoneEmpty leases
  pub sound : IsSound index
  pub lists : ListsEach (stands_in leases) index

-- A quarantine once the one of this token is changed.
abbrev pub changed : Change → ℕ → Quar → Quar
changed ToRefresh token quar = raised token quar
changed (ToDeadline deadline) token quar = renewed token deadline quar

-- On this key the map has now these quarantines and these leases to read, and does not have the key where there are
-- none; on each other key it has what it had.
pub record PutsOn (key : QKey) (standing : List Quar) (readers : List ReadLease) (old new : BTreeMap QKey KeyLeases) : Type 0 where
  pub quars_there : quars_of (leases_on key new) ≡ standing
  pub reads_there : reads_of (leases_on key new) ≡ readers
  pub any_there : IfSome (leases_on key new) (λ leases. IsTrue (has_any leases))
  pub elsewhere : (other : QKey) → IsFalse (same_key key other) → leases_on other new ≡ leases_on other old
  pub in_order : IsOrdered key_cmp new

-- The leases of a key are as before.
pub record SameLeases (old new : KeyLeases) : Type 0 where
  pub same_records : (key : QKey) → records_on key new ≡ records_on key old
  pub same_any : has_any new ≡ has_any old

-- The leases of the map are as before.
pub record Stays (old new : BTreeMap QKey KeyLeases) : Type 0 where
  pub same_records : records new.entries ≡ records old.entries
  pub none_empty : NoneEmpty old → NoneEmpty new
  pub in_order : IsOrdered key_cmp new
