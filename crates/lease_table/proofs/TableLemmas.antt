-- What a change of the map leaves on each key, and that the table stays one.
use Rattle.std.proofs.Common.{◌≡◌, ℕ, Bool, true, false, Some, List, [], ◌∷◌, ◌++◌, sym, refl, ◌∙◌, ap, filter, arith}
use Rattle.std.proofs.Common.{IfSome, IsTrue, cond, subst, map, ◌≤◌}
use Rattle.std.proofs.lemmas.List.{length-map}
use Rattle.std.specs.Prelude.{length}
use Rattle.std.specs.List.{All}
use Rattle.std.specs.BTreeMap.{BTreeMap, IsOrdered, WritesThrough, UpdatesBy, is_at}
use Rattle.std.proofs.lemmas.List.Kept.{AllPairs-filter}
use Rattle.std.proofs.lemmas.List.Quantifiers.{all_pairs_push}
use Rattle.rows_model.specs.declared.keys.QKey.{QKey}
use Rattle.rows_model.specs.Key.{same_key}
use Rattle.lease_table.specs.declared.records.Quar.{Quar}
use Rattle.lease_table.specs.declared.records.ReadLease.{ReadLease}
use Rattle.lease_table.specs.declared.records.Lease.{Lease}
use Rattle.lease_table.specs.declared.records.KeyLeases.{KeyLeases}
use Rattle.lease_table.specs.declared.index.Index.{Index}
use Rattle.lease_table.specs.Leases.{quars, reads, first, quar_on, read_on, has_token, raised, renewed, Leaves, IsTable, MayStand}
use Rattle.lease_table.specs.Leases.{StandBeside}
use Rattle.lease_table.specs.Index.{ListsEach, IsSound}
use Rattle.lease_table.specs.Standing.{key_cmp, records, leases_on, quars_of, reads_of, stands_in, has_any, NoneEmpty, IsKept, PutsOn, SameLeases}
use Rattle.lease_table.specs.Standing.{Stays}
use Rattle.lease_table.proofs.KeyLemmas.{same_key-left}
use Rattle.lease_table.proofs.ListLemmas.{filter_map-same, length-filter-le, AllPairs-map}
use Rattle.lease_table.proofs.MapLemmas.{records-at, records-set_value, leases_on-same_key}

-- ---- what a change leaves on each key

-- on this key there are now these quarantines and these leases to read, and each other key is as before
pub record SetsKey (key : QKey) (standing : List Quar) (readers : List ReadLease) (old new : List Lease) : Type 0 where
  pub quars_there : quars key new ≡ standing
  pub reads_there : reads key new ≡ readers
  pub quars_elsewhere : (other : QKey) → same_key key other ≡ false → quars other new ≡ quars other old
  pub reads_elsewhere : (other : QKey) → same_key key other ≡ false → reads other new ≡ reads other old

pub Leaves-from : (key : QKey) (standing : List Quar) (readers : List ReadLease) (old new : List Lease)
    → SetsKey key standing readers old new → Leaves key (first readers) standing old new
Leaves-from key standing readers old new sets = record {
  on_reader = ap first sets.reads_there;
  on_quars = sets.quars_there;
  elsewhere = λ other apart. record { same_reader = ap first (sets.reads_elsewhere other apart); same_quars = sets.quars_elsewhere other apart };
}

-- keys that are one have the same leases
pub quars-same_key : (a b : QKey) (leases : List Lease) → same_key a b ≡ true → quars a leases ≡ quars b leases
quars-same_key a b leases e =
    filter_map-same (quar_on a) (quar_on b) (λ lease. rw (same_key-left a b lease.key e) refl) leases

pub reads-same_key : (a b : QKey) (leases : List Lease) → same_key a b ≡ true → reads a leases ≡ reads b leases
reads-same_key a b leases e =
    filter_map-same (read_on a) (read_on b) (λ lease. rw (same_key-left a b lease.key e) refl) leases

-- one key of a table after a change
MayStand-step : (key k : QKey) (standing : List Quar) (readers : List ReadLease) (old new : List Lease) (b : Bool)
    → same_key key k ≡ b → SetsKey key standing readers old new → MayStand standing readers → IsTable old → MayStand (quars k new) (reads k new)
MayStand-step key k standing readers old new true e sets may table =
    rw (← quars-same_key key k new e, ← reads-same_key key k new e, sets.quars_there, sets.reads_there) may
MayStand-step key k standing readers old new false e sets may table =
    rw (sets.quars_elsewhere k e, sets.reads_elsewhere k e) (table k)

-- a change that leaves on its key what may stand leaves a table
pub IsTable-from : (key : QKey) (standing : List Quar) (readers : List ReadLease) (old new : List Lease)
    → SetsKey key standing readers old new → MayStand standing readers → IsTable old → IsTable new
IsTable-from key standing readers old new sets may table =
    λ k. MayStand-step key k standing readers old new _ refl sets may table

-- ---- what may stand after each

pub MayStand-read : (standing : List Quar) (r : ReadLease) → standing ≡ [] → MayStand standing (r ∷ [])
MayStand-read standing r free = rw free record {
  beside = λ i j d before within. absurd (omega arith);
  one_reader = omega arith;
  apart = λ some. absurd (omega arith);
}

pub MayStand-drop_read : (standing : List Quar) (readers : List ReadLease) → MayStand standing readers → MayStand standing []
MayStand-drop_read standing readers may = record {
  beside = may.beside;
  one_reader = omega arith;
  apart = λ some. refl;
}

pub MayStand-drop_quar : (p : Quar → Bool) (standing : List Quar) (readers : List ReadLease) → MayStand standing readers → MayStand (filter p standing) readers
MayStand-drop_quar p standing readers may = record {
  beside = AllPairs-filter StandBeside p standing may.beside;
  one_reader = may.one_reader;
  apart = λ some. may.apart (omega (arith, length-filter-le p standing));
}

pub MayStand-quar : (standing : List Quar) (readers : List ReadLease) (q : Quar)
    → MayStand standing readers → All (λ other. StandBeside other q) standing → MayStand (standing ++ q ∷ []) []
MayStand-quar standing readers q may each = record {
  beside = all_pairs_push StandBeside standing q may.beside (λ k d within. each k d within);
  one_reader = omega arith;
  apart = λ some. refl;
}

-- one that is raised stands alone
pub MayStand-raised : (token : ℕ) (standing : List Quar) (readers : List ReadLease) → length standing ≤ 1
    → MayStand standing readers → MayStand (map (raised token) standing) readers
MayStand-raised token standing readers alone may = record {
  beside = λ i j d before within. absurd (omega (arith, length-map standing (raised token)));
  one_reader = may.one_reader;
  apart = λ some. may.apart (omega (arith, length-map standing (raised token)));
}

-- another deadline changes nothing of what may stand beside what
StandBeside-renewed : (token deadline : ℕ) (a b : Quar) → StandBeside a b → StandBeside (renewed token deadline a) (renewed token deadline b)
StandBeside-renewed token deadline a b beside = by_tests (has_token token a) (has_token token b)
  where
    by_tests : (x y : Bool) → StandBeside
        (cond x (record { sid = a.sid; mode = a.mode; token = a.token; deadline = deadline; shift = a.shift }) a)
        (cond y (record { sid = b.sid; mode = b.mode; token = b.token; deadline = deadline; shift = b.shift }) b)
    by_tests true true = record {
      in_order = beside.in_order;
      of_two = beside.of_two;
      one_invalidates = beside.one_invalidates;
      other_invalidates = beside.other_invalidates;
    }
    by_tests true false = record {
      in_order = beside.in_order;
      of_two = beside.of_two;
      one_invalidates = beside.one_invalidates;
      other_invalidates = beside.other_invalidates;
    }
    by_tests false true = record {
      in_order = beside.in_order;
      of_two = beside.of_two;
      one_invalidates = beside.one_invalidates;
      other_invalidates = beside.other_invalidates;
    }
    by_tests false false = beside

pub MayStand-renewed : (token deadline : ℕ) (standing : List Quar) (readers : List ReadLease)
    → MayStand standing readers → MayStand (map (renewed token deadline) standing) readers
MayStand-renewed token deadline standing readers may = record {
  beside = AllPairs-map StandBeside (renewed token deadline) (StandBeside-renewed token deadline) standing may.beside;
  one_reader = may.one_reader;
  apart = λ some. may.apart (omega (arith, length-map standing (renewed token deadline)));
}

-- ---- the map

-- what the records have on each key, as a whole
pub stands_in-records : (leases : BTreeMap QKey KeyLeases) → IsOrdered key_cmp leases → (λ key. quars key (records leases.entries)) ≡ stands_in leases
stands_in-records leases ordered = λ i key. (records-at key leases ordered).quars_there i

-- what the map's change says of its records
pub SetsKey-puts : (key : QKey) (standing : List Quar) (readers : List ReadLease) (old new : BTreeMap QKey KeyLeases)
    → IsOrdered key_cmp old → PutsOn key standing readers old new → SetsKey key standing readers (records old.entries) (records new.entries)
SetsKey-puts key standing readers old new ordered puts =
    let after = records-at key new puts.in_order in
    record {
      quars_there = after.quars_there ∙ puts.quars_there;
      reads_there = after.reads_there ∙ puts.reads_there;
      quars_elsewhere = λ other apart. (records-at other new puts.in_order).quars_there
          ∙ ap quars_of (puts.elsewhere other apart) ∙ sym (records-at other old ordered).quars_there;
      reads_elsewhere = λ other apart. (records-at other new puts.in_order).reads_there
          ∙ ap reads_of (puts.elsewhere other apart) ∙ sym (records-at other old ordered).reads_there;
    }

-- no key without a lease comes in
NoneEmpty-puts : (key : QKey) (standing : List Quar) (readers : List ReadLease) (old new : BTreeMap QKey KeyLeases)
    → PutsOn key standing readers old new → NoneEmpty old → NoneEmpty new
NoneEmpty-puts key standing readers old new puts none = λ k. by_key k (same_key key k) refl
  where
    by_key : (k : QKey) (b : Bool) → same_key key k ≡ b → IfSome (leases_on k new) (λ there. IsTrue (has_any there))
    by_key k true same = rw (← leases_on-same_key key k new same) puts.any_there
    by_key k false apart = rw (puts.elsewhere k apart) (none k)

-- a change of the map that leaves on its key what may stand, with an index that lists what stands then
pub IsKept-puts : (key : QKey) (standing : List Quar) (readers : List ReadLease) (old new : BTreeMap QKey KeyLeases) (index next : Index)
    → IsKept old index → PutsOn key standing readers old new → MayStand standing readers → IsSound next → ListsEach (stands_in new) next → IsKept new next
IsKept-puts key standing readers old new index next kept puts may sound lists = record {
  in_order = puts.in_order;
  table =
      IsTable-from key standing readers (records old.entries) (records new.entries)
      (SetsKey-puts key standing readers old new kept.in_order puts) may kept.table;
  none_empty = NoneEmpty-puts key standing readers old new puts kept.none_empty;
  sound = sound;
  lists = lists;
}

-- another index that lists what stands
pub IsKept-index : (leases : BTreeMap QKey KeyLeases) (index next : Index) → IsKept leases index → IsSound next → ListsEach (stands_in leases) next
    → IsKept leases next
IsKept-index leases index next kept sound lists = record {
  in_order = kept.in_order;
  table = kept.table;
  none_empty = kept.none_empty;
  sound = sound;
  lists = lists;
}

-- a map with the records that it had has the same on each key
stands_in-stays : (old new : BTreeMap QKey KeyLeases) → IsOrdered key_cmp old → Stays old new → stands_in new ≡ stands_in old
stands_in-stays old new ordered stays =
    sym (stands_in-records new stays.in_order) ∙ (λ i key. quars key (stays.same_records i)) ∙ stands_in-records old ordered

pub IsKept-stays : (old new : BTreeMap QKey KeyLeases) (index : Index) → IsKept old index → Stays old new → IsKept new index
IsKept-stays old new index kept stays = record {
  in_order = stays.in_order;
  table = subst IsTable (sym stays.same_records) kept.table;
  none_empty = stays.none_empty kept.none_empty;
  sound = kept.sound;
  lists = subst (λ standing. ListsEach standing index) (sym (stands_in-stays old new kept.in_order stays)) kept.lists;
}

-- what is written over the leases of a key leaves the map's, where it leaves these
pub Stays-through : (key : QKey) (old new : BTreeMap QKey KeyLeases) (there next : KeyLeases)
    → leases_on key old ≡ Some there → SameLeases there next → WritesThrough key_cmp (key_cmp key) old next new → Stays old new
Stays-through key old new there next found same writes = record {
  same_records = ap records writes.0 ∙ records-set_value (is_at (key_cmp key)) old.entries there next found same.same_records;
  none_empty = λ none k. by_key none k (is_at (key_cmp key) k) refl;
  in_order = writes.4;
}
  where
    some_there : IfSome (leases_on key old) (λ t. IsTrue (has_any t)) → IsTrue (has_any next)
    some_there any = rw same.same_any (rw found at any)

    updates : UpdatesBy key_cmp (key_cmp key) old new (Some next)
    updates = writes.3 (rw found refl)

    by_key : NoneEmpty old → (k : QKey) (b : Bool) → is_at (key_cmp key) k ≡ b → IfSome (leases_on k new) (λ t. IsTrue (has_any t))
    by_key none k true e =
        subst (λ o. IfSome o (λ t. IsTrue (has_any t))) (sym (updates.0 k ∙ ap (λ b. cond b (Some next) (leases_on k old)) e)) (some_there (none key))
    by_key none k false e =
        subst (λ o. IfSome o (λ t. IsTrue (has_any t))) (sym (updates.0 k ∙ ap (λ b. cond b (Some next) (leases_on k old)) e)) (none k)
