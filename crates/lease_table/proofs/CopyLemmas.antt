-- A copy of the leases has the same.
use Rattle.std.proofs.Common.{◌≡◌, Bool, true, false, cond, Some, List, [], ◌∷◌, ◌++◌, map, refl, sym, ap, ◌∙◌, IfSome, IsTrue, subst}
use Rattle.std.specs.List.{AllZip}
use Rattle.std.specs.List.Sorted.{IsStrictlySortedBy}
use Rattle.std.specs.Map.{keys_of, lookup}
use Rattle.std.specs.BTreeMap.{BTreeMap, IsOrdered, is_at}
use Rattle.std.proofs.lemmas.List.Elements.{same_from_all_zip}
use Rattle.rows_model.specs.declared.keys.QKey.{QKey}
use Rattle.lease_table.specs.declared.records.KeyLeases.{KeyLeases}
use Rattle.lease_table.specs.declared.records.KeyLeases.TheVariants.{Read, Quarantines}
use Rattle.lease_table.specs.declared.index.Index.{Index}
use Rattle.lease_table.specs.contracts.records.KeyLeasesClone.TheImpl.{is_clone-value}
use Rattle.lease_table.specs.Standing.{key_cmp, records, records_on, read_lease, quar_lease, is_any, has_any, IsKept, SameLeases, Stays, stands_in}
use Rattle.lease_table.specs.Index.{IsSound}
use Rattle.lease_table.proofs.IndexLemmas.{KeepsEach-same, ListsEach-keeps}
use Rattle.lease_table.proofs.TableLemmas.{IsKept-stays, IsKept-index}
use Rattle.std.specs.BinaryHeap.{heap_items}

-- what the clone of a map says of each entry: its key is the same, and its leases are a clone
abbrev IsCloned : QKey × KeyLeases → QKey × KeyLeases → Type 0
IsCloned old new = (new.0 ≡ old.0) × is_clone-value.it old.1 new.1

-- a clone of the leases of a key has the same
SameLeases-cloned : (old new : KeyLeases) → is_clone-value.it old new → SameLeases old new
SameLeases-cloned (Read a) (Read b) cloned = record { same_records = λ key. ap (λ r. read_lease key r ∷ []) cloned; same_any = refl }
SameLeases-cloned (Read a) (Quarantines v) cloned = absurd cloned
SameLeases-cloned (Quarantines v) (Read a) cloned = absurd cloned
SameLeases-cloned (Quarantines v) (Quarantines w) cloned =
    let same : w.items ≡ v.items = same_from_all_zip _ v.items w.items cloned.0 (λ x y e. e) in
    record { same_records = λ key. ap (map (quar_lease key)) same; same_any = ap is_any same }

-- cloned entries have the same keys
keys_of-cloned : (es fs : List (QKey × KeyLeases)) → AllZip IsCloned es fs → keys_of fs ≡ keys_of es
keys_of-cloned [] [] cloned = refl
keys_of-cloned [] (f ∷ fs) cloned = absurd cloned
keys_of-cloned (e ∷ es) [] cloned = absurd cloned
keys_of-cloned (e ∷ es) (f ∷ fs) cloned =
    let rest = keys_of-cloned es fs cloned.1 in
    λ i. cloned.0.0 i ∷ rest i

-- and the same records
records-cloned : (es fs : List (QKey × KeyLeases)) → AllZip IsCloned es fs → records fs ≡ records es
records-cloned [] [] cloned = refl
records-cloned [] (f ∷ fs) cloned = absurd cloned
records-cloned (e ∷ es) [] cloned = absurd cloned
records-cloned (e ∷ es) (f ∷ fs) cloned =
    let here = ap (λ key. records_on key f.1) cloned.0.0 ∙ (SameLeases-cloned e.1 f.1 cloned.0.1).same_records e.0 in
    let rest = records-cloned es fs cloned.1 in
    λ i. here i ++ rest i

-- where a key of the entries has any lease, it has any in the clone
any-cloned : (test : QKey → Bool) (es fs : List (QKey × KeyLeases)) → AllZip IsCloned es fs
    → IfSome (lookup test es) (λ there. IsTrue (has_any there)) → IfSome (lookup test fs) (λ there. IsTrue (has_any there))
any-cloned test [] [] cloned any = tt
any-cloned test [] (f ∷ fs) cloned any = absurd cloned
any-cloned test (e ∷ es) [] cloned any = absurd cloned
any-cloned test (e ∷ es) (f ∷ fs) cloned any = rw cloned.0.0 (by_test (any-cloned test es fs cloned.1) (test e.0) any)
  where
    by_test : (IfSome (lookup test es) (λ there. IsTrue (has_any there)) → IfSome (lookup test fs) (λ there. IsTrue (has_any there)))
        → (b : Bool) → IfSome (cond b (Some e.1) (lookup test es)) (λ there. IsTrue (has_any there))
        → IfSome (cond b (Some f.1) (lookup test fs)) (λ there. IsTrue (has_any there))
    by_test rest true here = rw (SameLeases-cloned e.1 f.1 cloned.0.1).same_any here
    by_test rest false later = rest later

-- a clone of the map has its leases
pub Stays-cloned : (old new : BTreeMap QKey KeyLeases) → IsOrdered key_cmp old → AllZip IsCloned old.entries new.entries → Stays old new
Stays-cloned old new ordered cloned = record {
  same_records = records-cloned old.entries new.entries cloned;
  none_empty = λ none key. any-cloned (is_at (key_cmp key)) old.entries new.entries cloned (none key);
  in_order = subst (IsStrictlySortedBy key_cmp) (sym (keys_of-cloned old.entries new.entries cloned)) ordered;
}

-- and is kept with an index that lists the same
pub IsKept-cloned : (old new : BTreeMap QKey KeyLeases) (index copy : Index) → IsKept old index → AllZip IsCloned old.entries new.entries
    → IsSound copy → heap_items copy.later ≡ heap_items index.later → heap_items copy.found ≡ heap_items index.found → IsKept new copy
IsKept-cloned old new index copy kept cloned sound later found =
    let stays = Stays-cloned old new kept.in_order cloned in
    let same = IsKept-stays old new index kept stays in
    IsKept-index new index copy same sound
    (ListsEach-keeps (stands_in new) index copy (KeepsEach-same index copy later found) same.lists)
