-- What the records of the map are on each key.
use Rattle.std.proofs.Common.{◌≡◌, Bool, true, false, Option, Some, None, List, [], ◌∷◌, ◌++◌, sym, refl, ap, ◌∙◌, map, append-nil}
use Rattle.std.specs.Prelude.{if◌then◌else◌}
use Rattle.std.specs.List.{cons_option}
use Rattle.std.specs.List.Sorted.{IsStrictlySortedBy}
use Rattle.std.specs.Map.{lookup, keys_of, set_value}
use Rattle.std.specs.BTreeMap.{BTreeMap, IsOrdered, is_at}
use Rattle.std.proofs.lemmas.List.Elements.{filter_map-append}
use Rattle.std.proofs.lemmas.Map.{NonePasses}
use Rattle.std.proofs.lemmas.Map.Entries.{lookup_head, lookup_tail, none_past_head}
use Rattle.std.proofs.lemmas.Map.Keys.{IsDistinct-from_sorted, sorted_tail}
use Rattle.rows_model.specs.declared.keys.QKey.{QKey}
use Rattle.rows_model.specs.Key.{same_key}
use Rattle.lease_table.specs.declared.records.Quar.{Quar}
use Rattle.lease_table.specs.declared.records.ReadLease.{ReadLease}
use Rattle.lease_table.specs.declared.records.Lease.{Lease}
use Rattle.lease_table.specs.declared.records.KeyLeases.{KeyLeases}
use Rattle.lease_table.specs.declared.records.KeyLeases.TheVariants.{Read, Quarantines}
use Rattle.lease_table.specs.Leases.{quars, reads}
use Rattle.lease_table.specs.Standing.{key_cmp, quar_lease, records_on, records, leases_on, quars_of, reads_of}
use Rattle.lease_table.proofs.KeyLemmas.{is_at-key, key_equivalence, same_key-left}

-- ---- one key's records

-- nothing is added in either case
cons_option-none : {Y : Type 0} (b : Bool) (o : Option Y) (ys : List Y) → o ≡ None → cons_option (if b then o else o) ys ≡ ys
cons_option-none true o ys e = rw e refl
cons_option-none false o ys e = rw e refl

-- the quarantines on a key, of quarantines that are recorded on one
quars-quar_leases : (key k : QKey) (qs : List Quar) (b : Bool) → same_key key k ≡ b → quars key (map (quar_lease k) qs) ≡ (if b then qs else [])
quars-quar_leases key k [] true e = refl
quars-quar_leases key k [] false e = refl
quars-quar_leases key k (q ∷ qs) true e = rw e (ap (λ rest. q ∷ rest) (quars-quar_leases key k qs true e))
quars-quar_leases key k (q ∷ qs) false e = rw e (quars-quar_leases key k qs false e)

-- no lease to read is among them
reads-quar_leases : (key k : QKey) (qs : List Quar) → reads key (map (quar_lease k) qs) ≡ []
reads-quar_leases key k [] = refl
reads-quar_leases key k (q ∷ qs) = cons_option-none (same_key key k) None _ refl ∙ reads-quar_leases key k qs

-- these records have on a key these quarantines and these leases to read
pub record Gives (key : QKey) (leases : List Lease) (standing : List Quar) (readers : List ReadLease) : Type 0 where
  pub quars_there : quars key leases ≡ standing
  pub reads_there : reads key leases ≡ readers

Gives-append : (key : QKey) (xs ys : List Lease) (qs ps : List Quar) (rs ss : List ReadLease)
    → Gives key xs qs rs → Gives key ys ps ss → Gives key (xs ++ ys) (qs ++ ps) (rs ++ ss)
Gives-append key xs ys qs ps rs ss a b = record {
  quars_there = filter_map-append _ xs ys ∙ (λ i. a.quars_there i ++ b.quars_there i);
  reads_there = filter_map-append _ xs ys ∙ (λ i. a.reads_there i ++ b.reads_there i);
}

-- the leases of a key are recorded there
Gives-here : (key k : QKey) (there : KeyLeases) → same_key key k ≡ true → Gives key (records_on k there) (quars_of (Some there)) (reads_of (Some there))
Gives-here key k (Read r) e = record { quars_there = rw e refl; reads_there = rw e refl }
Gives-here key k (Quarantines qs) e = record { quars_there = quars-quar_leases key k qs.items true e; reads_there = reads-quar_leases key k qs.items }

-- and on no other
Gives-apart : (key k : QKey) (there : KeyLeases) → same_key key k ≡ false → Gives key (records_on k there) [] []
Gives-apart key k (Read r) e = record { quars_there = rw e refl; reads_there = rw e refl }
Gives-apart key k (Quarantines qs) e = record { quars_there = quars-quar_leases key k qs.items false e; reads_there = reads-quar_leases key k qs.items }

-- ---- all records

Gives-none : (key : QKey) (es : List (QKey × KeyLeases)) → NonePasses (is_at (key_cmp key)) es → Gives key (records es) [] []
Gives-none key [] none = record { quars_there = refl; reads_there = refl }
Gives-none key (e ∷ es) none =
    Gives-append key (records_on e.0 e.1) (records es) [] [] [] [] (Gives-apart key e.0 e.1 (sym (is_at-key key e.0) ∙ none.0)) (Gives-none key es none.1)

Gives-step : (key : QKey) (e : QKey × KeyLeases) (es : List (QKey × KeyLeases)) (b : Bool) → same_key key e.0 ≡ b
    → IsStrictlySortedBy key_cmp (keys_of (e ∷ es))
    → Gives key (records es) (quars_of (lookup (is_at (key_cmp key)) es)) (reads_of (lookup (is_at (key_cmp key)) es))
    → Gives key (records (e ∷ es)) (quars_of (lookup (is_at (key_cmp key)) (e ∷ es))) (reads_of (lookup (is_at (key_cmp key)) (e ∷ es)))
Gives-step key e es true same sorted rest =
    let at : is_at (key_cmp key) e.0 ≡ true = is_at-key key e.0 ∙ same in
    let past = none_past_head key_equivalence key e es (IsDistinct-from_sorted key_cmp (keys_of (e ∷ es)) sorted) at in
    let both = Gives-append key (records_on e.0 e.1) (records es)
    (quars_of (Some e.1)) [] (reads_of (Some e.1)) [] (Gives-here key e.0 e.1 same) (Gives-none key es past) in
    let found = lookup_head (is_at (key_cmp key)) e es at in
    record {
      quars_there = both.quars_there ∙ append-nil _ ∙ ap quars_of (sym found);
      reads_there = both.reads_there ∙ append-nil _ ∙ ap reads_of (sym found);
    }
Gives-step key e es false apart sorted rest =
    let both = Gives-append key (records_on e.0 e.1) (records es) [] _ [] _ (Gives-apart key e.0 e.1 apart) rest in
    let found = lookup_tail (is_at (key_cmp key)) e es (is_at-key key e.0 ∙ apart) in
    record {
      quars_there = both.quars_there ∙ ap quars_of (sym found);
      reads_there = both.reads_there ∙ ap reads_of (sym found);
    }

Gives-lookup : (key : QKey) (es : List (QKey × KeyLeases)) → IsStrictlySortedBy key_cmp (keys_of es)
    → Gives key (records es) (quars_of (lookup (is_at (key_cmp key)) es)) (reads_of (lookup (is_at (key_cmp key)) es))
Gives-lookup key [] sorted = record { quars_there = refl; reads_there = refl }
Gives-lookup key (e ∷ es) sorted =
    Gives-step key e es _ refl sorted (Gives-lookup key es (sorted_tail key_cmp e.0 (keys_of es) sorted))

-- the records on a key are those of the leases that the map has there
pub records-at : (key : QKey) (leases : BTreeMap QKey KeyLeases)
    → IsOrdered key_cmp leases → Gives key (records leases.entries) (quars_of (leases_on key leases)) (reads_of (leases_on key leases))
records-at key leases ordered = Gives-lookup key leases.entries ordered

-- keys that are one have the same leases
pub leases_on-same_key : (a b : QKey) (leases : BTreeMap QKey KeyLeases) → same_key a b ≡ true → leases_on a leases ≡ leases_on b leases
leases_on-same_key a b leases e =
    ap (λ test. lookup test leases.entries) (λ i k. (is_at-key a k ∙ same_key-left a b k e ∙ sym (is_at-key b k)) i)

-- leases with the same records, written over those of a key, leave the records
pub records-set_value : (test : QKey → Bool) (es : List (QKey × KeyLeases)) (there next : KeyLeases)
    → lookup test es ≡ Some there → ((key : QKey) → records_on key next ≡ records_on key there) → records (set_value test es next) ≡ records es
records-set_value test [] there next found same = refl
records-set_value test (e ∷ es) there next found same =
    by_test (λ later. records-set_value test es there next later same) (test e.0) refl
  where
    by_test : (lookup test es ≡ Some there → records (set_value test es next) ≡ records es)
        → (b : Bool) → test e.0 ≡ b → records (set_value test (e ∷ es) next) ≡ records (e ∷ es)
    by_test rest true at =
        let here : e.1 ≡ there = (let head = lookup_head test e es at in cc) in
        rw at (ap (λ xs. xs ++ records es) (same e.0 ∙ ap (records_on e.0) (sym here)))
    by_test rest false apart =
        let tail = lookup_tail test e es apart in
        rw apart (ap (λ xs. records_on e.0 e.1 ++ xs) (rest (sym tail ∙ found)))
