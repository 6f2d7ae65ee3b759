-- What a table is after each answer that changes it.
use Rattle.std.proofs.Common.{◌≡◌, ℕ, ◌<◌, ◌≤◌, true, not, Some, None, List, [], ◌∷◌, ◌++◌, filter, find, map, sym, refl, ap, ◌∙◌}
use Rattle.std.proofs.Common.{subst, arith, length, IfSome}
use Rattle.std.specs.List.{All}
use Rattle.std.specs.BTreeMap.{BTreeMap}
use Rattle.rows_model.specs.declared.keys.Sid.{Sid}
use Rattle.rows_model.specs.declared.keys.QKey.{QKey}
use Rattle.case_tables.specs.declared.grids.Verdict.{Verdict}
use Rattle.case_tables.specs.Compatibility.{read, quarantine, verdict, is_given, is_raised}
use Rattle.lease_table.specs.declared.records.Quar.{Quar}
use Rattle.lease_table.specs.declared.records.ReadLease.{ReadLease}
use Rattle.lease_table.specs.declared.records.KeyLeases.{KeyLeases}
use Rattle.lease_table.specs.declared.index.Index.{Index}
use Rattle.lease_table.specs.Lapses.{is_lapsed}
use Rattle.lease_table.specs.Leases.{quars, reads, recorded, first, way_of, holding, has_token, is_current, raise_in, raised, renewed, MayStand}
use Rattle.lease_table.specs.Leases.{Leaves}
use Rattle.lease_table.specs.Index.{is_listed, ListsEach, IsSound, KeepsOthers}
use Rattle.lease_table.specs.Standing.{records, leases_on, quars_of, reads_of, stands_in, IsKept, PutsOn}
use Rattle.lease_table.proofs.MapLemmas.{records-at}
use Rattle.lease_table.proofs.VerdictLemmas.{read-given, quar-given, raise-alone}
use Rattle.lease_table.proofs.ListedLemmas.{ListsOn-more, ListsOn-less, ListsOn-raised, ListsOn-renewed, ListsOn-others, ListsEach-puts}
use Rattle.lease_table.proofs.TableLemmas.{SetsKey-puts, Leaves-from, IsKept-puts, MayStand-read, MayStand-quar, MayStand-drop_read}
use Rattle.lease_table.proofs.TableLemmas.{MayStand-drop_quar, MayStand-raised, MayStand-renewed}

-- the map, before and after
abbrev Map : Type 0
Map = BTreeMap QKey KeyLeases

-- ---- what the map has on a key is what its records have

module _ (key : QKey) (leases : Map) (index : Index) (kept : IsKept leases index) where
  pub stood-quars : quars key (records leases.entries) ≡ quars_of (leases_on key leases)
  stood-quars = (records-at key leases kept.in_order).quars_there

  pub stood-reads : reads key (records leases.entries) ≡ reads_of (leases_on key leases)
  stood-reads = (records-at key leases kept.in_order).reads_there

  -- what may stand there, by the map
  pub may-stand : MayStand (quars_of (leases_on key leases)) (reads_of (leases_on key leases))
  may-stand =
      subst (λ standing. MayStand standing (reads_of (leases_on key leases))) stood-quars
      (subst (λ readers. MayStand (quars key (records leases.entries)) readers) stood-reads (kept.table key))

-- a change of the quarantines on a key, that leaves what is recorded to read, leaves the table so
module _ (key : QKey) (change : List Quar → List Quar) (old new : Map) (index : Index) (kept : IsKept old index)
    (puts : PutsOn key (change (quars_of (leases_on key old))) (reads_of (leases_on key old)) old new) where
  pub Leaves-changed : Leaves key (recorded key (records old.entries)) (change (quars key (records old.entries))) (records old.entries) (records new.entries)
  Leaves-changed =
      let sets = SetsKey-puts key _ _ old new kept.in_order puts in
      let leaves = Leaves-from key _ _ (records old.entries) (records new.entries) sets in
      subst (λ standing. Leaves key (recorded key (records old.entries)) (change standing) (records old.entries) (records new.entries))
      (sym (stood-quars key old index kept))
      (subst (λ readers. Leaves key (first readers) (change (quars_of (leases_on key old))) (records old.entries) (records new.entries))
      (sym (stood-reads key old index kept)) leaves)

-- ---- a key without quarantines

module _ (key : QKey) (readers : List ReadLease) (old new : Map)
    (index : Index) (kept : IsKept old index) (free : quars key (records old.entries) ≡ []) (puts : PutsOn key [] readers old new) where
  pub IsKept-readers : MayStand [] readers → IsKept new index
  IsKept-readers may =
      IsKept-puts key [] readers old new index index kept puts may kept.sound
      (ListsEach-puts key [] readers old new index puts (λ token. tt) (λ k apart. kept.lists k))

  pub Leaves-readers : Leaves key (first readers) (quars key (records old.entries)) (records old.entries) (records new.entries)
  Leaves-readers =
      rw free (Leaves-from key [] readers (records old.entries) (records new.entries) (SetsKey-puts key [] readers old new kept.in_order puts))

-- a lease to read is recorded where it was given
module _ (key : QKey) (r : ReadLease) (now : ℕ) (old new : Map) (index : Index) (v : Verdict) (kept : IsKept old index)
    (by_rules : v ≡ verdict (holding key r.sid now (records old.entries)) read) (given : is_given v ≡ true) (puts : PutsOn key [] (r ∷ []) old new) where
  free-read : quars key (records old.entries) ≡ []
  free-read = read-given key r.sid now (records old.entries) (rw by_rules at given)

  pub IsKept-read : IsKept new index
  IsKept-read =
      IsKept-readers key (r ∷ []) old new index kept free-read puts (MayStand-read [] r refl)

  pub Leaves-read : Leaves key (Some r) (quars key (records old.entries)) (records old.entries) (records new.entries)
  Leaves-read = Leaves-readers key (r ∷ []) old new index kept free-read puts

-- where a lease to read stands no quarantine does
no-quars : (token now : ℕ) (standing : List Quar) (readers : List ReadLease)
    → MayStand standing readers → is_current token now (first readers) ≡ true → standing ≡ []
no-quars token now standing [] may current = cc
no-quars token now [] (r ∷ rs) may current = refl
no-quars token now (q ∷ qs) (r ∷ rs) may current = let none = may.apart (omega arith) in absurd (omega arith)

-- the lease to read is used up
module _ (key : QKey) (token now : ℕ) (old new : Map) (index : Index)
    (kept : IsKept old index) (current : is_current token now (recorded key (records old.entries)) ≡ true) (puts : PutsOn key [] [] old new) where
  free-take : quars key (records old.entries) ≡ []
  free-take =
      no-quars token now (quars key (records old.entries)) (reads key (records old.entries)) (kept.table key) current

  pub IsKept-take : IsKept new index
  IsKept-take =
      IsKept-readers key [] old new index kept free-take puts (MayStand-drop_read [] (reads key (records old.entries)) (rw free-take at (kept.table key)))

  pub Leaves-take : Leaves key None (quars key (records old.entries)) (records old.entries) (records new.entries)
  Leaves-take = Leaves-readers key [] old new index kept free-take puts

-- where one has lapsed no quarantine stands either
no-quars-lapsed : (token now : ℕ) (standing : List Quar) (readers : List ReadLease)
    → MayStand standing readers → is_lapsed token now (first readers) ≡ true → standing ≡ []
no-quars-lapsed token now standing [] may lapsed = cc
no-quars-lapsed token now [] (r ∷ rs) may lapsed = refl
no-quars-lapsed token now (q ∷ qs) (r ∷ rs) may lapsed = let none = may.apart (omega arith) in absurd (omega arith)

-- and the lease to read is ended
module _ (key : QKey) (token now : ℕ) (old new : Map) (index : Index)
    (kept : IsKept old index) (lapsed : is_lapsed token now (recorded key (records old.entries)) ≡ true) (puts : PutsOn key [] [] old new) where
  free-lapsed : quars key (records old.entries) ≡ []
  free-lapsed =
      no-quars-lapsed token now (quars key (records old.entries)) (reads key (records old.entries)) (kept.table key) lapsed

  pub IsKept-lapsed : IsKept new index
  IsKept-lapsed =
      IsKept-readers key [] old new index kept free-lapsed puts (MayStand-drop_read [] (reads key (records old.entries)) (rw free-lapsed at (kept.table key)))

  pub Leaves-lapsed : Leaves key None (quars key (records old.entries)) (records old.entries) (records new.entries)
  Leaves-lapsed = Leaves-readers key [] old new index kept free-lapsed puts

-- ---- a quarantine more

module _ (key : QKey) (q : Quar) (old new : Map) (index : Index) (kept : IsKept old index)
    (below : All (λ other. other.token < q.token) (quars key (records old.entries)))
    (puts : PutsOn key (quars_of (leases_on key old) ++ q ∷ []) [] old new) where
  puts-more : PutsOn key (quars key (records old.entries) ++ q ∷ []) [] old new
  puts-more =
      subst (λ standing. PutsOn key (standing ++ q ∷ []) [] old new) (sym (stood-quars key old index kept)) puts

  pub IsKept-quar : (now : ℕ) (v : Verdict) → v ≡ verdict (holding key q.sid now (records old.entries)) (quarantine (way_of q.mode))
      → is_given v ≡ true → (next : Index) → IsSound next → ListsEach (stands_in old) next → is_listed key q.token q.deadline next ≡ true → IsKept new next
  IsKept-quar now v by_rules given next sound lists listed =
      let each = quar-given key q now (records old.entries) below (rw by_rules at given) in
      let may = MayStand-quar (quars key (records old.entries)) (reads key (records old.entries)) q (kept.table key) each in
      IsKept-puts key _ [] old new index next kept puts-more may sound
      (ListsEach-puts key _ [] old new next puts (ListsOn-more key (quars_of (leases_on key old)) next (lists key) q listed) (λ k apart. lists k))

  pub Leaves-quar : Leaves key None (quars key (records old.entries) ++ q ∷ []) (records old.entries) (records new.entries)
  Leaves-quar =
      Leaves-from key _ [] (records old.entries) (records new.entries) (SetsKey-puts key _ [] old new kept.in_order puts-more)

-- ---- a quarantine less

module _ (key : QKey) (token : ℕ) (old new : Map) (index : Index) (kept : IsKept old index)
    (puts : PutsOn key (filter (λ q. not (has_token token q)) (quars_of (leases_on key old))) (reads_of (leases_on key old)) old new) where
  pub IsKept-end : IsKept new index
  IsKept-end =
      let may = MayStand-drop_quar (λ q. not (has_token token q)) (quars_of (leases_on key old)) (reads_of (leases_on key old)) (may-stand key old index kept) in
      IsKept-puts key _ _ old new index index kept puts may kept.sound
      (ListsEach-puts key _ _ old new index puts (ListsOn-less key (quars_of (leases_on key old)) index (kept.lists key) token) (λ k apart. kept.lists k))

  pub Leaves-end : Leaves key (recorded key (records old.entries))
      (filter (λ q. not (has_token token q)) (quars key (records old.entries))) (records old.entries) (records new.entries)
  Leaves-end = Leaves-changed key (filter (λ q. not (has_token token q))) old new index kept puts

-- ---- a quarantine that is raised

module _ (key : QKey) (who : Sid) (token : ℕ) (old new : Map) (index : Index) (kept : IsKept old index)
    (raises : is_raised (raise_in who token (quars key (records old.entries))) ≡ true)
    (puts : PutsOn key (map (raised token) (quars_of (leases_on key old))) (reads_of (leases_on key old)) old new) where
  alone : length (quars_of (leases_on key old)) ≤ 1
  alone =
      subst (λ (standing : List Quar). length standing ≤ 1) (stood-quars key old index kept)
      (raise-alone who token (quars key (records old.entries)) (kept.table key).beside raises)

  pub IsKept-raised : IsKept new index
  IsKept-raised =
      let may = MayStand-raised token (quars_of (leases_on key old)) (reads_of (leases_on key old)) alone (may-stand key old index kept) in
      IsKept-puts key _ _ old new index index kept puts may kept.sound
      (ListsEach-puts key _ _ old new index puts (ListsOn-raised key (quars_of (leases_on key old)) index token (kept.lists key)) (λ k apart. kept.lists k))

  pub Leaves-raised : Leaves key (recorded key (records old.entries)) (map (raised token) (quars key (records old.entries))) (records old.entries) (records new.entries)
  Leaves-raised = Leaves-changed key (map (raised token)) old new index kept puts

-- ---- a quarantine that gets another deadline

module _ (key : QKey) (token deadline : ℕ) (old new : Map) (index : Index) (kept : IsKept old index)
    (puts : PutsOn key (map (renewed token deadline) (quars_of (leases_on key old))) (reads_of (leases_on key old)) old new) where
  pub IsKept-renewed : (next : Index) → IsSound next → KeepsOthers key token index next → is_listed key token deadline next ≡ true → IsKept new next
  IsKept-renewed next sound others listed =
      let may = MayStand-renewed token deadline (quars_of (leases_on key old)) (reads_of (leases_on key old)) (may-stand key old index kept) in
      IsKept-puts key _ _ old new index next kept puts may sound
      (ListsEach-puts key _ _ old new next puts (ListsOn-renewed key token deadline index next others listed (quars_of (leases_on key old)) (kept.lists key))
      (λ k apart. ListsOn-others key token deadline index next others listed k (stands_in old k) apart (kept.lists k)))

  pub Leaves-renewed : Leaves key (recorded key (records old.entries))
      (map (renewed token deadline) (quars key (records old.entries))) (records old.entries) (records new.entries)
  Leaves-renewed = Leaves-changed key (map (renewed token deadline)) old new index kept puts

-- a quarantine that stands is listed
pub listed-found : (key : QKey) (token : ℕ) (quar : Quar) (leases : Map) (index : Index) → IsKept leases index
    → find (has_token token) (quars key (records leases.entries)) ≡ Some quar → is_listed key token quar.deadline index ≡ true
listed-found key token quar leases index kept found =
    let there = ap (find (has_token token)) (sym (stood-quars key leases index kept)) ∙ found in
    subst (λ o. IfSome o (λ q. is_listed key token q.deadline index ≡ true)) there (kept.lists key token)
