-- What a database holds after a transaction that was dropped, and after one that was kept.
use Rattle.std.proofs.Common.{◌≡◌, ℕ, true, List, [], ◌∷◌, ◌++◌, Result, Ok, Err, IfOk, IfErr, IsTrue, inl, inr, refl, sym, ap, subst, ◌∙◌}
use Rattle.sqlite_value.specs.Order.{Row}
use Rattle.sqlite_trees.specs.declared.store.Store.{Ghosts}
use Rattle.sqlite_trees.proofs.Doubt.{no_doubt}
use Rattle.sqlite.specs.Effect.{Database}
use Rattle.sqlite.specs.State.{HasCleanDisk, IsUnchanged, IsNotRun}
use Rattle.sqlite.specs.declared.error.Error.{Error}
use Rattle.sqlite.specs.Held.{Held, state}
use Rattle.rows_model.specs.declared.changes.Change.{Change}
use Rattle.rows_model.specs.Rows.{Tables}
use Rattle.rows_model.specs.Changes.{apply_from}
use Rattle.rows_model.proofs.ApplyLemmas.{apply_all_is}
use Rattle.sql_keeper.specs.declared.faults.KeepFault.{KeepFault}
use Rattle.sql_keeper.specs.declared.faults.KeepFault.TheVariants as keep
use Rattle.sql_keeper.specs.declared.faults.AfterFault.{AfterFault}
use Rattle.sql_keeper.specs.declared.faults.AfterFault.TheVariants.{Rejected, Failed, Memory}
use Rattle.sql_keeper.specs.Keepers.{IsRejectedAt}
use Rattle.sqlite_tables.specs.Calls.{AreKept, AreDropped}
use Rattle.sqlite_keeper.specs.declared.bonds.Tally.{Tally}
use Rattle.sqlite_keeper.specs.Bases.{rows_in, seen_in, NeverLies, IsCounted, IsSince, IsSame, Stays}
use Rattle.sqlite_keeper.specs.Makes.{MakesFrom, as_staged}

pub all_clean : {S : Type 0} (g : Ghosts S) → NeverLies g → (h : Held S) → HasCleanDisk (state g h)
all_clean g never h = no_doubt (state g h).is_clean (never h.store)

-- a text that was compiled changed nothing, and one that wasn't left an open database with what was committed
unchanged_same : {S : Type 0} (g : Ghosts S) (old new : Held S) → IsUnchanged (state g old) (state g new) → IsSame g old new
unchanged_same g old new u = record { was_open = λ _. u.0.was_open; now = λ _. u.0.now_is }

not_run_same : {S : Type 0} (g : Ghosts S) (old new : Held S) (sql : List ℕ) (e : Error) → (IsTrue (state g old).is_open → (state g old).now ≡ (state g old).committed)
    → IsNotRun (state g old) (state g new) sql [] e → IsSame g old new
unfolding IsNotRun
not_run_same g old new sql e settled h = elim h [
  | inl stays ↦ unchanged_same g old new stays.1
  | inr failed ↦
      let rolled = failed.3 in
      record { was_open = rolled.was_open; now = λ up. (rolled.undone up).0 ∙ sym (settled (rolled.was_open up)) }
]

pub compiled_same : {S : Type 0} {A : Type 0} (g : Ghosts S) (old new : Held S) (sql : List ℕ) (P : A → Type 0) (outcome : Result A Error)
    → (IsTrue (state g old).is_open → (state g old).now ≡ (state g old).committed)
    → IfOk outcome (λ it. P it × IsUnchanged (state g old) (state g new)) → IfErr outcome (λ e. (params : Row) → IsNotRun (state g old) (state g new) sql params e)
    → IsSame g old new
compiled_same g old new sql P (Ok it) settled ok err = unchanged_same g old new ok.1
compiled_same g old new sql P (Err e) settled ok err = not_run_same g old new sql e settled (err [])

pub since_same : {S : Type 0} (g : Ghosts S) (tally : Tally) (seen : Database) (old new : Held S) → IsSince tally seen (state g old) → IsSame g old new
    → IsSince tally seen (state g new)
since_same g tally seen old new since same = record {
  counted = since.counted;
  same = λ up. same.now up ∙ since.same (same.was_open up);
}

-- what is seen as a transaction begins: the connection was found open, if it is
pub record HasBegun {S : Type 0} (g : Ghosts S) (tally : Tally) (seen : Database) (old found begun : Held S) : Type 0 where
  pub since : IsSince tally seen (state g old)
  pub same : IsSame g old found
  pub settled : (state g found).committed ≡ (state g found).now
  pub begins : begun ≡ record found { in_transaction = true }

-- what a transaction begins with, on an open connection
pub record IsBegun {S : Type 0} (g : Ghosts S) (tally : Tally) (seen : Database) (begun : Held S) : Type 0 where
  pub now : (state g begun).now ≡ seen
  pub committed : (state g begun).committed ≡ seen
  pub counted : IsCounted tally (state g begun).now

pub begun_open : {S : Type 0} (g : Ghosts S) (tally : Tally) (seen : Database) (old found begun : Held S) → HasBegun g tally seen old found begun
    → IsTrue (state g begun).is_open → IsBegun g tally seen begun
begun_open g tally seen old found begun b up =
    let is : IsTrue (state g found).is_open = rw b.begins at up in
    let found_is : (state g found).now ≡ seen = b.same.now is ∙ b.since.same (b.same.was_open is) in
    let now : (state g begun).now ≡ (state g found).now = rw b.begins refl in
    let committed : (state g begun).committed ≡ (state g found).committed = rw b.begins refl in
    let now_is : (state g begun).now ≡ seen = now ∙ found_is in
    record {
      now = now_is;
      committed = committed ∙ (b.settled ∙ found_is);
      counted = subst (λ (db : Database). IsCounted tally db) (sym now_is) b.since.counted;
    }

pub found_open : {S : Type 0} (g : Ghosts S) (tally : Tally) (seen : Database) (old found begun : Held S) → HasBegun g tally seen old found begun
    → IsTrue (state g found).is_open → IsBegun g tally seen begun
found_open g tally seen old found begun b is =
    let up : IsTrue (state g begun).is_open = rw b.begins is in
    begun_open g tally seen old found begun b up

-- after a transaction that was dropped the database holds what it held, while it is open
pub since_dropped : {S : Type 0} (g : Ghosts S) (never : NeverLies g) (tally : Tally) (seen : Database) (old found begun mid new : Held S)
    → HasBegun g tally seen old found begun → Stays g tally begun mid → AreDropped g mid new → IsSince tally seen (state g new)
since_dropped g never tally seen old found begun mid new b stays dropped = record {
  counted = b.since.counted;
  same = λ up.
      let clean = all_clean g never mid in
      let mid_open = dropped.kept.was_open up in
      let begun_is = begun_open g tally seen old found begun b (stays.was_open clean mid_open) in
      let kept = stays.committed clean begun_is.counted mid_open in
      dropped.now up ∙ (dropped.kept.committed up ∙ (kept ∙ begun_is.committed));
}

-- after one that was kept it holds the rows that the changes led to
pub record IsAfter (after : Tally) (changes : List Change) (seen now : Database) : Type 0 where
  pub counted : IsCounted after now
  pub led : apply_from 0 changes (rows_in seen) ≡ Ok (rows_in now)

pub after_kept : {S : Type 0} (g : Ghosts S) (tally after : Tally) (changes : List Change) (seen : Database) (begun mid new : Held S)
    → IsBegun g tally seen begun → MakesFrom 0 changes (rows_in (state g begun).now) (state g mid).now (Ok after) → AreKept g mid new
    → IsAfter after changes seen (state g new).now
after_kept g tally after changes seen begun mid new b made kept =
    let led : apply_from 0 changes (rows_in seen) ≡ Ok (rows_in (state g mid).now) = ap (λ (db : Database). apply_from 0 changes (rows_in db)) (sym b.now) ∙ made.1 in
    record {
      counted = subst (λ (db : Database). IsCounted after db) (sym kept.now) made.0;
      led = led ∙ ap (λ (db : Database). (let r : Result Tables ℕ = Ok (rows_in db) in r)) (sym kept.now);
    }

-- a log of one connection shows what that held
pub seen_is : {S : Type 0} (g : Ghosts S) (none one : List (Held S × Unit {0})) (now : Held S) → none ≡ [] → one ≡ none ++ (now, tt) ∷ [] → seen_in g one ≡ (state g now).now
seen_is g none one now a b = rw (b, a) refl

pub since_kept : {S : Type 0} (g : Ghosts S) (after : Tally) (none one : List (Held S × Unit {0})) (now : Held S) → none ≡ [] → one ≡ none ++ (now, tt) ∷ []
    → IsCounted after (state g now).now → IsSince after (seen_in g one) (state g now)
since_kept g after none one now a b counted =
    let is = seen_is g none one now a b in
    record {
      counted = subst (λ (db : Database). IsCounted after db) (sym is) counted;
      same = λ _. sym is;
    }

-- a fault of changes that names a place names that of the first that doesn't apply
pub rejected_at : (changes : List Change) (rows : Tables) (db : Database) (fault : AfterFault) → MakesFrom 0 changes rows db (Err fault) → IsRejectedAt changes rows fault
rejected_at changes rows db (Rejected index) h = apply_all_is changes rows ∙ h
rejected_at changes rows db Failed h = tt
rejected_at changes rows db Memory h = tt

pub none_rejected : (changes : List Change) (rows : Tables) (fault : KeepFault) → IsRejectedAt changes rows (as_staged fault)
none_rejected changes rows keep.Failed = tt
none_rejected changes rows keep.Memory = tt
