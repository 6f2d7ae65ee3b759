-- What a store tells after a commit, and which sessions are open.
use Rattle.std.proofs.Common.{◌≡◌, ◌≢◌, ℕ, ◌+◌, ◌-◌, ◌^◌, ◌≤◌, ◌⊎◌, inl, inr, Bool, true, false, List, [], ◌∷◌, ◌++◌, length, Option, Some}
use Rattle.std.proofs.Common.{None, IsSome, Ok, slice_get, slice_set, slice_index_or, if◌then◌else◌, ◌==◌, zero, suc, refl, sym, ap, ◌∙◌}
use Rattle.std.proofs.Common.{arith}
use Rattle.std.proofs.lemmas.List.Sums.{fold-append}
use Rattle.std.proofs.lemmas.List.Elements.{All-push, All-weaker}
use Rattle.std.proofs.lemmas.List.Quantifiers.{all_pairs_push}
use Rattle.std.proofs.lemmas.List.{length_push}
use Rattle.rows_model.specs.declared.keys.QKey.{QKey}
use Rattle.rows_model.specs.declared.keys.Sid.{Sid}
use Rattle.key_shard.specs.Permit.{Permit}
use Rattle.sql_keeper.specs.Commits.{commit_fault, covered_fault, uncovered}
use Rattle.sql_keeper.specs.Faults.{FailedSince}
use Rattle.rows_model.specs.declared.changes.Change.{Change}
use Rattle.rows_model.specs.Rows.{Tables}
use Rattle.rows_model.specs.Changes.{apply_all}
use Rattle.sql_keeper.specs.declared.stores.Commit.{Commit}
use Rattle.sql_keeper.specs.declared.stores.Phase.{Phase}
use Rattle.sql_keeper.specs.declared.stores.Phase.TheVariants.{Reads, Open, Committed, Ended}
use Rattle.sql_keeper.specs.Log.{rows_after, after_commit, led_to}
use Rattle.sql_keeper.specs.Sessions.{phase_of, may_commit, is_open, with_phase}
use Rattle.sql_keeper.specs.Stores.{Ledger, IsLedger, with_commit}

-- rows that are told are some rows
pub known-at : (known_rows : Option Tables) → IsSome known_rows → (rows : Tables) × (known_rows ≡ Some rows)
known-at (Some rows) h = (rows, refl)
known-at None h = grind (arith, h)

-- a transaction that applies on the rows after the log leads to those after the longer log
pub rows-committed : (opening : Tables) (log : List Commit) (sid : Sid) (txn : List Change) (after : Tables)
    → apply_all txn (rows_after opening log) ≡ Ok after
    → after ≡ rows_after opening (log ++ record { sid = sid; txn = txn } ∷ [])
rows-committed opening log sid txn after h =
    sym (fold-append after_commit opening log (record { sid = sid; txn = txn } ∷ []) ∙ ap (led_to (rows_after opening log)) h)

-- a session that may commit is open
pub may-open : (phase : Option Phase) → may_commit phase ≡ true → phase ≡ Some Open
may-open None h = grind (arith, h)
may-open (Some Reads) h = grind (arith, h)
may-open (Some Open) h = refl
may-open (Some Committed) h = grind (arith, h)
may-open (Some Ended) h = grind (arith, h)

-- what stands at one place is as before when another place is written
get-set_other : (xs : List Phase) (i j : ℕ) (x : Phase) → j ≢ i → slice_get (slice_set xs i x) j ≡ slice_get xs j
get-set_other [] i j x h = refl
get-set_other (y ∷ ys) zero zero x h = absurd (h refl)
get-set_other (y ∷ ys) zero (suc j) x h = refl
get-set_other (y ∷ ys) (suc i) zero x h = refl
get-set_other (y ∷ ys) (suc i) (suc j) x h = get-set_other ys i j x (λ e. h (ap suc e))

-- what is written at a place of the list stands there
get-set_same : (xs : List Phase) (i : ℕ) (x y : Phase) → slice_get xs i ≡ Some y → slice_get (slice_set xs i x) i ≡ Some x
get-set_same [] i x y h = grind (arith, h)
get-set_same (z ∷ zs) zero x y h = refl
get-set_same (z ∷ zs) (suc i) x y h = get-set_same zs i x y h

-- a session that has begun has a number from 1, and stands in its place
begun-place : (number : ℕ) (sessions : List Phase) (phase : Phase) → (if number == 0 then None else slice_get sessions (number - 1)) ≡ Some phase
    → (1 ≤ number) × (slice_get sessions (number - 1) ≡ Some phase)
begun-place zero sessions phase h = grind (arith, h)
begun-place (suc n) sessions phase h = (omega arith, grind (arith, h))

-- a session that stands in a place has begun
place-begun : (number : ℕ) (sessions : List Phase) (phase : Phase) → 1 ≤ number → slice_get sessions (number - 1) ≡ Some phase
    → (if number == 0 then None else slice_get sessions (number - 1)) ≡ Some phase
place-begun zero sessions phase some h = absurd (omega arith)
place-begun (suc n) sessions phase some h = grind (arith, h)

elsewhere : (number place : ℕ) (phase : Phase) (sessions : List Phase) → (1 ≤ number → number - 1 ≢ place)
    → (if number == 0 then None else slice_get (slice_set sessions place phase) (number - 1)) ≡ (if number == 0 then None else slice_get sessions (number - 1))
elsewhere zero place phase sessions apart = refl
elsewhere (suc n) place phase sessions apart =
    let same = get-set_other sessions place (suc n - 1) phase (apart (omega arith)) in
    grind (arith, same)

-- a session of another number stands as before when the phase of one that is open changes
pub phase-elsewhere : (who other : Sid) (phase : Phase) (sessions : List Phase)
    → phase_of who sessions ≡ Some Open
    → (other.number ≡ who.number → ⊥)
    → phase_of other (with_phase who phase sessions) ≡ phase_of other sessions
phase-elsewhere who other phase sessions is_open apart =
    let here = begun-place who.number sessions Open is_open in
    elsewhere other.number (who.number - 1) phase sessions (λ some e. apart (omega (arith, here.0, some, e)))

-- a session that is open hasn't the number of one that has committed
pub other-number : (who other : Sid) (sessions : List Phase)
    → phase_of who sessions ≡ Some Open
    → phase_of other sessions ≡ Some Committed
    → other.number ≢ who.number
other-number who other sessions is_open done same =
    grind (arith, sym is_open ∙ ap (λ (n : ℕ). if n == 0 then None else slice_get sessions (n - 1)) (sym same) ∙ done)

-- a session that has committed still has, when the phase of one that is open changes
pub still-committed : (who other : Sid) (phase : Phase) (sessions : List Phase)
    → phase_of who sessions ≡ Some Open
    → phase_of other sessions ≡ Some Committed
    → phase_of other (with_phase who phase sessions) ≡ Some Committed
still-committed who other phase sessions is_open done =
    let here = begun-place who.number sessions Open is_open in
    let there = begun-place other.number sessions Committed done in
    let apart = other-number who other sessions is_open done in
    let places : other.number - 1 ≢ who.number - 1 = λ e. apart (omega arith) in
    place-begun other.number (with_phase who phase sessions) Committed there.0
    (get-set_other sessions (who.number - 1) (other.number - 1) phase places ∙ there.1)

-- the session whose phase is changed has that phase
pub has-phase : (who : Sid) (phase : Phase) (sessions : List Phase)
    → phase_of who sessions ≡ Some Open
    → phase_of who (with_phase who phase sessions) ≡ Some phase
has-phase who phase sessions is_open =
    let here = begun-place who.number sessions Open is_open in
    place-begun who.number (with_phase who phase sessions) phase here.0 (get-set_same sessions (who.number - 1) phase Open here.1)

-- the log of a ledger after a commit
pub ledger-committed : (ledger : Ledger) (sid : Sid) (txn : List Change)
    → IsLedger ledger → is_open sid ledger.sessions ≡ true → length ledger.log ≢ ledger.cap → IsLedger (with_commit sid txn ledger)
ledger-committed ledger sid txn h may few =
    let is_open : phase_of sid ledger.sessions ≡ Some Open = may-open (phase_of sid ledger.sessions) may in
    let new : Commit = record { sid = sid; txn = txn } in
    let Done : Commit → Type 0 = λ commit. phase_of commit.sid (with_phase sid Committed ledger.sessions) ≡ Some Committed in
    let was : Commit → Type 0 = λ commit. phase_of commit.sid ledger.sessions ≡ Some Committed in
    record {
      few = omega (arith, length_push ledger.log new, h.few, few);
      committed =
          All-push Done ledger.log new (All-weaker was Done (λ commit done. still-committed sid commit.sid Committed ledger.sessions is_open done)
          ledger.log h.committed) (has-phase sid Committed ledger.sessions is_open);
      once = all_pairs_push (λ (commit later : Commit). commit.sid.number ≢ later.sid.number) ledger.log new h.once
          (λ k d within. other-number sid (slice_index_or ledger.log k d).sid ledger.sessions is_open (h.committed k d within));
    }

-- a commit that no fault refuses is one of an open session, and the log has room for it
pub admitted : (may : Bool) (who : Sid) (grants : List Permit) (changes : List Change) (count cap : ℕ)
    → commit_fault may who grants changes count cap ≡ None → (may ≡ true) × (count ≢ cap)
admitted false who grants changes count cap h = grind (arith, h)
admitted true who grants changes count cap h = (refl, room (uncovered who grants changes) h)
  where
    room : (key : Option QKey) → covered_fault key count cap ≡ None → count ≢ cap
    room (Some key) h = grind (arith, h)
    room None h = λ e. grind (arith, h, e)

-- the failed calls are still so many where no call fails
pub failed-same : (first : Option ℕ) (failed before after : ℕ) → FailedSince first failed before → after ≡ before → FailedSince first failed after
failed-same first failed before after since same = λ start named.
    let was = since start named in
    record { few = still start was.few; none = λ h. same ∙ was.none h }
  where
    still : (start : ℕ) → (start + failed ≤ before) ⊎ (before ≡ 2 ^ 64 - 1) → (start + failed ≤ after) ⊎ (after ≡ 2 ^ 64 - 1)
    still start (inl h) = inl (omega arith)
    still start (inr h) = inr (omega arith)
