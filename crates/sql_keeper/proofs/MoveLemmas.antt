-- A session that is closed stays closed.
use Rattle.std.proofs.Common.{◌≡◌, ℕ, ◌-◌, ◌==◌, ◌<◌, ◌≤◌, if◌then◌else◌, Bool, true, false, zero, suc, List, [], ◌∷◌, ◌++◌, length, Some}
use Rattle.std.proofs.Common.{None, slice_get, slice_set, refl, ap, ◌∙◌, arith}
use Rattle.rows_model.specs.declared.keys.Sid.{Sid}
use Rattle.sql_keeper.specs.declared.stores.Phase.{Phase}
use Rattle.sql_keeper.specs.declared.stores.Phase.TheVariants.{Committed, Ended}
use Rattle.sql_keeper.specs.Sessions.{may_commit, is_open, first_phase, with_begun, with_phase}
use Rattle.sql_keeper.specs.Moves.{Begin, End, Commit, Call, ClosedStaysClosed}

-- a place that isn't open isn't after another phase is written, if that isn't open
closed-at : (sessions : List Phase) (place written : ℕ) (phase : Phase) → may_commit (Some phase) ≡ false
    → may_commit (slice_get sessions place) ≡ false → may_commit (slice_get (slice_set sessions written phase) place) ≡ false
closed-at [] place written phase closed h = h
closed-at (x ∷ xs) zero zero phase closed h = closed
closed-at (x ∷ xs) zero (suc written) phase closed h = h
closed-at (x ∷ xs) (suc place) zero phase closed h = h
closed-at (x ∷ xs) (suc place) (suc written) phase closed h = closed-at xs place written phase closed h

-- what stands in a place is as before when one more is put behind
get-before : (sessions : List Phase) (place : ℕ) (phase : Phase) → place < length sessions → slice_get (sessions ++ phase ∷ []) place ≡ slice_get sessions place
get-before [] place phase within = absurd (omega arith)
get-before (x ∷ xs) zero phase within = refl
get-before (x ∷ xs) (suc place) phase within = get-before xs place phase (omega arith)

-- a session isn't open where its place isn't
closed-number : (number : ℕ) (sessions next : List Phase)
    → (1 ≤ number → may_commit (slice_get sessions (number - 1)) ≡ false → may_commit (slice_get next (number - 1)) ≡ false)
    → may_commit (if number == 0 then None else slice_get sessions (number - 1)) ≡ false
    → may_commit (if number == 0 then None else slice_get next (number - 1)) ≡ false
closed-number zero sessions next step h = refl
closed-number (suc n) sessions next step h =
    let was : may_commit (slice_get sessions (suc n - 1)) ≡ false = grind (arith, h) in
    let is = step (omega arith) was in
    grind (arith, is)

-- a session that isn't open isn't after another phase is written, if that isn't open
closed-written : (who other : Sid) (phase : Phase) (sessions : List Phase) → may_commit (Some phase) ≡ false
    → is_open who sessions ≡ false → is_open who (with_phase other phase sessions) ≡ false
closed-written who other phase sessions closed =
    closed-number who.number sessions (with_phase other phase sessions) (λ _. closed-at sessions (who.number - 1) (other.number - 1) phase closed)

closed-ended : (may : Bool) (who other : Sid) (sessions : List Phase) → is_open who sessions ≡ false
    → is_open who (if may then with_phase other Ended sessions else sessions) ≡ false
closed-ended true who other sessions h = closed-written who other Ended sessions refl h
closed-ended false who other sessions h = h

pub closed-stays-closed : ClosedStaysClosed
closed-stays-closed ledger (Begin writes) who few h =
    closed-number who.number ledger.sessions (with_begun writes ledger.sessions)
    (λ some was. ap may_commit (get-before ledger.sessions (who.number - 1) (first_phase writes) (omega (arith, some, few))) ∙ was) h
closed-stays-closed ledger (End other) who few h = closed-ended (is_open other ledger.sessions) who other ledger.sessions h
closed-stays-closed ledger (Commit other txn) who few h = closed-written who other Committed ledger.sessions refl h
closed-stays-closed ledger (Call true) who few h = h
closed-stays-closed ledger (Call false) who few h = h
