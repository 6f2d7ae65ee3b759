-- Where sessions stand by the store's events, when one begins, and when one commits or is ended.
use Rattle.std.proofs.Common.{ℕ, zero, suc, ◌+◌, ◌-◌, ◌≡◌, ◌≢◌, ◌≤◌, ◌<◌, ◌==◌, ◌||◌, ◌&&◌, Bool, true, false, cond, if◌then◌else◌, List, []}
use Rattle.std.proofs.Common.{◌∷◌, ◌++◌, length, length-append, Option, None, Some, slice_get, slice_set, refl, sym, ap, subst, ◌∙◌, ⊎_elim, eqb-true, eq-eqb, arith}
use Rattle.std.proofs.lemmas.Bool.{false≢true, cases_lt}
use Rattle.rows_model.specs.declared.keys.Sid.{Sid}
use Rattle.sql_keeper.specs.declared.stores.Phase.{Phase}
use Rattle.sql_keeper.specs.declared.stores.Phase.TheVariants as phase
use Rattle.sql_keeper.specs.Sessions.{phase_of, may_commit, is_open, first_phase, with_begun, with_phase}
use Rattle.sql_keeper.proofs.StoreLemmas.{has-phase}
use Rattle.log_word.specs.declared.events.StoreEvent.{StoreEvent}
use Rattle.log_word.specs.declared.events.StoreEvent.TheVariants as event
use Rattle.log_word.specs.Events.{has_begun, may_write, is_over, IsOpen, AreInOrder}
use Rattle.key_freshness.proofs.MarkLemmas.{by_test}
use Rattle.bound_hub.specs.Knowns.{begin_count}
use Rattle.bound_hub.specs.Ties.{phase_by, AreSessions}
use Rattle.bound_hub.specs.Stores.{is_open_by}

module _ {X : Type 0} where
  -- what stands anywhere but at the end stands there with one more
  get_but_last : (xs : List X) (y : X) (place : ℕ) → place ≢ length xs → slice_get (xs ++ y ∷ []) place ≡ slice_get xs place
  get_but_last [] y zero n = absurd (n refl)
  get_but_last [] y (suc place) n = refl
  get_but_last (x ∷ xs) y zero n = refl
  get_but_last (x ∷ xs) y (suc place) n = get_but_last xs y place (λ e. n (ap suc e))

  get_last : (xs : List X) (y : X) → slice_get (xs ++ y ∷ []) (length xs) ≡ Some y
  get_last [] y = refl
  get_last (x ∷ xs) y = get_last xs y

  get_beyond : (xs : List X) (place : ℕ) → length xs ≤ place → slice_get xs place ≡ None
  get_beyond [] place le = refl
  get_beyond (x ∷ xs) zero le = absurd (omega (arith, le))
  get_beyond (x ∷ xs) (suc place) le = get_beyond xs place (omega (arith, le))

-- where the session of this number stands
abbrev phase_at : ℕ → List Phase → Option Phase
phase_at number sessions = if number == 0 then None else slice_get sessions (number - 1)

phase_at-suc : (place : ℕ) (sessions : List Phase) → phase_at (suc place) sessions ≡ slice_get sessions place
phase_at-suc place sessions = grind arith

phase_but_last : (number : ℕ) (sessions : List Phase) (new : Phase) → number ≢ suc (length sessions) → phase_at number (sessions ++ new ∷ []) ≡ phase_at number sessions
phase_but_last zero sessions new n = refl
phase_but_last (suc place) sessions new n =
    phase_at-suc place (sessions ++ new ∷ []) ∙ get_but_last sessions new place (λ e. n (ap suc e)) ∙ sym (phase_at-suc place sessions)

phase_last : (number : ℕ) (sessions : List Phase) (new : Phase) → number ≡ suc (length sessions) → phase_at number (sessions ++ new ∷ []) ≡ Some new
phase_last number sessions new e =
    subst (λ n. phase_at n (sessions ++ new ∷ []) ≡ Some new) (sym e) (phase_at-suc (length sessions) (sessions ++ new ∷ []) ∙ get_last sessions new)

phase_beyond : (number : ℕ) (sessions : List Phase) → number ≡ suc (length sessions) → phase_at number sessions ≡ None
phase_beyond number sessions e =
    subst (λ n. phase_at n sessions ≡ None) (sym e) (phase_at-suc (length sessions) sessions ∙ get_beyond sessions (length sessions) (omega arith))

-- of whom the events say nothing, that session has not begun
begun_by_none : (who : ℕ) (events : List StoreEvent) → phase_by who events ≡ None → has_begun who events ≡ false
begun_by_none who [] e = refl
begun_by_none who (event.Begin sid worker writes ∷ events) e =
    by_test (λ b. cond b (Some (first_phase writes)) (phase_by who events) ≡ None → (b || has_begun who events) ≡ false) (sid.number == who)
    (λ is some. absurd cc) (λ is none. begun_by_none who events none) e
begun_by_none who (event.Commit sid txn ∷ events) e =
    by_test (λ b. cond b (Some phase.Committed) (phase_by who events) ≡ None → has_begun who events ≡ false) (sid.number == who)
    (λ is some. absurd cc) (λ is none. begun_by_none who events none) e
begun_by_none who (event.End sid ∷ events) e =
    by_test (λ b. cond b (Some phase.Ended) (phase_by who events) ≡ None → has_begun who events ≡ false) (sid.number == who)
    (λ is some. absurd cc) (λ is none. begun_by_none who events none) e

-- a session that may commit is open
may_open : (stands : Option Phase) → may_commit stands ≡ true → stands ≡ Some phase.Open
may_open None e = absurd (false≢true e)
may_open (Some phase.Reads) e = absurd (false≢true e)
may_open (Some phase.Open) e = refl
may_open (Some phase.Committed) e = absurd (false≢true e)
may_open (Some phase.Ended) e = absurd (false≢true e)

-- where another session's phase is written, one stands as before
set_other : (xs : List Phase) (i j : ℕ) (x : Phase) → (j ≡ i → ⊥) → slice_get (slice_set xs i x) j ≡ slice_get xs j
set_other [] i j x n = refl
set_other (y ∷ ys) zero zero x n = absurd (n refl)
set_other (y ∷ ys) zero (suc j) x n = refl
set_other (y ∷ ys) (suc i) zero x n = refl
set_other (y ∷ ys) (suc i) (suc j) x n = set_other ys i j x (λ e. n (ap suc e))

set_length : (xs : List Phase) (i : ℕ) (x : Phase) → length (slice_set xs i x) ≡ length xs
set_length [] i x = refl
set_length (y ∷ ys) zero x = refl
set_length (y ∷ ys) (suc i) x = ap suc (set_length ys i x)

phase_but_written : (number written : ℕ) (sessions : List Phase) (new : Phase) → 1 ≤ written → (number ≡ written → ⊥)
    → phase_at number (slice_set sessions (written - 1) new) ≡ phase_at number sessions
phase_but_written zero written sessions new some n = refl
phase_but_written (suc place) written sessions new some n =
    phase_at-suc place (slice_set sessions (written - 1) new)
    ∙ set_other sessions (written - 1) place new (λ e. n (omega (arith, e, some)))
    ∙ sym (phase_at-suc place sessions)

-- a session that may write has begun
begun_to_write : (who : ℕ) (events : List StoreEvent) → may_write who events ≡ true → has_begun who events ≡ true
begun_to_write who [] e = absurd (false≢true e)
begun_to_write who (event.Begin sid worker writes ∷ events) e =
    by_test (λ b. ((b && writes) || may_write who events) ≡ true → (b || has_begun who events) ≡ true) (sid.number == who)
    (λ is may. refl) (λ is may. begun_to_write who events may) e
begun_to_write who (event.Commit sid txn ∷ events) e = begun_to_write who events e
begun_to_write who (event.End sid ∷ events) e = begun_to_write who events e

-- one that hasn't begun isn't over
unbegun_not_over : (who : ℕ) (events : List StoreEvent) → AreInOrder events → has_begun who events ≡ false → is_over who events ≡ false
unbegun_not_over who [] h e = refl
unbegun_not_over who (event.Begin sid worker writes ∷ events) h e =
    by_test (λ b. (b || has_begun who events) ≡ false → is_over who events ≡ false) (sid.number == who)
    (λ is never. absurd (false≢true (sym never))) (λ is never. unbegun_not_over who events h.1 never) e
unbegun_not_over who (event.Commit sid txn ∷ events) h e =
    by_test (λ b. (b || is_over who events) ≡ false) (sid.number == who)
    (λ is. absurd (false≢true (sym e ∙ begun_to_write who events (subst (λ n. may_write n events ≡ true) (eqb-true sid.number who is) h.0.0))))
    (λ is. unbegun_not_over who events h.1 e)
unbegun_not_over who (event.End sid ∷ events) h e =
    by_test (λ b. (b || is_over who events) ≡ false) (sid.number == who)
    (λ is. absurd (false≢true (sym e ∙ begun_to_write who events (subst (λ n. may_write n events ≡ true) (eqb-true sid.number who is) h.0.0))))
    (λ is. unbegun_not_over who events h.1 e)

opens_to_write : (writes : Bool) → Some (first_phase writes) ≡ Some phase.Open → writes ≡ true
opens_to_write true e = refl
opens_to_write false e = absurd cc

-- a session that is open by events in order has begun for writing, and has neither a Commit nor an End
pub open_by_events : (who : ℕ) (events : List StoreEvent) → AreInOrder events → phase_by who events ≡ Some phase.Open → IsOpen who events
open_by_events who [] h e = absurd cc
open_by_events who (event.Begin sid worker writes ∷ events) h e =
    by_test (λ b. cond b (Some (first_phase writes)) (phase_by who events) ≡ Some phase.Open → (((b && writes) || may_write who events) ≡ true) × (is_over who events ≡ false)) (sid.number == who)
    (λ is begins. (
      ap (λ b. b || may_write who events) (opens_to_write writes begins),
      unbegun_not_over who events h.1 (subst (λ n. has_begun n events ≡ false) (eqb-true sid.number who is) h.0),
    ))
    (λ is before. open_by_events who events h.1 before) e
open_by_events who (event.Commit sid txn ∷ events) h e =
    by_test (λ b. cond b (Some phase.Committed) (phase_by who events) ≡ Some phase.Open → (may_write who events ≡ true) × ((b || is_over who events) ≡ false)) (sid.number == who)
    (λ is done. absurd cc) (λ is before. open_by_events who events h.1 before) e
open_by_events who (event.End sid ∷ events) h e =
    by_test (λ b. cond b (Some phase.Ended) (phase_by who events) ≡ Some phase.Open → (may_write who events ≡ true) × ((b || is_over who events) ≡ false)) (sid.number == who)
    (λ is done. absurd cc) (λ is before. open_by_events who events h.1 before) e

-- and one that has begun for writing, and isn't open by them, is over
pub closed_is_over : (who : ℕ) (events : List StoreEvent) → AreInOrder events → may_write who events ≡ true → is_open_by who events ≡ false → is_over who events ≡ true
closed_is_over who [] h may e = absurd (false≢true may)
closed_is_over who (event.Begin sid worker writes ∷ events) h may e =
    by_test (λ b. ((b && writes) || may_write who events) ≡ true → may_commit (cond b (Some (first_phase writes)) (phase_by who events)) ≡ false → is_over who events ≡ true)
    (sid.number == who)
    (λ is begins closed. by writes (subst (λ n. has_begun n events ≡ false) (eqb-true sid.number who is) h.0) begins closed)
    (λ is before closed. closed_is_over who events h.1 before closed) may e
  where
    by : (w : Bool) → has_begun who events ≡ false → (w || may_write who events) ≡ true → may_commit (Some (first_phase w)) ≡ false → is_over who events ≡ true
    by true never begins closed = absurd (false≢true (sym closed))
    by false never begins closed = absurd (false≢true (sym never ∙ begun_to_write who events begins))
closed_is_over who (event.Commit sid txn ∷ events) h may e =
    by_test (λ b. may_commit (cond b (Some phase.Committed) (phase_by who events)) ≡ false → (b || is_over who events) ≡ true) (sid.number == who)
    (λ is closed. refl) (λ is closed. closed_is_over who events h.1 may closed) e
closed_is_over who (event.End sid ∷ events) h may e =
    by_test (λ b. may_commit (cond b (Some phase.Ended) (phase_by who events)) ≡ false → (b || is_over who events) ≡ true) (sid.number == who)
    (λ is closed. refl) (λ is closed. closed_is_over who events h.1 may closed) e

module _ (first : ℕ) (events : List StoreEvent) (sessions : List Phase) (are : AreSessions first events sessions) where
  -- the next session has not begun
  pub next_is_new : (sid : Sid) → sid.number ≡ suc (length sessions) → has_begun sid.number events ≡ false
  next_is_new sid next =
      let late : first < sid.number = let m = are.many in omega (arith, m, next) in
      begun_by_none sid.number events (sym (are.since sid late) ∙ phase_beyond sid.number sessions next)

  -- and once it has begun the sessions are those of the events
  pub sessions_with_begin : (sid : Sid) (worker : ℕ) (writes : Bool) → sid.number ≡ suc (length sessions)
      → AreSessions first (event.Begin sid worker writes ∷ events) (with_begun writes sessions)
  sessions_with_begin sid worker writes next = record {
    many = let m = are.many in let e = length-append sessions (first_phase writes ∷ []) in omega (arith, m, e);
    since = λ who late.
        by_test (λ b. phase_of who (with_begun writes sessions) ≡ cond b (Some (first_phase writes)) (phase_by who.number events)) (sid.number == who.number)
        (λ is. phase_last who.number sessions (first_phase writes) (sym (eqb-true sid.number who.number is) ∙ next))
        (λ is. phase_but_last who.number sessions (first_phase writes) (other who is) ∙ are.since who late);
    before = λ who early. (
      ap may_commit (phase_but_last who.number sessions (first_phase writes) (λ e. let m = are.many in absurd (omega (arith, m, e, early)))) ∙ (are.before who early).0,
      by_test (λ b. cond b (Some (first_phase writes)) (phase_by who.number events) ≡ None) (sid.number == who.number)
          (λ is. let same = eqb-true sid.number who.number is in let m = are.many in absurd (omega (arith, m, same, next, early)))
          (λ is. (are.before who early).1),
    );
  }
    where
      other : (who : Sid) → (sid.number == who.number) ≡ false → who.number ≢ suc (length sessions)
      other who is e = false≢true (sym is ∙ eq-eqb sid.number who.number (next ∙ sym e))

  -- whether a session is open, the events tell
  pub open_is_by : (who : Sid) → is_open who sessions ≡ is_open_by who.number events
  open_is_by who =
      ⊎_elim
      (λ late. ap may_commit (are.since who late))
      (λ early. (are.before who early).0 ∙ sym (ap may_commit (are.before who early).1))
      (cases_lt first who.number)

  -- a session that is open began since
  open_is_late : (sid : Sid) → is_open sid sessions ≡ true → first < sid.number
  open_is_late sid may =
      ⊎_elim (λ late. late) (λ early. absurd (false≢true (sym (are.before sid early).0 ∙ may))) (cases_lt first sid.number)

  -- and is open by the events
  pub open_by : (sid : Sid) → is_open sid sessions ≡ true → phase_by sid.number events ≡ Some phase.Open
  open_by sid may = sym (are.since sid (open_is_late sid may)) ∙ may_open (phase_of sid sessions) may

  -- once it is open no more the sessions are those of the events
  pub sessions_with_close : (sid : Sid) (last : Phase) (close : StoreEvent) → is_open sid sessions ≡ true
      → begin_count (close ∷ events) ≡ begin_count events
      → ((who : ℕ) → phase_by who (close ∷ events) ≡ cond (sid.number == who) (Some last) (phase_by who events))
      → AreSessions first (close ∷ events) (with_phase sid last sessions)
  sessions_with_close sid last close may count by = record {
    many = set_length sessions (sid.number - 1) last ∙ are.many ∙ ap (λ n. first + n) (sym count);
    since = λ who late.
        by_test (λ b. phase_of who (with_phase sid last sessions) ≡ cond b (Some last) (phase_by who.number events)) (sid.number == who.number)
        (λ is.
        ap (λ n. phase_at n (with_phase sid last sessions)) (sym (eqb-true sid.number who.number is))
        ∙ has-phase sid last sessions (may_open (phase_of sid sessions) may))
        (λ is. phase_but_written who.number sid.number sessions last some (apart who is) ∙ are.since who late)
        ∙ sym (by who.number);
    before = λ who early. (
      ap may_commit (phase_but_written who.number sid.number sessions last some (older who early)) ∙ (are.before who early).0,
      by who.number
          ∙ by_test (λ b. cond b (Some last) (phase_by who.number events) ≡ None) (sid.number == who.number)
          (λ is. absurd (older who early (sym (eqb-true sid.number who.number is))))
          (λ is. (are.before who early).1),
    );
  }
    where
      some : 1 ≤ sid.number
      some = let late = open_is_late sid may in omega (arith, late)

      apart : (who : Sid) → (sid.number == who.number) ≡ false → who.number ≡ sid.number → ⊥
      apart who is e = false≢true (sym is ∙ eq-eqb sid.number who.number (sym e))

      older : (who : Sid) → who.number ≤ first → who.number ≡ sid.number → ⊥
      older who early e = let late = open_is_late sid may in absurd (omega (arith, late, early, e))
