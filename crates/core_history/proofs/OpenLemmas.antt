-- Which sessions are open, at the store and by the events.
use Rattle.std.proofs.Common.{ℕ, zero, suc, ◌-◌, ◌≡◌, ◌≢◌, ◌<◌, ◌≤◌, ◌==◌, ◌&&◌, ◌||◌, Bool, true, false, not, cond, if◌then◌else◌, List}
use Rattle.std.proofs.Common.{[], ◌∷◌, ◌++◌, length, Some, None, slice_get, refl, sym, ap, subst, ◌∙◌, ⊎_elim, append-nil, length-set}
use Rattle.std.proofs.Common.{arith, rules, eq-eqb}
use Rattle.std.specs.List.{list_any}
use Rattle.std.proofs.lemmas.Bool.{eqb-true, cases_Bool, false≢true}
use Rattle.std.proofs.lemmas.List.Folds.{list_any-append}
use Rattle.rows_model.specs.declared.changes.Change.{Change}
use Rattle.rows_model.specs.declared.keys.Sid.{Sid}
use Rattle.sql_keeper.specs.declared.stores.Commit.{Commit}
use Rattle.sql_keeper.specs.declared.stores.Phase.{Phase}
use Rattle.sql_keeper.specs.declared.stores.Phase.TheVariants.{Committed, Ended}
use Rattle.sql_keeper.specs.Sessions.{may_commit as may, is_open as may_commit, with_phase, ended}
use Rattle.expiry_sweeper.specs.declared.replies.SweepWanted.TheVariants as sweep
use Rattle.session_client.specs.Grants.{GrantsView}
use Rattle.session_client.specs.declared.replies.Reply.TheVariants as Reply
use Rattle.session_client.specs.declared.replies.Wanted.TheVariants as wanted
use Rattle.core_history.specs.Cores.{HasPhases}
use Rattle.core_history.specs.Events.{Event, Called, Swept, commits_in, ends_in, log_of, ended_of, was_ended, has_committed}
use Rattle.core_history.specs.Machine.{World, plan_at, is_writer, is_open, ended_as}
use Rattle.core_history.specs.Requests.{after}
use Rattle.core_history.proofs.ShardsLemmas.{slice_get-set_same, slice_get-set_other}

-- whether the session may commit, by what it is and did
abbrev opened : Bool → Bool → Bool → Bool
opened writer committed ended = writer && not committed && not ended

-- whether this number is that
abbrev same : ℕ → ℕ → Bool
same number other = other == number

-- an event that makes no commit and ends nobody leaves each session as it was
pub opens_same : (world : World) (event : Event) (who : Sid) → commits_in event ≡ [] → ends_in event ≡ [] → is_open (after world event) who ≡ is_open world who
opens_same world event who no_commit no_end =
    let n = who.number in
    let writer = is_writer (plan_at n world.plans) in
    let mine : Commit → Bool = λ commit. commit.sid.number == n in
    let committed : has_committed n (event ∷ world.past) ≡ has_committed n world.past =
    ap (λ (l : List Commit). list_any mine (log_of world.past ++ l)) no_commit ∙ ap (list_any mine) (append-nil (log_of world.past)) in
    let ended : was_ended n (event ∷ world.past) ≡ was_ended n world.past = ap (λ (l : List ℕ). list_any (same n) (l ++ ended_of world.past)) no_end in
    ap (λ (b : Bool). opened writer b (was_ended n (event ∷ world.past))) committed ∙ ap (λ (b : Bool). opened writer (has_committed n world.past) b) ended

pub phases_same : (phases : List Phase) (world : World) (event : Event) → HasPhases phases world → commits_in event ≡ [] → ends_in event ≡ []
    → HasPhases phases (after world event)
phases_same phases world event has no_commit no_end =
    record {
      count = has.count;
      opens = λ who some. has.opens who some ∙ sym (opens_same world event who no_commit no_end);
    }

-- the phase of a session that is there, and its place
pub phase_there : (number : ℕ) (phases : List Phase) → 1 ≤ number
    → (if number == 0 then None else slice_get phases (number - 1)) ≡ slice_get phases (number - 1)
phase_there number phases h =
    let apart : (number == 0) ≡ false = grind (arith, rules) in
    ap (λ (b : Bool). cond b None (slice_get phases (number - 1))) apart

-- a session that is open is there
pub open_within : (who : Sid) (phases : List Phase) → may_commit who phases ≡ true → 1 ≤ who.number → who.number - 1 < length phases
open_within who phases h some = by phases (who.number - 1) (sym (ap may (phase_there who.number phases some)) ∙ h)
  where
    by : (xs : List Phase) (place : ℕ) → may (slice_get xs place) ≡ true → place < length xs
    by [] place h = absurd (false≢true h)
    by (x ∷ xs) zero h = omega arith
    by (x ∷ xs) (suc place) h = let e = by xs place h in omega (arith, e)

-- a session whose phase was changed has that phase
phase_same : (who : Sid) (phase : Phase) (phases : List Phase) → 1 ≤ who.number → who.number - 1 < length phases
    → may_commit who (with_phase who phase phases) ≡ may (Some phase)
phase_same who phase phases some within =
    ap may (phase_there who.number (with_phase who phase phases) some ∙ slice_get-set_same phases (who.number - 1) phase within)

phase_other : (who other : Sid) (phase : Phase) (phases : List Phase) → 1 ≤ who.number → 1 ≤ other.number → (who.number == other.number) ≡ false
    → may_commit other (with_phase who phase phases) ≡ may_commit other phases
phase_other who other phase phases some more apart =
    let differ : who.number - 1 ≢ other.number - 1 = λ e. false≢true (sym apart ∙ eq-eqb who.number other.number (omega arith)) in
    ap may (phase_there other.number (with_phase who phase phases) more
    ∙ slice_get-set_other phases (who.number - 1) (other.number - 1) phase differ ∙ sym (phase_there other.number phases more))

length_phase : (who : Sid) (phase : Phase) (phases : List Phase) → length (with_phase who phase phases) ≡ length phases
length_phase who phase phases = length-set phases (who.number - 1) phase

no_more : (a b : Bool) → ((a && false) && b) ≡ false
no_more true b = refl
no_more false b = refl

no_last : (a b : Bool) → ((a && b) && false) ≡ false
no_last true true = refl
no_last true false = refl
no_last false b = refl

or_last : (a : Bool) → (a || (true || false)) ≡ true
or_last true = refl
or_last false = refl

or_none : (a : Bool) → (a || (false || false)) ≡ a
or_none true = refl
or_none false = refl

sid_is : (a b : Sid) → a.number ≡ b.number → a ≡ b
sid_is a b e = ap (λ (n : ℕ). record { number = n }) e

-- the sessions after a commit
pub phases_committed : (phases : List Phase) (world : World) (who : Sid) (txn : List Change) (grants : GrantsView) (number : ℕ) → HasPhases phases world
    → 1 ≤ who.number → may_commit who phases ≡ true →
    HasPhases (with_phase who Committed phases) (after world (Called who (wanted.Commit txn grants) (Reply.Committed number txn grants)))
phases_committed phases world who txn grants number has some is_so =
    record {
      count = length_phase who Committed phases ∙ has.count;
      opens = λ other more. ⊎_elim (mine other more) (others other more) (cases_Bool (who.number == other.number));
    }
  where
    event : Event
    event = Called who (wanted.Commit txn grants) (Reply.Committed number txn grants)

    commits : (other : Sid)
        → has_committed other.number (event ∷ world.past) ≡ (has_committed other.number world.past || ((who.number == other.number) || false))
    commits other = list_any-append (λ commit. commit.sid.number == other.number) (log_of world.past) (record { sid = who; txn = txn } ∷ [])

    mine : (other : Sid) → 1 ≤ other.number → (who.number == other.number) ≡ true
        → may_commit other (with_phase who Committed phases) ≡ is_open (after world event) other
    mine other more same =
        let n : who.number ≡ other.number = eqb-true who.number other.number same in
        let writer = is_writer (plan_at other.number world.plans) in
        let closed : has_committed other.number (event ∷ world.past) ≡ true =
        commits other ∙ ap (λ (b : Bool). has_committed other.number world.past || (b || false)) same ∙ or_last (has_committed other.number world.past) in
        let P : Sid → Type 0 = λ s. may_commit s (with_phase who Committed phases) ≡ false in
        let there : may_commit other (with_phase who Committed phases) ≡ false =
        subst P (sid_is who other n) (phase_same who Committed phases some (open_within who phases is_so some)) in
        there
        ∙ sym (ap (λ (b : Bool). opened writer b (was_ended other.number (event ∷ world.past))) closed
        ∙ no_more writer (not (was_ended other.number (event ∷ world.past))))

    others : (other : Sid) → 1 ≤ other.number → (who.number == other.number) ≡ false
        → may_commit other (with_phase who Committed phases) ≡ is_open (after world event) other
    others other more apart =
        let writer = is_writer (plan_at other.number world.plans) in
        let kept : has_committed other.number (event ∷ world.past) ≡ has_committed other.number world.past =
        commits other ∙ ap (λ (b : Bool). has_committed other.number world.past || (b || false)) apart
        ∙ or_none (has_committed other.number world.past) in
        phase_other who other Committed phases some more apart ∙ has.opens other more
        ∙ sym (ap (λ (b : Bool). opened writer b (was_ended other.number (event ∷ world.past))) kept)

-- the sessions after an event that tells whether one was open, and ends it if it was
phases_closed : (phases : List Phase) (world : World) (who : Sid) (event : Bool → Event) → HasPhases phases world → 1 ≤ who.number →
    ((was : Bool) → commits_in (event was) ≡ []) → ends_in (event true) ≡ who.number ∷ []
    → ends_in (event false) ≡ [] → HasPhases (ended who phases) (after world (event (is_open world who)))
phases_closed phases world who event has some no_commit one_end no_end = by (is_open world who) (has.opens who some)
  where
    committed_as : (n : ℕ) → has_committed n (event true ∷ world.past) ≡ has_committed n world.past
    committed_as n =
        let mine : Commit → Bool = λ commit. commit.sid.number == n in
        ap (λ (l : List Commit). list_any mine (log_of world.past ++ l)) (no_commit true) ∙ ap (list_any mine) (append-nil (log_of world.past))

    ended_as : (n : ℕ) → was_ended n (event true ∷ world.past) ≡ ((who.number == n) || was_ended n world.past)
    ended_as n = ap (λ (l : List ℕ). list_any (same n) (l ++ ended_of world.past)) one_end

    closed : (other : Sid) → (who.number == other.number) ≡ true → is_open (after world (event true)) other ≡ false
    closed other mine =
        let writer = is_writer (plan_at other.number world.plans) in
        let committed = has_committed other.number (event true ∷ world.past) in
        ap (opened writer committed) (ended_as other.number ∙ ap (λ (b : Bool). b || was_ended other.number world.past) mine) ∙ no_last writer (not committed)

    as_before : (other : Sid) → (who.number == other.number) ≡ false → is_open (after world (event true)) other ≡ is_open world other
    as_before other apart =
        let writer = is_writer (plan_at other.number world.plans) in
        ap (opened writer (has_committed other.number (event true ∷ world.past))) (ended_as other.number
        ∙ ap (λ (b : Bool). b || was_ended other.number world.past) apart)
        ∙ ap (λ (b : Bool). opened writer b (was_ended other.number world.past)) (committed_as other.number)

    by : (was : Bool) → may_commit who phases ≡ was → HasPhases (ended who phases) (after world (event was))
    by true is_so =
        let here : ended who phases ≡ with_phase who Ended phases = ap (λ (b : Bool). cond b (with_phase who Ended phases) phases) is_so in
        let P : List Phase → Type 0 = λ xs. HasPhases xs (after world (event true)) in
        let Q : Sid → Type 0 = λ s. may_commit s (with_phase who Ended phases) ≡ false in
        subst P (sym here) (record {
          count = length_phase who Ended phases ∙ has.count;
          opens = λ other more. ⊎_elim
              (λ same. subst Q (sid_is who other (eqb-true who.number other.number same)) (phase_same who Ended phases some (open_within who phases is_so some))
              ∙ sym (closed other same))
              (λ apart. phase_other who other Ended phases some more apart ∙ has.opens other more ∙ sym (as_before other apart))
              (cases_Bool (who.number == other.number));
        })
    by false isnt =
        let here : ended who phases ≡ phases = ap (λ (b : Bool). cond b (with_phase who Ended phases) phases) isnt in
        let P : List Phase → Type 0 = λ xs. HasPhases xs (after world (event false)) in
        subst P (sym here) (phases_same phases world (event false) has (no_commit false) no_end)

-- the sessions after one was ended by its own turn
pub phases_ended : (phases : List Phase) (world : World) (who : Sid) → HasPhases phases world → 1 ≤ who.number →
    HasPhases (ended who phases) (after world (Called who wanted.End (Reply.End (is_open world who))))
phases_ended phases world who has some =
    phases_closed phases world who (λ was. Called who wanted.End (Reply.End was)) has some (λ was. refl) refl refl

-- the sessions after the sweeper ended one
pub phases_swept : (phases : List Phase) (world : World) (who : Sid) → HasPhases phases world → 1 ≤ who.number →
    HasPhases (ended who phases) (after world (Swept 0 (sweep.End who) None (ended_as who (is_open world who))))
phases_swept phases world who has some =
    phases_closed phases world who (λ was. Swept 0 (sweep.End who) None (ended_as who was)) has some (λ was. refl) refl refl
