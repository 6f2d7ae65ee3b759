-- What the replies of the store show by the events that its pass has seen, and that nothing seen is lost.
use Rattle.std.proofs.Common.{ℕ, suc, ◌+◌, ◌≡◌, Bool, true, false, ◌||◌, List, length, take, Option, None, Some, IsSome, is_none, Result, Ok, Err, IfOk}
use Rattle.std.proofs.Common.{refl, sym, ap, subst, ◌∙◌, arith}
use Rattle.std.proofs.lemmas.Bool.{false≢true}
use Rattle.rows_model.specs.declared.keys.QKey.{QKey}
use Rattle.rows_model.specs.declared.keys.Sid.{Sid}
use Rattle.rows_model.specs.declared.changes.Change.{Change}
use Rattle.rows_model.specs.declared.refusals.Memory.{Memory}
use Rattle.rows_model.specs.Rows.{Tables}
use Rattle.rows_model.specs.Changes.{apply_all}
use Rattle.rows_model.specs.Query as query
use Rattle.key_shard.specs.Permit.{Permit}
use Rattle.sql_keeper.specs.declared.stores.Answer.{Answer}
use Rattle.sql_keeper.specs.declared.stores.Commit.{Commit}
use Rattle.sql_keeper.specs.declared.faults.AfterFault.{AfterFault}
use Rattle.sql_keeper.specs.declared.faults.CommitFault.{CommitFault}
use Rattle.sql_keeper.specs.declared.faults.KeepFault.{KeepFault}
use Rattle.sql_keeper.specs.Commits.{commit_fault}
use Rattle.sql_keeper.specs.Faults.{keep_failed, staged_failed, is_failure, Counts}
use Rattle.sql_keeper.specs.Keepers.{AnswersAfter}
use Rattle.sql_keeper.specs.Log.{rows_after}
use Rattle.sql_keeper.specs.Sessions.{is_open}
use Rattle.sql_keeper.specs.Stores.{StoreView, rows_of, first_fault, with_session, with_call, IsRefusal, IsTrueFault}
use Rattle.shard_lock.specs.Names.{IsNamedStore}
use Rattle.executor.specs.OnStore.{Goes, IsAnswer, IsStaged, IsCommitted, IsRefused}
use Rattle.log_word.specs.declared.events.StoreEvent.TheVariants as event
use Rattle.log_word.specs.declared.seen.Seen.{Seen}
use Rattle.log_word.specs.Events.{begins, has_begun}
use Rattle.log_word.specs.Steps.{IsBeginning}
use Rattle.log_word.specs.Views.{with_event, with_failure, with_stop}
use Rattle.log_word.specs.Passes.{WordView, PassView}
use Rattle.log_word.proofs.StartLemmas.{any_goes_on}
use Rattle.log_word.proofs.ViewLemmas.{beginning_same, beginning_trans, event_goes_on, failure_goes_on, stop_goes_on}
use Rattle.key_freshness.proofs.KnownLemmas.{take-whole}
use Rattle.bound_hub.specs.Knowns.{commits_of}
use Rattle.bound_hub.specs.Ties.{IsBoundStore}
use Rattle.bound_hub.specs.Facts.{answer_after}
use Rattle.bound_hub.specs.Stores.{is_open_by, rows_by, fault_by, with_end_of, with_keeper_call, SeesFailure, ShowsBegin, ShowsEnd, ShowsAnswer, ShowsStaged, ShowsCommit, ShowsRefusal}
use Rattle.bound_hub.proofs.SessionLemmas.{open_is_by}
use Rattle.bound_hub.proofs.StoreTies.{next_number}

-- an end loses nothing that was seen
pub end_goes_on : (sid : Sid) (was : Bool) (old new : Seen) → new ≡ with_end_of sid was old → IsBeginning old new
end_goes_on sid true old new is = subst (IsBeginning old) (sym is) (event_goes_on (event.End sid) old)
end_goes_on sid false old new is = subst (IsBeginning old) (sym is) (beginning_same old)

-- nor does a call of the keeper
after_call : (did_fail stopped : Bool) (old : Seen) → IsBeginning old (with_keeper_call did_fail stopped old)
after_call true stopped old = beginning_trans old (with_failure old) (with_stop stopped (with_failure old)) (failure_goes_on old) (stop_goes_on stopped (with_failure old))
after_call false stopped old = stop_goes_on stopped old

pub call_goes_on : (did_fail stopped : Bool) (old new : Seen) → new ≡ with_keeper_call did_fail stopped old → IsBeginning old new
call_goes_on did_fail stopped old new is = subst (IsBeginning old) (sym is) (after_call did_fail stopped old)

-- nor does a commit
pub commit_goes_on : (sid : Sid) (txn : List Change) (stopped : Bool) (old new : Seen) → new ≡ with_event (event.Commit sid txn) (with_keeper_call false stopped old) → IsBeginning old new
commit_goes_on sid txn stopped old new is =
    let heard = with_keeper_call false stopped old in
    subst (IsBeginning old) (sym is) (beginning_trans old heard (with_event (event.Commit sid txn) heard) (after_call false stopped old) (event_goes_on (event.Commit sid txn) heard))

-- and whoever saw less before sees a failed call, where the call failed
pub failure_is_seen : (did_fail stopped : Bool) (old here new : Seen) → IsBeginning old here → new ≡ with_keeper_call did_fail stopped here → SeesFailure did_fail old new
failure_is_seen true stopped old here new begins is =
    let least = begins.failures in
    let e : new.failures ≡ suc here.failures = ap (λ (s : Seen). s.failures) is in
    omega (arith, least, e)
failure_is_seen false stopped old here new begins is = tt

-- a call of the keeper tells of no event
pub call_keeps_events : (did_fail stopped : Bool) (seen : Seen) → (with_keeper_call did_fail stopped seen).events ≡ seen.events
call_keeps_events true stopped seen = refl
call_keeps_events false stopped seen = refl

either_is : (did_fail stopped : Bool) (seen : Seen) → (with_keeper_call did_fail stopped seen).stopped ≡ (seen.stopped || stopped)
either_is true stopped seen = refl
either_is false stopped seen = refl

neither : (a : Bool) (known_rows : Option Tables) → (a || is_none known_rows) ≡ false → IsSome known_rows
neither true known_rows e = absurd (false≢true (sym e))
neither false None e = absurd (false≢true (sym e))
neither false (Some rows) e = refl

-- the store tells its rows where it isn't seen to have stopped
pub still_tells : (did_fail : Bool) (known_rows : Option Tables) (old new : Seen) → new ≡ with_keeper_call did_fail (is_none known_rows) old → new.stopped ≡ false → IsSome known_rows
still_tells did_fail known_rows old new is running =
    neither old.stopped known_rows (sym (either_is did_fail (is_none known_rows) old) ∙ sym (ap (λ (s : Seen). s.stopped) is) ∙ running)

-- an ask goes as its clauses say
pub ask_goes : (old new : StoreView) (asked : Result Answer KeepFault) {X : Type 0} → new.ledger ≡ with_call (keep_failed asked) old.ledger → Counts (keep_failed asked) old.faults new.faults
    → (IsSome new.known_rows → IsSome old.known_rows × X) → Goes (keep_failed asked) (with_call (keep_failed asked) old.ledger) old new
ask_goes old new asked ledger counts tells = record { ledger_is = ledger; counted = counts; known_before = λ some. (tells some).0 }

pub answers : (key : QKey) (old new : StoreView) (asked : Result Answer KeepFault) → IfOk asked (λ given. (given.key ≡ key) × (given.stamp ≡ length old.ledger.log))
    → (IsSome new.known_rows → IsSome old.known_rows × IfOk asked (λ given. given.value ≡ query.answer key (rows_of old.ledger))) → IfOk asked (IsAnswer key old new)
answers key old new (Ok given) is tells = record { of_key = is.0; stamped = is.1; value_is = λ some. (tells some).1 }
answers key old new (Err fault) is tells = tt

-- and so does one on staged rows
pub staged_goes : (old new : StoreView) (asked : Result (List ℕ) AfterFault) {X : Type 0} → new.ledger ≡ with_call (staged_failed asked) old.ledger → Counts (staged_failed asked) old.faults new.faults
    → (IsSome new.known_rows → IsSome old.known_rows × X) → Goes (staged_failed asked) (with_call (staged_failed asked) old.ledger) old new
staged_goes old new asked ledger counts tells = record { ledger_is = ledger; counted = counts; known_before = λ some. (tells some).0 }

pub staged_is : (key : QKey) (txn : List Change) (old new : StoreView) (asked : Result (List ℕ) AfterFault) → new.ledger ≡ with_call (staged_failed asked) old.ledger
    → Counts (staged_failed asked) old.faults new.faults → (IsSome new.known_rows → IsSome old.known_rows × AnswersAfter txn key (rows_of old.ledger) asked) → IsStaged key txn old new asked
staged_is key txn old new asked ledger counts tells = record { goes = staged_goes old new asked ledger counts tells; value_is = λ some. (tells some).1 }

-- a commit for which there was no memory for a copy leaves the store
pub copy_refused : (sid : Sid) (txn : List Change) (permits : List Permit) (old : StoreView) (fault : CommitFault) → is_failure fault ≡ false
    → IsRefusal (first_fault old.ledger sid permits txn) fault → ((rows : Tables) → IsTrueFault txn rows fault) → IsRefused sid txn permits old old fault
copy_refused sid txn permits old fault unasked refusal any_rows = record {
  refusal = refusal;
  goes = subst (λ b. Goes b (with_call b old.ledger) old old) (sym unasked) (record { ledger_is = refl; counted = refl; known_before = λ some. some });
  true_place = λ some. any_rows (rows_of old.ledger);
}

or_same : (b : Bool) → (b || b) ≡ b
or_same true = refl
or_same false = refl

module _ (word : WordView) (begun failed : ℕ) (old new : StoreView) (pass : PassView) (bound : IsBoundStore word begun failed old pass) where
  -- the pass had seen already whether the store tells its rows
  pub heard_already : pass.seen ≡ with_keeper_call false (is_none old.known_rows) pass.seen
  heard_already =
      ap (λ b. record { events = pass.seen.events; failures = pass.seen.failures; stopped = b; steps = pass.seen.steps })
      (bound.stopped ∙ sym (or_same (is_none old.known_rows)) ∙ sym (ap (λ b. b || is_none old.known_rows) bound.stopped))

  pub begin_shows : (sid : Sid) (worker : ℕ) (writes : Bool) (seen : Seen) → new.ledger ≡ with_session writes old.ledger → sid.number ≡ length new.ledger.sessions
      → seen ≡ with_event (event.Begin sid worker writes) pass.seen → ShowsBegin begun worker writes seen sid
  begin_shows sid worker writes seen made number is = record {
    earlier = pass.seen.events;
    last = ap (λ (s : Seen). s.events) is;
    next =
        let next = next_number old.ledger new.ledger writes sid made number in
        let many = bound.sessions.many in
        omega (arith, next, many);
  }

  pub end_shows : (sid : Sid) (was : Bool) (seen : Seen) → is_open sid old.ledger.sessions ≡ was → seen ≡ with_end_of sid was pass.seen → ShowsEnd sid seen was
  end_shows sid true seen may is = (
    pass.seen.events,
    ap (λ (s : Seen). s.events) is,
    sym (open_is_by begun pass.seen.events old.ledger.sessions bound.sessions sid) ∙ may,
  )
  end_shows sid false seen never is =
      ap (λ (s : Seen). is_open_by sid.number s.events) is ∙ sym (open_is_by begun pass.seen.events old.ledger.sessions bound.sessions sid) ∙ never

  module _ (opening : Tables) (cap : ℕ) (known_rows : Option Tables) (start : Option ℕ) (named : IsNamedStore opening cap known_rows start old) where
    -- the rows are those after the commits that are seen
    rows_are : rows_of old.ledger ≡ rows_by opening pass.seen.events
    rows_are = ap (λ rows. rows_after rows old.ledger.log) named.opening_is ∙ ap (λ log. rows_after opening log) bound.log

    -- and a commit is refused for what is seen
    fault_is : (sid : Sid) (permits : List Permit) (txn : List Change) → first_fault old.ledger sid permits txn ≡ fault_by cap pass.seen.events sid permits txn
    fault_is sid permits txn =
        ap (λ b. commit_fault b sid permits txn (length old.ledger.log) old.ledger.cap) (open_is_by begun pass.seen.events old.ledger.sessions bound.sessions sid)
        ∙ ap (λ (log : List Commit). commit_fault (is_open_by sid.number pass.seen.events) sid permits txn (length log) old.ledger.cap) bound.log
        ∙ ap (λ most. commit_fault (is_open_by sid.number pass.seen.events) sid permits txn (length (commits_of pass.seen.events)) most) named.cap_is

    answer_shows : (key : QKey) (given : Answer) → IsAnswer key old new given → ShowsAnswer opening key (with_keeper_call false (is_none new.known_rows) pass.seen) given
    answer_shows key given h = record {
      of_key = h.of_key;
      stamped = h.stamped ∙ ap (λ (log : List Commit). length log) bound.log;
      right = λ running.
          let log = commits_of pass.seen.events in
          let seen = with_keeper_call false (is_none new.known_rows) pass.seen in
          let value = h.value_is (still_tells false new.known_rows pass.seen seen refl running) in
          let whole = ap (λ n. take n log) (h.stamped ∙ ap (λ (l : List Commit). length l) bound.log) ∙ take-whole log in
          value ∙ ap (λ rows. query.answer key rows) rows_are ∙ sym (ap (λ l. answer_after opening key l) whole);
    }

    pub ask_shows : (key : QKey) (asked : Result Answer KeepFault) (seen : Seen) → IfOk asked (IsAnswer key old new)
        → seen ≡ with_keeper_call (keep_failed asked) (is_none new.known_rows) pass.seen → IfOk asked (ShowsAnswer opening key seen)
    ask_shows key (Ok given) seen h is = subst (λ s. ShowsAnswer opening key s given) (sym is) (answer_shows key given h)
    ask_shows key (Err fault) seen h is = tt

    pub staged_shows : (key : QKey) (txn : List Change) (made : Result (List ℕ) AfterFault) (did_fail : Bool) (seen : Seen) → IsStaged key txn old new made
        → seen ≡ with_keeper_call did_fail (is_none new.known_rows) pass.seen → ShowsStaged opening key txn seen made
    staged_shows key txn made did_fail seen h is = λ running.
        let events = ap (λ (s : Seen). s.events) is ∙ call_keeps_events did_fail (is_none new.known_rows) pass.seen in
        let given = h.value_is (still_tells did_fail new.known_rows pass.seen seen is running) in
        subst (λ rows. AnswersAfter txn key rows made) (rows_are ∙ sym (ap (λ e. rows_by opening e) events)) given

    pub commit_shows : (sid : Sid) (txn : List Change) (permits : List Permit) (number : ℕ) (seen : Seen) → IsCommitted sid txn permits old new number
        → seen ≡ with_event (event.Commit sid txn) (with_keeper_call false (is_none new.known_rows) pass.seen) → ShowsCommit opening cap sid txn permits seen number
    commit_shows sid txn permits number seen h is = record {
      earlier = pass.seen.events;
      last = ap (λ (s : Seen). s.events) is;
      admitted = sym (fault_is sid permits txn) ∙ h.admitted;
      number_is = h.number_is ∙ ap (λ (log : List Commit). length log + 1) bound.log;
      applied = λ running.
          let heard = with_keeper_call false (is_none new.known_rows) pass.seen in
          let taken = h.applied (still_tells false new.known_rows pass.seen heard refl (sym (ap (λ (s : Seen). s.stopped) is) ∙ running)) in
          (taken.0, subst (λ rows. apply_all txn rows ≡ Ok taken.0) rows_are taken.1);
    }

    pub refusal_shows : (sid : Sid) (txn : List Change) (permits : List Permit) (fault : CommitFault) (did_fail : Bool) (seen : Seen) → IsRefused sid txn permits old new fault
        → seen ≡ with_keeper_call did_fail (is_none new.known_rows) pass.seen → ShowsRefusal opening cap sid txn permits seen fault
    refusal_shows sid txn permits fault did_fail seen h is =
        let events = ap (λ (s : Seen). s.events) is ∙ call_keeps_events did_fail (is_none new.known_rows) pass.seen in
        record {
          refusal =
              subst (λ first. IsRefusal first fault) (fault_is sid permits txn ∙ sym (ap (λ e. fault_by cap e sid permits txn) events)) h.refusal;
          true_place = λ running.
              subst (λ rows. IsTrueFault txn rows fault) (rows_are ∙ sym (ap (λ e. rows_by opening e) events))
              (h.true_place (still_tells did_fail new.known_rows pass.seen seen is running));
        }

-- a caller who takes over what the store's pass has seen in the end loses nothing
pub caller_goes_on : (caller : PassView) (note : PassView) (here made now : Seen) → note ≡ caller → IsBeginning note.seen here → IsBeginning here made → now ≡ made → IsBeginning caller.seen now
caller_goes_on caller note here made now same is_so goes is =
    subst (IsBeginning caller.seen) (sym is)
    (beginning_trans caller.seen here made (subst (λ (p : PassView). IsBeginning p.seen here) same is_so) goes)

-- a session that hasn't begun by what is seen hadn't by what was seen before
none_begun_before : (old new : Seen) (who : ℕ) (was : Bool) → has_begun who old.events ≡ was → IsBeginning old new
    → has_begun who new.events ≡ false → has_begun who old.events ≡ false
none_begun_before old new who false is goes none = is
none_begun_before old new who true is goes none =
    absurd (false≢true (sym none ∙ any_goes_on (begins who) old.events new.events goes.events is))

-- so where a session begins, a caller that had seen less hadn't seen its Begin
pub not_begun_before : (old new : Seen) (result : Result Sid Memory) → IsBeginning old new
    → IfOk result (λ sid. has_begun sid.number new.events ≡ false) → IfOk result (λ sid. has_begun sid.number old.events ≡ false)
not_begun_before old new (Ok sid) goes none = none_begun_before old new sid.number (has_begun sid.number old.events) refl goes none
not_begun_before old new (Err cause) goes none = tt
