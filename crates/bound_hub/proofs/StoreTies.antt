-- The store and its pass still belong together when a session begins, is ended or commits, and when the keeper is asked.
use Rattle.std.proofs.Common.{ℕ, suc, ◌+◌, ◌-◌, ◌^◌, ◌≡◌, ◌≤◌, min, cond, Bool, true, false, ◌||◌, List, [], ◌∷◌, ◌++◌, length, length-append, Option, None, Some}
use Rattle.std.proofs.Common.{IsSome, is_none, refl, sym, ap, subst, ◌∙◌, arith}
use Rattle.std.proofs.lemmas.Bool.{false≢true}
use Rattle.rows_model.specs.declared.keys.Sid.{Sid}
use Rattle.rows_model.specs.declared.changes.Change.{Change}
use Rattle.rows_model.specs.Rows.{Tables}
use Rattle.sql_keeper.specs.declared.stores.Phase.TheVariants as phase
use Rattle.sql_keeper.specs.Sessions.{is_open, first_phase, with_phase}
use Rattle.sql_keeper.specs.Stores.{StoreView, Ledger, with_session, with_end, with_commit, with_call}
use Rattle.shard_lock.specs.Names.{IsNamedStore}
use Rattle.executor.specs.OnStore.{Goes}
use Rattle.log_word.specs.declared.events.StoreEvent.TheVariants as event
use Rattle.log_word.specs.declared.seen.Seen.{Seen}
use Rattle.log_word.specs.Events.{has_begun}
use Rattle.log_word.specs.Views.{with_event}
use Rattle.log_word.specs.Passes.{WordView, PassView}
use Rattle.bound_hub.specs.Knowns.{commits_of}
use Rattle.bound_hub.specs.Ties.{IsBoundStore, AreSessions}
use Rattle.bound_hub.specs.Stores.{with_end_of, with_keeper_call}
use Rattle.bound_hub.proofs.SessionLemmas.{next_is_new, sessions_with_begin, sessions_with_close}

-- the number of the session that began is the next one
pub next_number : (old new : Ledger) (writes : Bool) (sid : Sid) → new ≡ with_session writes old → sid.number ≡ length new.sessions → sid.number ≡ suc (length old.sessions)
next_number old new writes sid made number =
    let e : length new.sessions ≡ length (old.sessions ++ first_phase writes ∷ []) = ap (λ (l : Ledger). length l.sessions) made in
    omega (arith, number, e, length-append old.sessions (first_phase writes ∷ []))

-- so its Begin may be seen
pub begin_may_follow : (word : WordView) (begun failed : ℕ) (old : StoreView) (new : Ledger) (pass : PassView) (writes : Bool) (sid : Sid) → IsBoundStore word begun failed old pass
    → new ≡ with_session writes old.ledger → sid.number ≡ length new.sessions → has_begun sid.number pass.seen.events ≡ false
begin_may_follow word begun failed old new pass writes sid bound made number =
    next_is_new begun pass.seen.events old.ledger.sessions bound.sessions sid (next_number old.ledger new writes sid made number)

pub bound_with_begin : (word : WordView) (begun failed : ℕ) (old new : StoreView) (pass after : PassView) (sid : Sid) (worker : ℕ) (writes : Bool)
    → IsBoundStore word begun failed old pass → new.ledger ≡ with_session writes old.ledger → new.known_rows ≡ old.known_rows → sid.number ≡ length new.ledger.sessions
    → after.word ≡ pass.word → after.seen ≡ with_event (event.Begin sid worker writes) pass.seen → IsBoundStore word begun failed new after
bound_with_begin word begun failed old new pass after sid worker writes bound made same number at seen =
    let events = pass.seen.events in
    let next = next_number old.ledger new.ledger writes sid made number in
    record {
      word_is = at ∙ bound.word_is;
      log = ap (λ (l : Ledger). l.log) made ∙ bound.log ∙ sym (ap (λ (s : Seen). commits_of s.events) seen);
      sessions =
          subst (λ (s : Seen). AreSessions begun s.events new.ledger.sessions) (sym seen)
          (subst (λ (l : Ledger). AreSessions begun (event.Begin sid worker writes ∷ events) l.sessions) (sym made)
          (sessions_with_begin begun events old.ledger.sessions bound.sessions sid worker writes next));
      failures = ap (λ (l : Ledger). l.failed) made ∙ bound.failures ∙ sym (ap (λ (s : Seen). min (failed + s.failures) (2 ^ 64 - 1)) seen);
      stopped = ap (λ (s : Seen). s.stopped) seen ∙ bound.stopped ∙ sym (ap (λ (o : Option Tables). is_none o) same);
    }

-- whether the store tells its rows now, where it told them before if it does
stop_seen : (old new : Option Tables) → (IsSome new → IsSome old) → (is_none old || is_none new) ≡ is_none new
stop_seen None None h = refl
stop_seen (Some before) None h = refl
stop_seen None (Some after) h = absurd (false≢true (h refl))
stop_seen (Some before) (Some after) h = refl

-- one more call failed
counted : (failed n count : ℕ) → count ≡ min (failed + n) (2 ^ 64 - 1) → min (count + 1) (2 ^ 64 - 1) ≡ min (failed + suc n) (2 ^ 64 - 1)
counted failed n count h = omega (arith, h)

-- what the pass saw, in a word that stays
at_word : (pass after : PassView) (seen : Seen) → after.word ≡ pass.word → after.seen ≡ seen → after ≡ record { word = pass.word; seen = seen }
at_word pass after seen at is = ap (λ (w : WordView). record { word = w; seen = after.seen }) at ∙ ap (λ (s : Seen). record { word = pass.word; seen = s }) is

module _ (word : WordView) (begun failed : ℕ) (old new : StoreView) (pass : PassView) (bound : IsBoundStore word begun failed old pass) where
  stays_stopped : (IsSome new.known_rows → IsSome old.known_rows) → (pass.seen.stopped || is_none new.known_rows) ≡ is_none new.known_rows
  stays_stopped h = ap (λ b. b || is_none new.known_rows) bound.stopped ∙ stop_seen old.known_rows new.known_rows h

  -- a call of the keeper came back
  called : (did_fail : Bool) → Goes did_fail (with_call did_fail old.ledger) old new
      → IsBoundStore word begun failed new (record { word = pass.word; seen = with_keeper_call did_fail (is_none new.known_rows) pass.seen })
  called true goes = record {
    word_is = bound.word_is;
    log = ap (λ (l : Ledger). l.log) goes.ledger_is ∙ bound.log;
    sessions = subst (λ (l : Ledger). AreSessions begun pass.seen.events l.sessions) (sym goes.ledger_is) bound.sessions;
    failures = ap (λ (l : Ledger). l.failed) goes.ledger_is ∙ counted failed pass.seen.failures old.ledger.failed bound.failures;
    stopped = stays_stopped goes.known_before;
  }
  called false goes = record {
    word_is = bound.word_is;
    log = ap (λ (l : Ledger). l.log) goes.ledger_is ∙ bound.log;
    sessions = subst (λ (l : Ledger). AreSessions begun pass.seen.events l.sessions) (sym goes.ledger_is) bound.sessions;
    failures = ap (λ (l : Ledger). l.failed) goes.ledger_is ∙ bound.failures;
    stopped = stays_stopped goes.known_before;
  }

  pub bound_with_call : (did_fail : Bool) (after : PassView) → Goes did_fail (with_call did_fail old.ledger) old new
      → after.word ≡ pass.word → after.seen ≡ with_keeper_call did_fail (is_none new.known_rows) pass.seen → IsBoundStore word begun failed new after
  bound_with_call did_fail after goes at seen =
      subst (IsBoundStore word begun failed new) (sym (at_word pass after (with_keeper_call did_fail (is_none new.known_rows) pass.seen) at seen)) (called did_fail goes)

  -- a session committed
  committed : (sid : Sid) (txn : List Change) → is_open sid old.ledger.sessions ≡ true → Goes false (with_commit sid txn old.ledger) old new
      → IsBoundStore word begun failed new (record { word = pass.word; seen = with_event (event.Commit sid txn) (with_keeper_call false (is_none new.known_rows) pass.seen) })
  committed sid txn may goes = record {
    word_is = bound.word_is;
    log = ap (λ (l : Ledger). l.log) goes.ledger_is ∙ ap (λ log. log ++ record { sid = sid; txn = txn } ∷ []) bound.log;
    sessions =
        subst (λ (l : Ledger). AreSessions begun (event.Commit sid txn ∷ pass.seen.events) l.sessions) (sym goes.ledger_is)
        (sessions_with_close begun pass.seen.events old.ledger.sessions bound.sessions sid phase.Committed (event.Commit sid txn) may refl (λ who. refl));
    failures = ap (λ (l : Ledger). l.failed) goes.ledger_is ∙ bound.failures;
    stopped = stays_stopped goes.known_before;
  }

  pub bound_with_commit : (sid : Sid) (txn : List Change) (after : PassView) → is_open sid old.ledger.sessions ≡ true → Goes false (with_commit sid txn old.ledger) old new
      → after.word ≡ pass.word → after.seen ≡ with_event (event.Commit sid txn) (with_keeper_call false (is_none new.known_rows) pass.seen) → IsBoundStore word begun failed new after
  bound_with_commit sid txn after may goes at seen =
      subst (IsBoundStore word begun failed new)
      (sym (at_word pass after (with_event (event.Commit sid txn) (with_keeper_call false (is_none new.known_rows) pass.seen)) at seen)) (committed sid txn may goes)

  -- a session was ended, or wasn't open
  ended : (sid : Sid) (was : Bool) → is_open sid old.ledger.sessions ≡ was → new.ledger ≡ with_end sid old.ledger → new.known_rows ≡ old.known_rows
      → IsBoundStore word begun failed new (record { word = pass.word; seen = with_end_of sid was pass.seen })
  ended sid true may made same =
      let is : new.ledger.sessions ≡ _ = ap (λ (l : Ledger). l.sessions) made ∙ ap (λ b. cond b (with_phase sid phase.Ended old.ledger.sessions) old.ledger.sessions) may in
      record {
        word_is = bound.word_is;
        log = ap (λ (l : Ledger). l.log) made ∙ bound.log;
        sessions =
            subst (λ l. AreSessions begun (event.End sid ∷ pass.seen.events) l) (sym is)
            (sessions_with_close begun pass.seen.events old.ledger.sessions bound.sessions sid phase.Ended (event.End sid) may refl (λ who. refl));
        failures = ap (λ (l : Ledger). l.failed) made ∙ bound.failures;
        stopped = bound.stopped ∙ sym (ap (λ (o : Option Tables). is_none o) same);
      }
  ended sid false never made same =
      let is : new.ledger.sessions ≡ _ = ap (λ (l : Ledger). l.sessions) made ∙ ap (λ b. cond b (with_phase sid phase.Ended old.ledger.sessions) old.ledger.sessions) never in
      record {
        word_is = bound.word_is;
        log = ap (λ (l : Ledger). l.log) made ∙ bound.log;
        sessions = subst (λ l. AreSessions begun pass.seen.events l) (sym is) bound.sessions;
        failures = ap (λ (l : Ledger). l.failed) made ∙ bound.failures;
        stopped = bound.stopped ∙ sym (ap (λ (o : Option Tables). is_none o) same);
      }

  pub bound_with_end : (sid : Sid) (was : Bool) (after : PassView) → is_open sid old.ledger.sessions ≡ was → new.ledger ≡ with_end sid old.ledger → new.known_rows ≡ old.known_rows
      → after.word ≡ pass.word → after.seen ≡ with_end_of sid was pass.seen → IsBoundStore word begun failed new after
  bound_with_end sid was after is made same at seen =
      subst (IsBoundStore word begun failed new) (sym (at_word pass after (with_end_of sid was pass.seen) at seen)) (ended sid was is made same)

-- what is named of the store stays so where opening rows and cap do, the keeper tells no rows anew, and its count of faults doesn't fall
pub named_stays : (opening : Tables) (cap : ℕ) (known_rows : Option Tables) (start : Option ℕ) (old new : StoreView) → IsNamedStore opening cap known_rows start old
    → new.ledger.opening ≡ old.ledger.opening → new.ledger.cap ≡ old.ledger.cap → (IsSome new.known_rows → IsSome old.known_rows) → old.faults ≤ new.faults
    → IsNamedStore opening cap known_rows start new
named_stays opening cap known_rows start old new named rows most tells rises = record {
  opening_is = rows ∙ named.opening_is;
  cap_is = most ∙ named.cap_is;
  known_before = λ some. named.known_before (tells some);
  never_fell = λ first is. let low = named.never_fell first is in omega (arith, low, rises);
}

-- so it does where a session begins
pub named_with_begin : (opening : Tables) (cap : ℕ) (known_rows : Option Tables) (start : Option ℕ) (old new : StoreView) (writes : Bool) → IsNamedStore opening cap known_rows start old
    → new.ledger ≡ with_session writes old.ledger → new.known_rows ≡ old.known_rows → new.faults ≡ old.faults → IsNamedStore opening cap known_rows start new
named_with_begin opening cap known_rows start old new writes named made same faults =
    named_stays opening cap known_rows start old new named (ap (λ (l : Ledger). l.opening) made) (ap (λ (l : Ledger). l.cap) made)
    (λ some. subst (λ (o : Option Tables). IsSome o) same some) (omega (arith, faults))

-- or is ended
pub named_with_end : (opening : Tables) (cap : ℕ) (known_rows : Option Tables) (start : Option ℕ) (old new : StoreView) (sid : Sid) → IsNamedStore opening cap known_rows start old
    → new.ledger ≡ with_end sid old.ledger → new.known_rows ≡ old.known_rows → new.faults ≡ old.faults → IsNamedStore opening cap known_rows start new
named_with_end opening cap known_rows start old new sid named made same faults =
    named_stays opening cap known_rows start old new named (ap (λ (l : Ledger). l.opening) made) (ap (λ (l : Ledger). l.cap) made)
    (λ some. subst (λ (o : Option Tables). IsSome o) same some) (omega (arith, faults))

-- or the keeper is asked
pub named_with_call : (opening : Tables) (cap : ℕ) (known_rows : Option Tables) (start : Option ℕ) (old new : StoreView) (did_fail : Bool) → IsNamedStore opening cap known_rows start old
    → Goes did_fail (with_call did_fail old.ledger) old new → old.faults ≤ new.faults → IsNamedStore opening cap known_rows start new
named_with_call opening cap known_rows start old new true named goes rises =
    named_stays opening cap known_rows start old new named (ap (λ (l : Ledger). l.opening) goes.ledger_is) (ap (λ (l : Ledger). l.cap) goes.ledger_is) goes.known_before rises
named_with_call opening cap known_rows start old new false named goes rises =
    named_stays opening cap known_rows start old new named (ap (λ (l : Ledger). l.opening) goes.ledger_is) (ap (λ (l : Ledger). l.cap) goes.ledger_is) goes.known_before rises

-- or a session commits
pub named_with_commit : (opening : Tables) (cap : ℕ) (known_rows : Option Tables) (start : Option ℕ) (old new : StoreView) (sid : Sid) (txn : List Change) → IsNamedStore opening cap known_rows start old
    → Goes false (with_commit sid txn old.ledger) old new → old.faults ≤ new.faults → IsNamedStore opening cap known_rows start new
named_with_commit opening cap known_rows start old new sid txn named goes rises =
    named_stays opening cap known_rows start old new named (ap (λ (l : Ledger). l.opening) goes.ledger_is) (ap (λ (l : Ledger). l.cap) goes.ledger_is) goes.known_before rises
