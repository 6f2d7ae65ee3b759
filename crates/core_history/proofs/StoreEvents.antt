-- How the store of a core follows an event.
use Rattle.std.proofs.Common.{ℕ, min, ◌-◌, ◌^◌, ◌+◌, ◌≡◌, ◌≢◌, ◌≤◌, Bool, true, false, List, [], ◌∷◌, ◌++◌, length, count_by, Option, Some}
use Rattle.std.proofs.Common.{None, IsSome, Result, Ok, Err, refl, sym, ap, subst, ◌∙◌, inl, inr, append-nil, arith}
use Rattle.std.proofs.lemmas.Bool.{false≢true}
use Rattle.rows_model.specs.declared.changes.Change.{Change}
use Rattle.rows_model.specs.declared.refusals.Memory.{Memory}
use Rattle.rows_model.specs.declared.keys.QKey.{QKey}
use Rattle.rows_model.specs.declared.keys.Sid.{Sid}
use Rattle.rows_model.specs.Rows.{Tables}
use Rattle.rows_model.specs.Changes.{apply_all}
use Rattle.key_shard.specs.declared.steps.Step.{Step}
use Rattle.key_shard.specs.declared.steps.Step.TheVariants as step
use Rattle.key_shard.specs.Past.{Terms}
use Rattle.sql_keeper.specs.declared.stores.Answer.{Answer}
use Rattle.sql_keeper.specs.declared.stores.Commit.{Commit}
use Rattle.sql_keeper.specs.declared.faults.AfterFault.TheVariants as staged
use Rattle.sql_keeper.specs.declared.faults.CommitFault.{CommitFault}
use Rattle.sql_keeper.specs.declared.faults.CommitFault.TheVariants as faults
use Rattle.sql_keeper.specs.Log.{rows_after}
use Rattle.sql_keeper.specs.Commits.{commit_fault}
use Rattle.sql_keeper.specs.Stores.{Ledger, StoreView, with_call, with_commit, with_end, IsRefusal, IsTrueFault}
use Rattle.key_shard.specs.Permit.{Permit}
use Rattle.sql_keeper.specs.declared.stores.Phase.{Phase}
use Rattle.sql_keeper.specs.declared.stores.Phase.TheVariants.{Committed}
use Rattle.sql_keeper.specs.Faults.{is_failure, Counts}
use Rattle.sql_keeper.specs.Sessions.{is_open as may_commit, ended, with_phase}
use Rattle.session_client.specs.Grants.{GrantsView}
use Rattle.session_client.specs.declared.replies.Reply.{Reply}
use Rattle.session_client.specs.declared.replies.Reply.TheVariants as Reply
use Rattle.session_client.specs.declared.replies.Fault.TheVariants as causes
use Rattle.session_client.specs.declared.replies.Wanted.{Wanted}
use Rattle.session_client.specs.declared.replies.Wanted.TheVariants as wanted
use Rattle.expiry_sweeper.specs.declared.replies.SweepReply.{SweepReply}
use Rattle.expiry_sweeper.specs.declared.replies.SweepWanted.TheVariants as sweep
use Rattle.core_history.specs.Cores.{Origin, HasStore, HasPhases, RoseBy}
use Rattle.core_history.specs.Events.{Event, Stepped, Called, Ticked, Swept, commits_in, ends_in, log_of}
use Rattle.core_history.specs.Lines.{is_fault, tells_fault}
use Rattle.core_history.specs.Machine.{World, Said, Value, Made, Rejected, Failed, step_reply, ask_reply, is_open, commit_by, log_cap}
use Rattle.executor.specs.OnStore.{Goes, TellsAnswer, TellsStaged, TellsCommit, TellsEnd, MakesAtStore}
use Rattle.core_history.specs.Requests.{IsStoreAfter, MakesCall, GoesOn, tells_memory, after}
use Rattle.core_history.proofs.OpenLemmas.{phases_same, phases_committed, phases_ended}
use Rattle.core_history.specs.Truth.{IsTrueReply, IsTrueEvent}
use Rattle.core_history.proofs.ListLemmas.{count-cons, tick, zero_if}

-- an event that makes no commit and ends nobody, tells of no fault, and says nothing of the rows
pub record IsQuiet (event : Event) : Type 0 where
  pub commits : commits_in event ≡ []
  pub ends : ends_in event ≡ []
  pub fault : is_fault event ≡ false
  pub truth : (rows : Tables) → IsTrueEvent rows event

-- a turn that tells what a step on a shard shows is so
pub quiet_shown : (place : ℕ) (who : Sid) (request : Wanted) (made : Step) (terms : Terms) (past : List Step) (s : Step)
    → IsQuiet (Stepped place who request made (step_reply terms past s))
quiet_shown place who request made terms past (step.Hit key sid floor value stamp) = record { commits = refl; ends = refl; fault = refl; truth = λ rows. tt }
quiet_shown place who request made terms past (step.Lease key sid floor now token deadline) =
    record { commits = refl; ends = refl; fault = refl; truth = λ rows. tt }
quiet_shown place who request made terms past (step.Again key sid floor now standing) = record { commits = refl; ends = refl; fault = refl; truth = λ rows. tt }
quiet_shown place who request made terms past (step.Own key sid) = record { commits = refl; ends = refl; fault = refl; truth = λ rows. tt }
quiet_shown place who request made terms past (step.Stored key token now value stamp evicted) =
    record { commits = refl; ends = refl; fault = refl; truth = λ rows. tt }
quiet_shown place who request made terms past (step.Void key token now) = record { commits = refl; ends = refl; fault = refl; truth = λ rows. tt }
quiet_shown place who request made terms past (step.Granted key sid mode shift now token deadline) =
    record { commits = refl; ends = refl; fault = refl; truth = λ rows. tt }
quiet_shown place who request made terms past (step.Held key sid mode) = record { commits = refl; ends = refl; fault = refl; truth = λ rows. tt }
quiet_shown place who request made terms past (step.Refused key sid mode holder held) = record { commits = refl; ends = refl; fault = refl; truth = λ rows. tt }
quiet_shown place who request made terms past (step.Released key sid token how) = record { commits = refl; ends = refl; fault = refl; truth = λ rows. tt }
quiet_shown place who request made terms past (step.Gone key sid token) = record { commits = refl; ends = refl; fault = refl; truth = λ rows. tt }
quiet_shown place who request made terms past (step.Raised key sid token) = record { commits = refl; ends = refl; fault = refl; truth = λ rows. tt }
quiet_shown place who request made terms past (step.Shared key sid token holder) = record { commits = refl; ends = refl; fault = refl; truth = λ rows. tt }
quiet_shown place who request made terms past (step.Renewed key sid token now deadline) =
    record { commits = refl; ends = refl; fault = refl; truth = λ rows. tt }

-- a tick is so
pub quiet_tick : (now : ℕ) → IsQuiet (Ticked now)
quiet_tick now = record { commits = refl; ends = refl; fault = refl; truth = λ rows. tt }

-- a scan is so
pub quiet_scan : (place shard : ℕ) (made : Option Step) (reply : SweepReply) → IsQuiet (Swept place (sweep.Scan shard) made reply)
quiet_scan place shard made reply = record { commits = refl; ends = refl; fault = refl; truth = λ rows. tt }

-- the sweeper's drop is so
pub quiet_drop : (place : ℕ) (key : QKey) (token : ℕ) (made : Option Step) (reply : SweepReply) → IsQuiet (Swept place (sweep.Drop key token) made reply)
quiet_drop place key token made reply = record { commits = refl; ends = refl; fault = refl; truth = λ rows. tt }

-- a call of the keeper leaves all but the count of its failures
record CallsSame (before after : Ledger) : Type 0 where
  pub opening : after.opening ≡ before.opening
  pub log : after.log ≡ before.log
  pub cap : after.cap ≡ before.cap
  pub sessions : after.sessions ≡ before.sessions

-- the count of failures after a call
failed_more : (b : Bool) (count : ℕ) (ledger : Ledger) → ledger.failed ≡ min count (2 ^ 64 - 1)
    → (with_call b ledger).failed ≡ min (tick b + count) (2 ^ 64 - 1)
failed_more false count ledger e = omega (arith, e)
failed_more true count ledger e = omega (arith, e)

call_same : (b : Bool) (ledger : Ledger) → CallsSame ledger (with_call b ledger)
call_same true ledger = record { opening = refl; log = refl; cap = refl; sessions = refl }
call_same false ledger = record { opening = refl; log = refl; cap = refl; sessions = refl }

called_same : (b : Bool) (before after : Ledger) → after ≡ with_call b before → CallsSame before after
called_same b before after is = let P : Ledger → Type 0 = λ l. CallsSame before l in subst P (sym is) (call_same b before)

pub sessions_called : (b : Bool) (before after : Ledger) → after ≡ with_call b before → after.sessions ≡ before.sessions
sessions_called b before after is = (called_same b before after is).sessions

-- the count of faults after a call
rose_more : (b : Bool) (count before old new : ℕ) → RoseBy count before old → Counts b old new → old ≤ new → RoseBy (tick b + count) before new
rose_more false count before old new (inl h) same more = inl (omega arith)
rose_more false count before old new (inr h) same more = inr (h.0, omega (arith, h.1))
rose_more true count before old new (inl h) (inl less, most) more = inl (omega arith)
rose_more true count before old new (inl h) (inr last, most) more = inr (omega arith, omega arith)
rose_more true count before old new (inr h) rose more = inr (h.0, omega (arith, h.1))

-- it is as at first where no call has failed
quiet_more : (b : Bool) (count before old new : ℕ) → (count ≡ 0 → old ≡ before) → Counts b old new → tick b + count ≡ 0 → new ≡ before
quiet_more true count before old new quiet rose none = absurd (omega (arith, none))
quiet_more false count before old new quiet same none = same ∙ quiet (omega (arith, none))

-- the store after a call that told this
pub store_called : (old new : StoreView) (b : Bool) (origin : Origin) (past : List Event) (event : Event)
    → HasStore old origin past → new.ledger ≡ with_call b old.ledger → Counts b old.faults new.faults → old.faults ≤ new.faults →
    is_fault event ≡ b → commits_in event ≡ [] → (IsSome new.known_rows → IsSome old.known_rows)
    → (IsSome new.known_rows → IsTrueEvent (rows_after old.ledger.opening old.ledger.log) event) → HasStore new origin (event ∷ past)
store_called old new b origin past event has ledger rose more fault no_commit known truth =
    let same = called_same b old.ledger new.ledger ledger in
    let log : log_of past ++ commits_in event ≡ log_of past = ap (λ (l : List Commit). log_of past ++ l) no_commit ∙ append-nil (log_of past) in
    let count : count_by is_fault (event ∷ past) ≡ tick b + count_by is_fault past =
    count-cons is_fault event past ∙ ap (λ (c : Bool). tick c + count_by is_fault past) fault in
    let F : ℕ → Type 0 = λ n. RoseBy n origin.faults new.faults in
    let T : Tables → Type 0 = λ rows. IsTrueEvent rows event in
    record {
      opening = same.opening ∙ has.opening;
      log = same.log ∙ has.log ∙ sym log;
      cap = same.cap ∙ has.cap;
      failed = ap (λ (l : Ledger). l.failed) ledger ∙ failed_more b (count_by is_fault past) old.ledger has.failed
          ∙ ap (λ (n : ℕ). min n (2 ^ 64 - 1)) (sym count);
      faults = subst F (sym count) (rose_more b (count_by is_fault past) origin.faults old.faults new.faults has.faults rose more);
      quiet = λ none. quiet_more b (count_by is_fault past) origin.faults old.faults new.faults has.quiet rose (sym count ∙ none);
      telling = λ is_told. has.telling (known is_told);
      truth = λ is_told. (
        subst T (ap (λ (rows : Tables). rows_after rows old.ledger.log) has.opening ∙ ap (rows_after origin.opening) has.log) (truth is_told),
        has.truth (known is_told),
      );
    }

-- an event that asks the store nothing
pub store_quiet : (store : StoreView) (origin : Origin) (past : List Event) (event : Event)
    → HasStore store origin past → IsQuiet event → HasStore store origin (event ∷ past)
store_quiet store origin past event has quiet =
    store_called store store false origin past event has refl refl (omega arith) quiet.fault quiet.commits (λ h. h) (λ h. quiet.truth _)

-- a store of which nothing has changed, but perhaps that it tells its rows no more
pub store_stays : (old new : StoreView) (origin : Origin) (past : List Event)
    → HasStore old origin past → new.ledger ≡ old.ledger → new.faults ≡ old.faults → (IsSome new.known_rows → IsSome old.known_rows) → HasStore new origin past
store_stays old new origin past has ledger same known =
    record {
      opening = ap (λ (l : Ledger). l.opening) ledger ∙ has.opening;
      log = ap (λ (l : Ledger). l.log) ledger ∙ has.log;
      cap = ap (λ (l : Ledger). l.cap) ledger ∙ has.cap;
      failed = ap (λ (l : Ledger). l.failed) ledger ∙ has.failed;
      faults = subst (λ (n : ℕ). RoseBy (count_by is_fault past) origin.faults n) (sym same) has.faults;
      quiet = λ none. same ∙ has.quiet none;
      telling = λ is_told. has.telling (known is_told);
      truth = λ is_told. has.truth (known is_told);
    }

-- the store after a commit
pub store_committed : (old new : StoreView) (origin : Origin) (past : List Event) (who : Sid) (txn : List Change) (event : Event)
    → HasStore old origin past → new.ledger ≡ with_commit who txn old.ledger → new.faults ≡ old.faults →
    is_fault event ≡ false → commits_in event ≡ record { sid = who; txn = txn } ∷ [] → (IsSome new.known_rows → IsSome old.known_rows)
    → (IsSome new.known_rows → IsTrueEvent (rows_after old.ledger.opening old.ledger.log) event) → HasStore new origin (event ∷ past)
store_committed old new origin past who txn event has ledger same fault commits known truth =
    let e = count-cons is_fault event past in
    let z = zero_if (is_fault event) fault in
    let count : count_by is_fault (event ∷ past) ≡ count_by is_fault past = omega (arith, e, z) in
    let F : ℕ → ℕ → Type 0 = λ n faults. RoseBy n origin.faults faults in
    let T : Tables → Type 0 = λ rows. IsTrueEvent rows event in
    record {
      opening = ap (λ (l : Ledger). l.opening) ledger ∙ has.opening;
      log = ap (λ (l : Ledger). l.log) ledger ∙ ap (λ (l : List Commit). l ++ record { sid = who; txn = txn } ∷ []) has.log
          ∙ sym (ap (λ (l : List Commit). log_of past ++ l) commits);
      cap = ap (λ (l : Ledger). l.cap) ledger ∙ has.cap;
      failed = ap (λ (l : Ledger). l.failed) ledger ∙ has.failed ∙ ap (λ (n : ℕ). min n (2 ^ 64 - 1)) (sym count);
      faults = subst (λ (n : ℕ). F n new.faults) (sym count) (subst (F (count_by is_fault past)) (sym same) has.faults);
      quiet = λ none. same ∙ has.quiet (sym count ∙ none);
      telling = λ is_told. has.telling (known is_told);
      truth = λ is_told. (
        subst T (ap (λ (rows : Tables). rows_after rows old.ledger.log) has.opening ∙ ap (rows_after origin.opening) has.log) (truth is_told),
        has.truth (known is_told),
      );
    }

-- the store after a session was ended, by a turn of its own or by the sweeper
pub store_ended : (old new : StoreView) (origin : Origin) (past : List Event) (who : Sid) (event : Event)
    → HasStore old origin past → new.ledger ≡ with_end who old.ledger → (IsSome new.known_rows → IsSome old.known_rows) → new.faults ≡ old.faults →
    is_fault event ≡ false → commits_in event ≡ [] → ((rows : Tables) → IsTrueEvent rows event) → HasStore new origin (event ∷ past)
store_ended old new origin past who event has ledger known faults fault no_commit truth =
    store_called new new false origin past event between refl refl (omega arith) fault no_commit (λ h. h) (λ is_told. truth _)
  where
    between : HasStore new origin past
    between = record {
      opening = ap (λ (l : Ledger). l.opening) ledger ∙ has.opening;
      log = ap (λ (l : Ledger). l.log) ledger ∙ has.log;
      cap = ap (λ (l : Ledger). l.cap) ledger ∙ has.cap;
      failed = ap (λ (l : Ledger). l.failed) ledger ∙ has.failed;
      faults = subst (λ (n : ℕ). RoseBy (count_by is_fault past) origin.faults n) (sym faults) has.faults;
      quiet = λ none. faults ∙ has.quiet none;
      telling = λ is_told. has.telling (known is_told);
      truth = λ is_told. has.truth (known is_told);
    }

-- the store after a call of the keeper that made no commit and ended nobody
pub call_made : (old new : StoreView) (b : Bool) (origin : Origin) (world : World) (event : Event)
    → IsStoreAfter old origin world → new.ledger ≡ with_call b old.ledger → Counts b old.faults new.faults → old.faults ≤ new.faults →
    is_fault event ≡ b → commits_in event ≡ [] → ends_in event ≡ [] → (IsSome new.known_rows → IsSome old.known_rows)
    → (IsSome new.known_rows → IsTrueEvent (rows_after old.ledger.opening old.ledger.log) event) → IsStoreAfter new origin (after world event)
call_made old new b origin world event stands ledger rose more fault no_commit no_end known truth =
    let H : List Phase → Type 0 = λ xs. HasPhases xs (after world event) in (
      store_called old new b origin world.past event stands.0 ledger rose more fault no_commit known truth,
      subst H (sym (sessions_called b old.ledger new.ledger ledger)) (phases_same old.ledger.sessions world event stands.1 no_commit no_end),
    )

-- a call of the keeper that wasn't made, but perhaps that it tells its rows no more
pub call_unmade : (old new : StoreView) (origin : Origin) (world : World)
    → IsStoreAfter old origin world → new.ledger ≡ old.ledger → new.faults ≡ old.faults → (IsSome new.known_rows → IsSome old.known_rows) → IsStoreAfter new origin world
call_unmade old new origin world stands ledger same known =
    let H : List Phase → Type 0 = λ xs. HasPhases xs world in (
      store_stays old new origin world.past stands.0 ledger same known,
      subst H (sym (ap (λ (l : Ledger). l.sessions) ledger)) stands.1,
    )

-- want of memory leaves the store, but perhaps that it tells its rows no more
unmade : (old new : StoreView) (origin : Origin) (world : World) → IsStoreAfter old origin world → Goes false old.ledger old new → IsStoreAfter new origin world
unmade old new origin world stands goes = call_unmade old new origin world stands goes.ledger_is goes.counted goes.known_before

-- what the executor made of the store for an ask is the event of the request
ask_made : (old new : StoreView) (origin : Origin) (world : World) (who : Sid) (key : QKey) (known : Reply) (result : Result Reply Memory)
    → IsStoreAfter old origin world → old.faults ≤ new.faults → TellsAnswer key old new known → GoesOn known result
    → MakesCall origin world who (wanted.Ask key) new result
ask_made old new origin world who key (Reply.Answer given) (Ok kept) stands more (goes, answer) on =
    let event : Event = Called who (wanted.Ask key) (ask_reply world.past key (Value given.value)) in
    let stamp : given.stamp ≡ length (log_of world.past) = answer.stamped ∙ ap (λ (l : List Commit). length l) stands.0.log in (
      Value given.value,
      on.0 ∙ ap (λ (a : Answer). Reply.Answer a) (answer_is given key (length (log_of world.past)) answer.of_key stamp),
      call_made old new false origin world event stands goes.ledger_is goes.counted more refl refl refl goes.known_before answer.value_is,
    )
  where
    answer_is : (given : Answer) (key : QKey) (stamp : ℕ) → given.key ≡ key
        → given.stamp ≡ stamp → given ≡ record { key = key; value = given.value; stamp = stamp }
    answer_is given key stamp e f = λ i. record { key = e i; value = given.value; stamp = f i }
ask_made old new origin world who key (Reply.Answer given) (Err memory) stands more made on = absurd (false≢true on)
ask_made old new origin world who key (Reply.Fault causes.Keep) (Ok kept) stands more goes on = (
  Failed,
  on.0,
  call_made old new true origin world (Called who (wanted.Ask key) (Reply.Fault causes.Keep))
      stands goes.ledger_is goes.counted more refl refl refl goes.known_before (λ known. tt),
)
ask_made old new origin world who key (Reply.Fault causes.Keep) (Err memory) stands more goes on = absurd (false≢true on)
ask_made old new origin world who key (Reply.Fault causes.Memory) (Ok kept) stands more goes on = absurd (false≢true (sym on.1))
ask_made old new origin world who key (Reply.Fault causes.Memory) (Err memory) stands more goes on = unmade old new origin world stands goes
ask_made old new origin world who key (Reply.Fault causes.Spent) result stands more made on = absurd made
ask_made old new origin world who key other result stands more made on = absurd made

-- so it is for an ask of the rows after a transaction
staged_made : (old new : StoreView) (origin : Origin) (world : World) (who : Sid) (key : QKey) (txn : List Change) (known : Reply) (result : Result Reply Memory)
    → IsStoreAfter old origin world → old.faults ≤ new.faults → TellsStaged key txn old new known → GoesOn known result
    → MakesCall origin world who (wanted.Staged key txn) new result
staged_made old new origin world who key txn (Reply.Staged value back) (Ok kept) stands more (same, made) on = (
  Value value,
  on.0 ∙ ap (λ (t : List Change). Reply.Staged value t) same,
  call_made old new false origin world (Called who (wanted.Staged key txn) (Reply.Staged value txn))
      stands made.goes.ledger_is made.goes.counted more refl refl refl made.goes.known_before made.value_is,
)
staged_made old new origin world who key txn (Reply.Staged value back) (Err memory) stands more made on = absurd (false≢true on)
staged_made old new origin world who key txn (Reply.NotStaged (staged.Rejected index) back) (Ok kept) stands more (same, made) on = (
  Rejected index,
  on.0 ∙ ap (λ (t : List Change). Reply.NotStaged (staged.Rejected index) t) same,
  call_made old new false origin world (Called who (wanted.Staged key txn) (Reply.NotStaged (staged.Rejected index) txn))
      stands made.goes.ledger_is made.goes.counted more refl refl refl made.goes.known_before made.value_is,
)
staged_made old new origin world who key txn (Reply.NotStaged (staged.Rejected index) back) (Err memory) stands more made on = absurd (false≢true on)
staged_made old new origin world who key txn (Reply.NotStaged staged.Failed back) (Ok kept) stands more (same, made) on = (
  Failed,
  on.0 ∙ ap (λ (t : List Change). Reply.NotStaged staged.Failed t) same,
  call_made old new true origin world (Called who (wanted.Staged key txn) (Reply.NotStaged staged.Failed txn))
      stands made.goes.ledger_is made.goes.counted more refl refl refl made.goes.known_before (λ known. tt),
)
staged_made old new origin world who key txn (Reply.NotStaged staged.Failed back) (Err memory) stands more made on = absurd (false≢true on)
staged_made old new origin world who key txn (Reply.NotStaged staged.Memory back) (Ok kept) stands more made on = absurd (false≢true (sym on.1))
staged_made old new origin world who key txn (Reply.NotStaged staged.Memory back) (Err memory) stands more (same, made) on =
    unmade old new origin world stands made.goes
staged_made old new origin world who key txn other result stands more made on = absurd made

-- a reply of this fault tells of the keeper where the fault is that of one that failed
fault_is : (fault : CommitFault) (txn : List Change) (grants : GrantsView) → tells_fault (Reply.NotCommitted fault txn grants) ≡ is_failure fault
fault_is faults.Ended txn grants = refl
fault_is (faults.Uncovered key) txn grants = refl
fault_is (faults.LogFull count) txn grants = refl
fault_is faults.Memory txn grants = refl
fault_is (faults.Rejected index) txn grants = refl
fault_is faults.KeepFault txn grants = refl

true_fault : (fault : CommitFault) (request : Wanted) (txn : List Change) (grants : GrantsView) (rows : Tables)
    → IsTrueFault txn rows fault → IsTrueReply rows request (Reply.NotCommitted fault txn grants)
true_fault faults.Ended request txn grants rows h = tt
true_fault (faults.Uncovered key) request txn grants rows h = tt
true_fault (faults.LogFull count) request txn grants rows h = tt
true_fault faults.Memory request txn grants rows h = tt
true_fault (faults.Rejected index) request txn grants rows h = h
true_fault faults.KeepFault request txn grants rows h = tt

-- what the keeper said in a commit that was refused
said_of : (count : ℕ) (txn : List Change) (grants : GrantsView) (first : Option CommitFault) (fault : CommitFault)
    → IsRefusal first fault → fault ≢ faults.Memory → (said : Said) × (Reply.NotCommitted fault txn grants ≡ commit_by count txn grants said first)
said_of count txn grants (Some found) faults.Ended h more = (Failed, ap (λ (f : CommitFault). Reply.NotCommitted f txn grants) h)
said_of count txn grants (Some found) (faults.Uncovered key) h more = (Failed, ap (λ (f : CommitFault). Reply.NotCommitted f txn grants) h)
said_of count txn grants (Some found) (faults.LogFull number) h more = (Failed, ap (λ (f : CommitFault). Reply.NotCommitted f txn grants) h)
said_of count txn grants (Some found) faults.Memory h more = absurd (more refl)
said_of count txn grants (Some found) (faults.Rejected index) h more = (Failed, ap (λ (f : CommitFault). Reply.NotCommitted f txn grants) h)
said_of count txn grants (Some found) faults.KeepFault h more = (Failed, ap (λ (f : CommitFault). Reply.NotCommitted f txn grants) h)
said_of count txn grants None faults.Ended h more = absurd h
said_of count txn grants None (faults.Uncovered key) h more = absurd h
said_of count txn grants None (faults.LogFull number) h more = absurd h
said_of count txn grants None faults.Memory h more = absurd (more refl)
said_of count txn grants None (faults.Rejected index) h more = (Rejected index, refl)
said_of count txn grants None faults.KeepFault h more = (Failed, refl)

-- the first fault that the store finds is the machine's
first_is : (store : StoreView) (origin : Origin) (world : World) (who : Sid) (txn : List Change) (grants : GrantsView) (items : List Permit)
    → IsStoreAfter store origin world → 1 ≤ who.number → items ≡ grants.items →
    commit_fault (may_commit who store.ledger.sessions) who items txn (length store.ledger.log) store.ledger.cap
    ≡ commit_fault (is_open world who) who grants.items txn (length (log_of world.past)) log_cap
first_is store origin world who txn grants items stands some same =
    let cap = store.ledger.cap in
    ap (λ (b : Bool). commit_fault b who items txn (length store.ledger.log) cap) (stands.1.opens who some)
    ∙ ap (λ (l : List Commit). commit_fault (is_open world who) who items txn (length l) cap) stands.0.log
    ∙ ap (λ (n : ℕ). commit_fault (is_open world who) who items txn (length (log_of world.past)) n) stands.0.cap
    ∙ ap (λ (l : List Permit). commit_fault (is_open world who) who l txn (length (log_of world.past)) log_cap) same

-- a commit was refused
pub commit_refused : (old new : StoreView) (origin : Origin) (world : World) (who : Sid) (txn : List Change) (grants : GrantsView)
    (items : List Permit) (fault : CommitFault) → IsStoreAfter old origin world → 1 ≤ who.number → items ≡ grants.items → fault ≢ faults.Memory →
    IsRefusal (commit_fault (may_commit who old.ledger.sessions) who items txn (length old.ledger.log) old.ledger.cap) fault
    → new.ledger ≡ with_call (is_failure fault) old.ledger → Counts (is_failure fault) old.faults new.faults → old.faults ≤ new.faults →
    (IsSome new.known_rows → IsSome old.known_rows) → (IsSome new.known_rows → IsTrueFault txn (rows_after old.ledger.opening old.ledger.log) fault) →
    MakesCall origin world who (wanted.Commit txn grants) new (Ok (Reply.NotCommitted fault txn grants))
commit_refused old new origin world who txn grants items fault stands some same more refusal ledger rose no_less known truth =
    let request = wanted.Commit txn grants in
    let first = first_is old origin world who txn grants items stands some same in
    let R : Option CommitFault → Type 0 = λ o. IsRefusal o fault in
    let said = said_of (length (log_of world.past)) txn grants
    (commit_fault (is_open world who) who grants.items txn (length (log_of world.past)) log_cap) fault (subst R first refusal) more in
    let answer : Reply = Reply.NotCommitted fault txn grants in
    let event : Event = Called who request answer in
    let S : Reply → Type 0 = λ r. IsStoreAfter new origin (after world (Called who request r)) in
    let there : IsStoreAfter new origin (after world event) =
    call_made old new (is_failure fault) origin world event stands ledger rose no_less (fault_is fault txn grants) refl refl known
    (λ is_told. true_fault fault request txn grants (rows_after old.ledger.opening old.ledger.log) (truth is_told)) in
    (said.0, said.1, subst S said.1 there)

-- a commit whose transaction no fault refuses is one of a session that is open
is_opened : (b : Bool) (who : Sid) (items : List Permit) (txn : List Change) (count cap : ℕ) → commit_fault b who items txn count cap ≡ None → b ≡ true
is_opened true who items txn count cap h = refl
is_opened false who items txn count cap h = absurd cc

-- a transaction was committed
pub commit_made : (old new : StoreView) (origin : Origin) (world : World) (who : Sid)
    (txn : List Change) (grants : GrantsView) (items : List Permit) (number : ℕ) → IsStoreAfter old origin world → 1 ≤ who.number → items ≡ grants.items →
    commit_fault (may_commit who old.ledger.sessions) who items txn (length old.ledger.log) old.ledger.cap ≡ None
    → number ≡ length old.ledger.log + 1 → new.ledger ≡ with_commit who txn old.ledger → new.faults ≡ old.faults →
    (IsSome new.known_rows → IsSome old.known_rows) → (IsSome new.known_rows → (rows : Tables) × (apply_all txn (rows_after old.ledger.opening old.ledger.log) ≡ Ok rows)) →
    MakesCall origin world who (wanted.Commit txn grants) new (Ok (Reply.Committed number txn grants))
commit_made old new origin world who txn grants items number stands some same admitted numbered ledger same_count known truth =
    let request = wanted.Commit txn grants in
    let count = length (log_of world.past) in
    let none = sym (first_is old origin world who txn grants items stands some same) ∙ admitted in
    let is_so : may_commit who old.ledger.sessions ≡ true =
    is_opened (may_commit who old.ledger.sessions) who items txn (length old.ledger.log) old.ledger.cap admitted in
    let answer : Reply = Reply.Committed number txn grants in
    let event : Event = Called who request answer in
    let numbers : number ≡ count + 1 = numbered ∙ ap (λ (l : List Commit). length l + 1) stands.0.log in
    let is : answer ≡ commit_by count txn grants Made (commit_fault (is_open world who) who grants.items txn count log_cap) =
    ap (λ (n : ℕ). Reply.Committed n txn grants) numbers ∙ ap (λ (o : Option CommitFault). commit_by count txn grants Made o) (sym none) in
    let S : Reply → Type 0 = λ r. IsStoreAfter new origin (after world (Called who request r)) in
    let H : List Phase → Type 0 = λ xs. HasPhases xs (after world event) in
    let sessions : new.ledger.sessions ≡ with_phase who Committed old.ledger.sessions = ap (λ (l : Ledger). l.sessions) ledger in
    let there : IsStoreAfter new origin (after world event) = (
      store_committed old new origin world.past who txn event stands.0 ledger same_count refl refl known truth,
      subst H (sym sessions) (phases_committed old.ledger.sessions world who txn grants number stands.1 some is_so),
    ) in
    (Made, is, subst S is there)

-- a reply of this fault tells of memory where the fault is its want
memory_is : (fault : CommitFault) (txn : List Change) (grants : GrantsView) → tells_memory (Reply.NotCommitted fault txn grants) ≡ true → fault ≡ faults.Memory
memory_is faults.Memory txn grants e = refl
memory_is other txn grants e = absurd (false≢true e)

no_memory : (fault : CommitFault) (txn : List Change) (grants : GrantsView) → tells_memory (Reply.NotCommitted fault txn grants) ≡ false → fault ≢ faults.Memory
no_memory faults.Memory txn grants e = absurd (false≢true (sym e))
no_memory faults.Ended txn grants e = λ z. cc
no_memory (faults.Uncovered key) txn grants e = λ z. cc
no_memory (faults.LogFull count) txn grants e = λ z. cc
no_memory (faults.Rejected index) txn grants e = λ z. cc
no_memory faults.KeepFault txn grants e = λ z. cc

-- so it is for a commit
commit_tells : (old new : StoreView) (origin : Origin) (world : World) (who : Sid) (txn : List Change) (grants : GrantsView) (reply : Reply)
    (result : Result Reply Memory) → IsStoreAfter old origin world → 1 ≤ who.number → old.faults ≤ new.faults
    → TellsCommit who txn grants old new reply → GoesOn reply result → MakesCall origin world who (wanted.Commit txn grants) new result
commit_tells old new origin world who txn grants (Reply.Committed number back kept) (Ok said) stands some more (same, held, made) on =
    let P : Reply → Type 0 = λ r. MakesCall origin world who (wanted.Commit txn grants) new (Ok r) in
    let is : Reply.Committed number back kept ≡ Reply.Committed number txn grants = λ i. Reply.Committed number (same i) (held i) in
    subst P (sym (on.0 ∙ is)) (commit_made old new origin world who txn grants grants.items number stands some refl
    made.admitted made.number_is made.goes.ledger_is made.goes.counted made.goes.known_before made.applied)
commit_tells old new origin world who txn grants (Reply.Committed number back kept) (Err memory) stands some more made on = absurd (false≢true on)
commit_tells old new origin world who txn grants (Reply.NotCommitted fault back kept) (Ok said) stands some more (same, held, made) on =
    let P : Reply → Type 0 = λ r. MakesCall origin world who (wanted.Commit txn grants) new (Ok r) in
    let is : Reply.NotCommitted fault back kept ≡ Reply.NotCommitted fault txn grants = λ i. Reply.NotCommitted fault (same i) (held i) in
    subst P (sym (on.0 ∙ is)) (commit_refused old new origin world who txn grants grants.items fault stands some refl (no_memory fault back kept on.1)
    made.refusal made.goes.ledger_is made.goes.counted more made.goes.known_before made.true_place)
commit_tells old new origin world who txn grants (Reply.NotCommitted fault back kept) (Err memory) stands some more (same, held, made) on =
    let is = memory_is fault back kept on in
    let ledger : new.ledger ≡ old.ledger = made.goes.ledger_is ∙ ap (λ (f : CommitFault). with_call (is_failure f) old.ledger) is in
    let counted : new.faults ≡ old.faults = subst (λ (f : CommitFault). Counts (is_failure f) old.faults new.faults) is made.goes.counted in
    call_unmade old new origin world stands ledger counted made.goes.known_before
commit_tells old new origin world who txn grants other result stands some more made on = absurd made

-- so it is for an end
end_made : (old new : StoreView) (origin : Origin) (world : World) (who : Sid) (reply : Reply) (result : Result Reply Memory)
    → IsStoreAfter old origin world → 1 ≤ who.number → TellsEnd who old new reply → GoesOn reply result → MakesCall origin world who wanted.End new result
end_made old new origin world who (Reply.End was) (Ok said) stands some (is, goes) on =
    let was_open = is_open world who in
    let sessions : new.ledger.sessions ≡ ended who old.ledger.sessions = ap (λ (l : Ledger). l.sessions) goes.ledger_is in
    let event : Event = Called who wanted.End (Reply.End was_open) in
    let P : List Phase → Type 0 = λ xs. HasPhases xs (after world event) in (
      Failed,
      on.0 ∙ ap Reply.End (is ∙ stands.1.opens who some),
      (
        store_ended old new origin world.past who event stands.0 goes.ledger_is goes.known_before goes.counted refl refl (λ rows. tt),
        subst P (sym sessions) (phases_ended old.ledger.sessions world who stands.1 some),
      ),
    )
end_made old new origin world who (Reply.End was) (Err memory) stands some made on = absurd (false≢true on)
end_made old new origin world who other result stands some made on = absurd made

-- what the executor made of the store is the event of the request
pub call_is : (old new : StoreView) (origin : Origin) (world : World) (who : Sid) (request : Wanted) (reply : Reply) (result : Result Reply Memory)
    → IsStoreAfter old origin world → 1 ≤ who.number → old.faults ≤ new.faults → MakesAtStore old who request new reply → GoesOn reply result
    → MakesCall origin world who request new result
call_is old new origin world who (wanted.Ask key) reply result stands some more made on =
    ask_made old new origin world who key reply result stands more made on
call_is old new origin world who (wanted.Staged key txn) reply result stands some more made on =
    staged_made old new origin world who key txn reply result stands more made on
call_is old new origin world who (wanted.Commit txn grants) reply result stands some more made on =
    commit_tells old new origin world who txn grants reply result stands some more made on
call_is old new origin world who wanted.End reply result stands some more made on = end_made old new origin world who reply result stands some made on
call_is old new origin world who other reply result stands some more made on = absurd made
