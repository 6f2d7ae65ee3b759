-- Where the keeper's word was true the transactions of a log applied, and so answers follow the laws of rows.
use Rattle.std.proofs.Common.{ℕ, zero, suc, ◌≡◌, ◌+◌, ◌≤◌, true, List, [], ◌∷◌, ◌++◌, length, take, All, Some, Ok, option_map, decimal}
use Rattle.std.proofs.Common.{add-one, append-nil, refl, sym, ap, subst, ◌∙◌, ◌⊎◌, inl, inr, ⊎_elim, arith}
use Rattle.rows_model.specs.declared.keys.QKey.{QKey}
use Rattle.rows_model.specs.declared.keys.Sid.{Sid}
use Rattle.rows_model.specs.declared.changes.Change.{Change}
use Rattle.rows_model.specs.Rows.{Tables, Fit}
use Rattle.rows_model.specs.Query.{answer}
use Rattle.rows_model.specs.Changes.{HasIds, apply_all}
use Rattle.rows_model.specs.Delta.{is_count, delta_of}
use Rattle.rows_model.specs.Refresh.{refreshed}
use Rattle.rows_model.specs.Shift.{shifted}
use Rattle.rows_model.proofs.DeltaLemmas.{delta_shifts}
use Rattle.rows_model.proofs.RefreshLawLemmas.{refreshed_is}
use Rattle.rows_model.proofs.StayFitLemmas.{rows_stay}
use Rattle.rows_model.proofs.UntouchedLemmas.{untouched_keeps}
use Rattle.sql_keeper.specs.declared.stores.Commit.{Commit}
use Rattle.sql_keeper.specs.Log.{led_to, after_commit, state, rows_after}
use Rattle.key_freshness.specs.Held.{LeavesUntouched, MakesNext}
use Rattle.key_freshness.specs.Known.{StandsAt}
use Rattle.key_freshness.proofs.KnownLemmas.{stands-within}
use Rattle.session_client.specs.declared.replies.Reply.{Reply}
use Rattle.session_client.specs.declared.replies.Reply.TheVariants as Reply
use Rattle.session_client.specs.declared.replies.Wanted.{Wanted}
use Rattle.core_history.specs.Events.{Event, Stepped, Called, Ticked, Swept, commits_of_reply, commits_in, log_of}
use Rattle.core_history.specs.Truth.{IsTrueReply, IsTrueEvent, IsTruePast}
use Rattle.core_history.proofs.LogLemmas.{state-more, state-whole, get-within, get-pushed}

-- the answer to the key after some commits
abbrev pub answer_after : Tables → QKey → List Commit → List ℕ
answer_after opening key log = answer key (rows_after opening log)

-- changes apply to rows
pub record Applies (txn : List Change) (rows : Tables) : Type 0 where
  pub after : Tables
  pub is : apply_all txn rows ≡ Ok after

-- the opening rows are fit, and each transaction names members and names alone, and applied where it was committed
pub record IsTrueLog (opening : Tables) (log : List Commit) : Type 0 where
  pub fit : Fit opening
  pub ids : (place : ℕ) (commit : Commit) → StandsAt log place commit → All HasIds commit.txn
  pub applied : (place : ℕ) (commit : Commit) → StandsAt log place commit → Applies commit.txn (state opening log place)

-- a commit that stands in a log after an event stood there before, or is the last, and applied
abbrev IsOldOrApplied : Tables → List Commit → ℕ → Commit → Type 0
IsOldOrApplied rows log place commit = StandsAt log place commit ⊎ ((place ≡ length log) × Applies commit.txn rows)

applied_reply : (rows : Tables) (log : List Commit) (who : Sid) (request : Wanted) (reply : Reply) (place : ℕ) (commit : Commit) → IsTrueReply rows request reply
    → StandsAt (log ++ commits_of_reply who reply) place commit → IsOldOrApplied rows log place commit
applied_reply rows log who request (Reply.Committed number txn grants) place commit word at =
    ⊎_elim
    (λ old. inl old)
    (λ last. inr (last.0, subst (λ (c : Commit). Applies c.txn rows) last.1 (record { after = word.0; is = word.1 })))
    (get-pushed log (record { sid = who; txn = txn }) commit place at)
applied_reply rows log who request other place commit word at = inl (subst (λ l. StandsAt l place commit) (append-nil log) at)

event_applied : (rows : Tables) (log : List Commit) (event : Event) (place : ℕ) (commit : Commit) → IsTrueEvent rows event
    → StandsAt (log ++ commits_in event) place commit → IsOldOrApplied rows log place commit
event_applied rows log (Stepped shard who request step reply) place commit word at = applied_reply rows log who request reply place commit word at
event_applied rows log (Called who request reply) place commit word at = applied_reply rows log who request reply place commit word at
event_applied rows log (Ticked now) place commit word at = inl (subst (λ l. StandsAt l place commit) (append-nil log) at)
event_applied rows log (Swept shard request made reply) place commit word at = inl (subst (λ l. StandsAt l place commit) (append-nil log) at)

-- each transaction applied where its commit was told
pub true_applied : (opening : Tables) (past : List Event) → IsTruePast opening past → (place : ℕ) (commit : Commit) → StandsAt (log_of past) place commit
    → Applies commit.txn (state opening (log_of past) place)
true_applied opening [] word place commit at = absurd cc
true_applied opening (event ∷ past) word place commit at =
    let log = log_of past in
    let more = commits_in event in
    let A : Tables → Type 0 = λ rows. Applies commit.txn rows in
    ⊎_elim
    (λ old. let lt = get-within log commit place old in
    subst A (sym (state-more opening log more place (omega (arith, lt)))) (true_applied opening past word.1 place commit old))
    (λ last.
    let end : place ≡ length log = last.0 in
    let here : state opening (log ++ more) place ≡ rows_after opening log =
    ap (λ n. state opening (log ++ more) n) end ∙ state-more opening log more (length log) (omega arith) ∙ state-whole opening log in
    subst A (sym here) last.1)
    (event_applied (rows_after opening log) log event place commit word.0 at)

take-none : {X : Type 0} (xs : List X) → take zero xs ≡ []
take-none [] = refl
take-none (x ∷ xs) = refl

-- the rows after one commit more
state-next : (opening : Tables) (log : List Commit) (place : ℕ) (commit : Commit) → StandsAt log place commit
    → state opening log (suc place) ≡ after_commit (state opening log place) commit
state-next opening [] place commit at = absurd cc
state-next opening (first ∷ log) zero commit at =
    let same : first ≡ commit = cc in
    ap (λ l. rows_after (after_commit opening first) l) (take-none log) ∙ ap (λ c. after_commit opening c) same
state-next opening (first ∷ log) (suc place) commit at = state-next (after_commit opening first) log place commit at

module _ (opening : Tables) (log : List Commit) (true_log : IsTrueLog opening log) where
  after_is : (place : ℕ) (commit : Commit) (at : StandsAt log place commit) → state opening log (suc place) ≡ (true_log.applied place commit at).after
  after_is place commit at =
      state-next opening log place commit at ∙ ap (led_to (state opening log place)) (true_log.applied place commit at).is

  -- the rows after so many commits are fit
  fit_at : (n : ℕ) → n ≤ length log → Fit (state opening log n)
  fit_at zero le = subst (λ l. Fit (rows_after opening l)) (sym (take-none log)) true_log.fit
  fit_at (suc n) le =
      let found = stands-within log n (omega (arith, le)) in
      let applied = true_log.applied n found.0 found.1 in
      subst Fit (sym (after_is n found.0 found.1))
      (rows_stay found.0.txn (state opening log n) applied.after (fit_at n (omega (arith, le))) (true_log.ids n found.0 found.1) applied.is)

  fit_where : (place : ℕ) (commit : Commit) → StandsAt log place commit → Fit (state opening log place)
  fit_where place commit at = let lt = get-within log commit place at in fit_at place (omega (arith, lt))

  answer_is : (key : QKey) (place : ℕ) (commit : Commit) (at : StandsAt log place commit)
      → answer_after opening key (take (place + 1) log) ≡ answer key (true_log.applied place commit at).after
  answer_is key place commit at = ap (λ n. answer key (state opening log n)) (add-one place) ∙ ap (λ rows. answer key rows) (after_is place commit at)

  -- a commit that doesn't touch the key leaves its answer
  pub leaves_untouched : (key : QKey) → LeavesUntouched key (answer_after opening key) log
  leaves_untouched key place commit at none =
      answer_is key place commit at
      ∙ untouched_keeps commit.txn key (state opening log place) (true_log.applied place commit at).after
      (fit_where place commit at) (true_log.applied place commit at).is none

  -- refreshed by a commit's changes the answer is the one after it
  pub makes_refreshed : (key : QKey) → MakesNext (λ txn value. refreshed key value txn) (answer_after opening key) log
  makes_refreshed key place commit at =
      refreshed_is key commit.txn (state opening log place) (true_log.applied place commit at).after
      (fit_where place commit at) (true_log.ids place commit at) (true_log.applied place commit at).is
      ∙ ap Some (sym (answer_is key place commit at))

  -- a count shifted by what a commit's changes add is the one after it
  pub makes_shifted : (key : QKey) → is_count key ≡ true
      → MakesNext (λ txn value. option_map decimal (shifted value (delta_of key txn))) (answer_after opening key) log
  makes_shifted key counts place commit at =
      delta_shifts key commit.txn (state opening log place) (true_log.applied place commit at).after counts
      (fit_where place commit at) (true_log.ids place commit at) (true_log.applied place commit at).is
      ∙ ap Some (sym (answer_is key place commit at))
