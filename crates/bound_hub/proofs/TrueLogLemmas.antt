-- The commits that are seen stay a log of which each transaction applied, and by such a log answers follow the laws of rows.
use Rattle.std.specs.Prelude.{Option, None, IsSome, is_none}
use Rattle.std.proofs.Common.{ℕ, zero, suc, ◌≡◌, ◌+◌, ◌≤◌, Bool, true, false, ◌||◌, ◌<◌, List, [], ◌∷◌, ◌++◌, length, take, All, Some, Result, Ok, Err, IfOk, MatchResult, add-one, refl, sym, ap, subst, ◌∙◌, ⊎_elim, arith}
use Rattle.rows_model.specs.declared.keys.QKey.{QKey}
use Rattle.rows_model.specs.declared.keys.Sid.{Sid}
use Rattle.rows_model.specs.declared.changes.Change.{Change}
use Rattle.rows_model.specs.Rows.{Tables, Fit}
use Rattle.rows_model.specs.Query.{answer}
use Rattle.rows_model.specs.Changes.{HasIds, apply_all}
use Rattle.rows_model.specs.Delta.{is_count}
use Rattle.rows_model.proofs.DeltaLemmas.{delta_shifts}
use Rattle.rows_model.proofs.RefreshLawLemmas.{refreshed_is}
use Rattle.rows_model.proofs.StayFitLemmas.{rows_stay}
use Rattle.rows_model.proofs.UntouchedLemmas.{untouched_keeps}
use Rattle.sql_keeper.specs.declared.stores.Commit.{Commit}
use Rattle.sql_keeper.specs.declared.faults.CommitFault.{CommitFault}
use Rattle.sql_keeper.specs.Stores.{StoreView}
use Rattle.sql_keeper.specs.Log.{led_to, after_commit, state, rows_after}
use Rattle.log_word.specs.declared.events.StoreEvent.{StoreEvent}
use Rattle.log_word.specs.declared.events.StoreEvent.TheVariants as event
use Rattle.log_word.specs.declared.seen.Seen.{Seen}
use Rattle.log_word.specs.Steps.{IsBeginning}
use Rattle.log_word.specs.Views.{with_event}
use Rattle.key_freshness.specs.Held.{LeavesUntouched, MakesNext}
use Rattle.key_freshness.specs.Known.{StandsAt}
use Rattle.key_freshness.proofs.KnownLemmas.{more-length, stands-pushed, stands-within, take-front, take-whole}
use Rattle.key_shard.specs.Permit.{Permit}
use Rattle.bound_hub.specs.Knowns.{commits_of}
use Rattle.bound_hub.specs.Facts.{answer_after}
use Rattle.bound_hub.specs.Stores.{rows_by, with_end_of, with_keeper_call, ShowsCommit}
use Rattle.log_word.specs.Passes.{WordView}
use Rattle.bound_hub.specs.Ties.{IsBoundStore}
use Rattle.bound_hub.specs.TrueLogs.{Applies, IsTrueLog, IsTrueSoFar}
use Rattle.bound_hub.specs.Writes.{IsLawful, refreshed_by, shifted_by}
use Rattle.bound_hub.proofs.RuledLemmas.{more_is_known}

-- no commit is seen at first
pub true_first : (opening : Tables) (seen : Seen) → Fit opening → seen.events ≡ [] → IsTrueSoFar opening seen
true_first opening seen fit none = λ telling. subst (λ e. IsTrueLog opening (commits_of e)) (sym none) (record { fit = fit; applied = λ place commit at. absurd cc })

-- the same commits are seen
pub true_still : (opening : Tables) (old new : Seen) → (new.stopped ≡ false → old.stopped ≡ false) → commits_of new.events ≡ commits_of old.events
    → IsTrueSoFar opening old → IsTrueSoFar opening new
true_still opening old new tells same h = λ telling. subst (IsTrueLog opening) (sym same) (h (tells telling))

pub true_with_begin : (opening : Tables) (old new : Seen) (sid : Sid) (worker : ℕ) (writes : Bool) → new ≡ with_event (event.Begin sid worker writes) old
    → IsTrueSoFar opening old → IsTrueSoFar opening new
true_with_begin opening old new sid worker writes is =
    true_still opening old new (λ telling. sym (ap (λ (s : Seen). s.stopped) is) ∙ telling) (ap (λ (s : Seen). commits_of s.events) is)

pub true_with_end : (opening : Tables) (old new : Seen) (sid : Sid) (was : Bool) → new ≡ with_end_of sid was old → IsTrueSoFar opening old → IsTrueSoFar opening new
true_with_end opening old new sid true is =
    true_still opening old new (λ telling. sym (ap (λ (s : Seen). s.stopped) is) ∙ telling) (ap (λ (s : Seen). commits_of s.events) is)
true_with_end opening old new sid false is =
    true_still opening old new (λ telling. sym (ap (λ (s : Seen). s.stopped) is) ∙ telling) (ap (λ (s : Seen). commits_of s.events) is)

neither : (a b : Bool) → (a || b) ≡ false → a ≡ false
neither true b e = e
neither false b e = refl

pub true_with_call : (opening : Tables) (old new : Seen) (did_fail stopped : Bool) → new ≡ with_keeper_call did_fail stopped old → IsTrueSoFar opening old → IsTrueSoFar opening new
true_with_call opening old new true stopped is =
    true_still opening old new (λ telling. neither old.stopped stopped (sym (ap (λ (s : Seen). s.stopped) is) ∙ telling)) (ap (λ (s : Seen). commits_of s.events) is)
true_with_call opening old new false stopped is =
    true_still opening old new (λ telling. neither old.stopped stopped (sym (ap (λ (s : Seen). s.stopped) is) ∙ telling)) (ap (λ (s : Seen). commits_of s.events) is)

abbrev behind : List StoreEvent → List StoreEvent
behind [] = []
behind (e ∷ events) = events

-- the rows before a commit of the log, whatever follows
state_more : (opening : Tables) (log more : List Commit) (n : ℕ) → n ≤ length log → state opening (log ++ more) n ≡ state opening log n
state_more opening log more n le = ap (λ l. rows_after opening l) (take-front log more n le)

-- what stands in a log stands before its end
stands_under : (log : List Commit) (place : ℕ) (commit : Commit) → StandsAt log place commit → suc place ≤ length log
stands_under [] place commit at = absurd cc
stands_under (first ∷ log) zero commit at = omega arith
stands_under (first ∷ log) (suc place) commit at = let h = stands_under log place commit at in omega (arith, h)

-- one commit more is seen, which applied
pub true_with_commit : (opening : Tables) (cap : ℕ) (sid : Sid) (txn : List Change) (permits : List Permit) (number : ℕ) (old new : Seen) (stopped : Bool)
    → new ≡ with_event (event.Commit sid txn) (with_keeper_call false stopped old) → All HasIds txn → ShowsCommit opening cap sid txn permits new number
    → IsTrueSoFar opening old → IsTrueSoFar opening new
true_with_commit opening cap sid txn permits number old new stopped is ids shows h = λ telling.
    let log = commits_of old.events in
    let one : Commit = record { sid = sid; txn = txn } in
    let was = h (neither old.stopped stopped (sym (ap (λ (s : Seen). s.stopped) is) ∙ telling)) in
    let same : shows.earlier ≡ old.events = ap behind (sym shows.last ∙ ap (λ (s : Seen). s.events) is) in
    let taken = shows.applied telling in
    subst (IsTrueLog opening) (sym (ap (λ (s : Seen). commits_of s.events) is))
    (record {
      fit = was.fit;
      applied = λ place commit at.
          ⊎_elim
          (λ before. let lt = stands_under log place commit before in
          subst (Applies commit.txn) (sym (state_more opening log (one ∷ []) place (omega (arith, lt)))) (was.applied place commit before))
          (λ last.
          let here : state opening (log ++ one ∷ []) place ≡ rows_by opening old.events =
          ap (λ n. state opening (log ++ one ∷ []) n) last.0 ∙ state_more opening log (one ∷ []) (length log) (omega arith) ∙ ap (λ l. rows_after opening l) (take-whole log) in
          subst (λ (c : Commit). Applies c.txn (state opening (log ++ one ∷ []) place)) last.1
          (record {
            ids = ids;
            after = taken.0;
            is = ap (λ rows. apply_all txn rows) here ∙ sym (ap (λ e. apply_all txn (rows_by opening e)) same) ∙ taken.1;
          }))
          (stands-pushed log one commit place at);
    })

-- whoever saw less before had seen fewer commits than the commit's number
pub commit_is_late : (opening : Tables) (cap : ℕ) (sid : Sid) (txn : List Change) (permits : List Permit) (old middle new : Seen) (stopped : Bool) (made : Result ℕ CommitFault)
    (Q : CommitFault → Type 0) → IsBeginning old middle
    → MatchResult made (λ _. new ≡ with_event (event.Commit sid txn) (with_keeper_call false stopped middle)) Q
    → IfOk made (ShowsCommit opening cap sid txn permits new) → IfOk made (λ number. length (commits_of old.events) < number)
commit_is_late opening cap sid txn permits old middle new stopped (Ok number) Q begins is shows =
    let same : shows.earlier ≡ middle.events = ap behind (sym shows.last ∙ ap (λ (s : Seen). s.events) is) in
    let least = more-length (more_is_known old middle begins) in
    let many = ap (λ e. length (commits_of e)) same in
    let number_is = shows.number_is in
    omega (arith, least, many, number_is)
commit_is_late opening cap sid txn permits old middle new stopped (Err fault) Q begins is shows = tt

take_none : {X : Type 0} (xs : List X) → take zero xs ≡ []
take_none [] = refl
take_none (x ∷ xs) = refl

-- the rows after one commit more
state_next : (opening : Tables) (log : List Commit) (place : ℕ) (commit : Commit) → StandsAt log place commit
    → state opening log (suc place) ≡ after_commit (state opening log place) commit
state_next opening [] place commit at = absurd cc
state_next opening (first ∷ log) zero commit at =
    let same : first ≡ commit = cc in
    ap (λ l. rows_after (after_commit opening first) l) (take_none log) ∙ ap (λ c. after_commit opening c) same
state_next opening (first ∷ log) (suc place) commit at = state_next (after_commit opening first) log place commit at

module _ (opening : Tables) (log : List Commit) (true_log : IsTrueLog opening log) where
  after_is : (place : ℕ) (commit : Commit) (at : StandsAt log place commit) → state opening log (suc place) ≡ (true_log.applied place commit at).after
  after_is place commit at =
      state_next opening log place commit at ∙ ap (led_to (state opening log place)) (true_log.applied place commit at).is

  -- the rows after so many commits are fit
  fit_at : (n : ℕ) → n ≤ length log → Fit (state opening log n)
  fit_at zero le = subst (λ l. Fit (rows_after opening l)) (sym (take_none log)) true_log.fit
  fit_at (suc n) le =
      let found = stands-within log n (omega (arith, le)) in
      let applied = true_log.applied n found.0 found.1 in
      subst Fit (sym (after_is n found.0 found.1))
      (rows_stay found.0.txn (state opening log n) applied.after (fit_at n (omega (arith, le))) applied.ids applied.is)

  fit_where : (place : ℕ) (commit : Commit) → StandsAt log place commit → Fit (state opening log place)
  fit_where place commit at = let lt = stands_under log place commit at in fit_at place (omega (arith, lt))

  answer_is : (key : QKey) (place : ℕ) (commit : Commit) (at : StandsAt log place commit)
      → answer_after opening key (take (place + 1) log) ≡ answer key (true_log.applied place commit at).after
  answer_is key place commit at = ap (λ n. answer key (state opening log n)) (add-one place) ∙ ap (λ rows. answer key rows) (after_is place commit at)

  -- a commit that doesn't touch the key leaves its answer
  leaves_untouched : (key : QKey) → LeavesUntouched key (answer_after opening key) log
  leaves_untouched key place commit at none =
      answer_is key place commit at
      ∙ untouched_keeps commit.txn key (state opening log place) (true_log.applied place commit at).after
      (fit_where place commit at) (true_log.applied place commit at).is none

  makes_refreshed : (key : QKey) → MakesNext (refreshed_by key) (answer_after opening key) log
  makes_refreshed key place commit at =
      refreshed_is key commit.txn (state opening log place) (true_log.applied place commit at).after
      (fit_where place commit at) (true_log.applied place commit at).ids (true_log.applied place commit at).is
      ∙ ap Some (sym (answer_is key place commit at))

  makes_shifted : (key : QKey) → is_count key ≡ true → MakesNext (shifted_by key) (answer_after opening key) log
  makes_shifted key counts place commit at =
      delta_shifts key commit.txn (state opening log place) (true_log.applied place commit at).after counts
      (fit_where place commit at) (true_log.applied place commit at).ids (true_log.applied place commit at).is
      ∙ ap Some (sym (answer_is key place commit at))

  -- so answers follow it, of a key that is refreshed
  pub lawful_to_refresh : (key : QKey) → IsLawful key (answer_after opening key) (refreshed_by key) log
  lawful_to_refresh key = record { leaves = leaves_untouched key; makes = makes_refreshed key }

  -- and of a count that is shifted
  pub lawful_to_shift : (key : QKey) → is_count key ≡ true → IsLawful key (answer_after opening key) (shifted_by key) log
  lawful_to_shift key counts = record { leaves = leaves_untouched key; makes = makes_shifted key counts }

none_stopped : (known_rows : Option Tables) → IsSome known_rows → is_none known_rows ≡ false
none_stopped None some = absurd cc
none_stopped (Some rows) some = refl

-- the log of a store that tells its rows, which belongs together with what was seen
pub true_log_of : (opening : Tables) (seen : Seen) (store left : StoreView) (word : WordView) (begun failed : ℕ)
    → IsBoundStore word begun failed store (record { word = word; seen = seen }) → IsTrueSoFar opening seen → left ≡ store → IsSome left.known_rows
    → IsTrueLog opening left.ledger.log
true_log_of opening seen store left word begun failed tied so_far same some =
    let is_so : is_none store.known_rows ≡ false = none_stopped store.known_rows (subst (λ (s : StoreView). IsSome s.known_rows) same some) in
    subst (IsTrueLog opening) (sym (ap (λ (s : StoreView). s.ledger.log) same ∙ tied.log)) (so_far (tied.stopped ∙ is_so))
