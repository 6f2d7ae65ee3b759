-- What is set on a key under a lease that stands is honest, where it was asked for under that lease.
use Rattle.std.proofs.Common.{ℕ, ◌≡◌, Bool, true, false, List, [], ◌∷◌, ◌++◌, length, Some, None, refl, sym, ap, subst, ◌∙◌, inl, inr, ⊎_elim, append_assoc, arith}
use Rattle.std.proofs.lemmas.Bool.{false≢true}
use Rattle.std.proofs.lemmas.Grind.{flat_map-append}
use Rattle.rows_model.specs.declared.keys.QKey.{QKey}
use Rattle.rows_model.specs.Rows.{Tables}
use Rattle.rows_model.specs.Placement.{shard_of}
use Rattle.lease_table.specs.Leases.{is_current}
use Rattle.key_shard.specs.declared.replies.SetAnswer.{SetAnswer}
use Rattle.key_shard.specs.declared.steps.Ended.{Ended}
use Rattle.key_shard.specs.declared.steps.Ended.TheVariants as ended
use Rattle.key_shard.specs.declared.steps.Step.{Step}
use Rattle.key_shard.specs.declared.steps.Step.TheVariants as step
use Rattle.key_shard.specs.Past.{recorded, next_token}
use Rattle.key_shard.specs.Answers.{IsLegalPast, set_step}
use Rattle.key_shard.specs.Replies.{ShowsSet}
use Rattle.key_shard.specs.Shards.{ShardView, past_of}
use Rattle.key_shard.proofs.CaseLemmas.{set_cases}
use Rattle.log_word.specs.declared.events.Short.{Short}
use Rattle.log_word.specs.declared.seen.Seen.{Seen}
use Rattle.log_word.specs.Events.{commit_count}
use Rattle.log_word.specs.Lists.{IsStart, steps_of}
use Rattle.log_word.specs.Steps.{IsSound, IsBeginning, IsBorneOut}
use Rattle.log_word.specs.Passes.{WordView, ShardPassView}
use Rattle.log_word.proofs.ViewLemmas.{beginning_trans}
use Rattle.key_freshness.specs.Marks.{Wrote, key_of, marks_in, marks_of}
use Rattle.key_freshness.specs.Moments.{IsSince}
use Rattle.key_freshness.specs.Held.{IsHeld}
use Rattle.key_freshness.proofs.KnownLemmas.{more-length}
use Rattle.key_freshness.proofs.MomentLemmas.{more_is_right, stored_is_latest, stored_is_settled}
use Rattle.bound_hub.specs.Shorts.{kind_of_end, short_of, shorts_of}
use Rattle.bound_hub.specs.Knowns.{commits_of, known_of}
use Rattle.bound_hub.specs.Facts.{answer_after}
use Rattle.bound_hub.specs.Ties.{IsBoundShard}
use Rattle.bound_hub.specs.Asked.{is_lease, IsLeaseOn, WasAsked, MaySet}
use Rattle.bound_hub.specs.StepShorts.{set_short}
use Rattle.bound_hub.proofs.EventLemmas.{commits_counted}
use Rattle.bound_hub.proofs.FactLemmas.{was_not}
use Rattle.bound_hub.proofs.LeaseLemmas.{current_lease, none_granted, token_from_first, lease_moment}
use Rattle.bound_hub.proofs.MadeLemmas.{well_made, legal_behind, drawn_below}
use Rattle.bound_hub.proofs.PastLemmas.{stands_in}
use Rattle.bound_hub.proofs.RuledLemmas.{keys_are_ruled, more_is_known}
use Rattle.bound_hub.proofs.StepFacts.{IsHonestStep}
use Rattle.bound_hub.proofs.StepTies.{bound_rules}

-- what was asked by a pass was asked by each pass that has seen more
pub asked_goes_on : (opening : Tables) (shards number : ℕ) (key : QKey) (token : ℕ) (value : List ℕ) (stamp : ℕ) (old new : Seen) → IsBeginning old new
    → MaySet opening shards number key token value stamp old → MaySet opening shards number key token value stamp new
asked_goes_on opening shards number key token value stamp old new more may =
    ⊎_elim (λ zero. inl zero) (λ (asked : WasAsked opening shards number key token value stamp old). inr (record {
      earlier = asked.earlier;
      sound = asked.sound;
      begins = beginning_trans asked.earlier old new asked.begins more;
      step = asked.step;
      last = asked.last;
      lease = asked.lease;
      late = asked.late;
      within = let k = more-length (more_is_known old new more) in let w = asked.within in omega (arith, k, w);
      right = λ telling.
          more_is_right (answer_after opening key) (known_of old.events) (known_of new.events) value stamp (more_is_known old new more) asked.within
          (asked.right (was_not old.stopped new.stopped more.stopped telling));
    })) may

-- the step gives a lease to read the key under this token
abbrev IsLeaseStep : QKey → ℕ → Step → Type 0
IsLeaseStep key token (step.Lease on sid floor now its deadline) = (on ≡ key) × (its ≡ token)
IsLeaseStep key token other = ⊥

no_end_leases : (how : Ended) → is_lease (kind_of_end how) ≡ false
no_end_leases ended.Keep = refl
no_end_leases ended.Drop = refl
no_end_leases (ended.Put value stamp evicted) = refl
no_end_leases (ended.Shift by stamp) = refl

is_lease_step : (key : QKey) (token : ℕ) (s : Step) (has : Bool) → IsLeaseOn key token (short_of s has) → IsLeaseStep key token s
is_lease_step key token (step.Lease on sid floor now its deadline) has lease = (lease.on, lease.under)
is_lease_step key token (step.Released on sid its how) has lease = absurd (false≢true (sym (no_end_leases how) ∙ lease.kind))
is_lease_step key token other has lease = absurd (false≢true lease.kind)

abbrev first_or : Short → List Short → Short
first_or x [] = x
first_or x (y ∷ ys) = y

module _ (word : WordView) (opening : Tables) (before : ℕ → List Step) (old : ShardView) (pass : ShardPassView) (bound : IsBoundShard word opening before old pass)
    (legal : IsLegalPast old.terms (past_of old)) (sound : IsSound pass.word.shards pass.seen)
    (key : QKey) (token : ℕ) (value : List ℕ) (stamp now : ℕ) (home : shard_of key word.shards ≡ old.terms.no) where
  abbrev number : ℕ
  number = old.terms.no

  -- while the lease stands, what was asked under it is held
  stored_held : WasAsked opening word.shards number key token value stamp pass.seen → is_current token now (recorded key (past_of old)) ≡ true
      → IsHeld key (Wrote stamp ∷ marks_of key bound.more) (known_of pass.seen.events) stamp
  stored_held asked current =
      let lease = current_lease token now (recorded key (past_of old)) current in
      let start = subst (λ l. IsStart l (steps_of number pass.seen.steps)) asked.last.1 (asked.begins.steps number) in
      let stands = stands_in (before number) bound.more asked.step asked.last.0 (subst (IsStart (asked.step ∷ asked.last.0)) bound.shorts_are start) in
      by stands.later stands.step stands.rest stands.goes_on (asked.last.1 ∙ sym stands.shorts)
      (is_lease_step key token stands.step _ (subst (IsLeaseOn key token) (sym (ap (first_or asked.step) stands.shorts)) asked.lease))
      lease.0 lease.1 lease.2
    where
      by : (later : List Step) (s : Step) (rest : List Step) → bound.more ≡ later ++ s ∷ rest → steps_of number asked.earlier.steps ≡ shorts_of (before number) (s ∷ rest) → IsLeaseStep key token s
          → (lease : _) → recorded key (past_of old) ≡ Some lease → lease.token ≡ token → IsHeld key (Wrote stamp ∷ marks_of key bound.more) (known_of pass.seen.events) stamp
      by later (step.Lease on sid floor at its deadline) rest goes_on shorts is lease recorded_is mine =
          let s = step.Lease key sid floor at its deadline in
          let same : step.Lease on sid floor at its deadline ≡ s = ap (λ k. step.Lease k sid floor at its deadline) is.0 in
          let base = s ∷ rest ++ before number in
          let more_is : bound.more ≡ later ++ s ∷ rest = goes_on ∙ ap (λ x. later ++ x ∷ rest) same in
          let past_is : past_of old ≡ later ++ base = bound.goes_on ∙ ap (λ l. l ++ before number) more_is ∙ append_assoc later (s ∷ rest) (before number) in
          let legal_all = subst (IsLegalPast old.terms) past_is legal in
          let legal_then = legal_behind old.terms later base legal_all in
          let drawn : its ≡ next_token old.terms (rest ++ before number) = (well_made old.terms (rest ++ before number) s legal_then.0).0 in
          let ruled_then = keys_are_ruled word.shards asked.earlier key (before number) (s ∷ rest) asked.sound
          (subst (λ n. steps_of n asked.earlier.steps ≡ shorts_of (before number) (s ∷ rest)) (sym home) (shorts ∙ ap (λ x. shorts_of (before number) (x ∷ rest)) same)) in
          let moment = lease_moment old.terms key (before number) rest bound.quiet (known_of asked.earlier.events) sid floor at its deadline legal_then ruled_then in
          let none = none_granted old.terms key base lease later legal_all
          (λ m. drawn_below old.terms m s (rest ++ before number) lease.token refl (mine ∙ sym is.1 ∙ drawn)) (ap (recorded key) (sym past_is) ∙ recorded_is) in
          let since : IsSince None (marks_of key (s ∷ rest)) (marks_of key bound.more) = record {
            more = marks_of key later;
            goes_on = ap (marks_of key) more_is ∙ flat_map-append (marks_in key) later (s ∷ rest);
            only = none;
          } in
          record {
            within = asked.within;
            pending = λ place commit its_token stands_at from touched over.
                stored_is_latest key (marks_of key (s ∷ rest)) (marks_of key bound.more) (known_of asked.earlier.events) (known_of pass.seen.events) stamp
                moment since (more_is_known asked.earlier pass.seen asked.begins) (bound_rules word opening before old pass bound sound key home)
                asked.late place commit stands_at from touched;
            settled = λ place commit stands_at low touched.
                stored_is_settled key (marks_of key (s ∷ rest)) (marks_of key bound.more) (known_of asked.earlier.events) (known_of pass.seen.events) stamp
                moment since (bound_rules word opening before old pass bound sound key home) place commit stands_at touched;
          }
      by later other rest goes_on shorts is lease recorded_is mine = absurd is

  -- no lease has token 0
  never_zero : token ≡ 0 → is_current token now (recorded key (past_of old)) ≡ true → ⊥
  never_zero zero current =
      let lease = current_lease token now (recorded key (past_of old)) current in
      let low = token_from_first old.terms key (past_of old) lease.0 legal lease.1 in
      let one = bound.from_one in
      let mine = lease.2 in
      omega (arith, low, one, mine, zero)

  module _ (may : MaySet opening word.shards number key token value stamp pass.seen) where
    abbrev s : Step
    s = set_step old.terms (past_of old) key token value stamp now

    pub set_is_honest : IsHonestStep opening (before number) bound.more pass.seen s
    set_is_honest =
        set_cases (IsHonestStep opening (before number) bound.more pass.seen) old.terms (past_of old) key token value stamp now
        (λ current. ⊎_elim
        (λ zero. absurd (never_zero zero current))
        (λ asked. record { own = tt; honest = stored_held asked current; true_step = λ telling. asked.right telling; fresh_step = λ _. tt })
        may)
        (λ _. record { own = tt; honest = tt; true_step = λ _. tt; fresh_step = λ _. tt })

    -- the step in short, told by the answer
    pub set_tells : (answer : SetAnswer) (has : Bool) → ShowsSet s answer → (set_short key token stamp answer has ≡ short_of s has) × (key_of s ≡ key)
    set_tells answer has =
        set_cases (λ x. ShowsSet x answer → (set_short key token stamp answer has ≡ short_of x has) × (key_of x ≡ key)) old.terms (past_of old) key token value stamp now
        (λ _ shows. (ap (λ a. set_short key token stamp a has) shows, refl))
        (λ _ shows. (ap (λ a. set_short key token stamp a has) shows, refl))

    pub set_borne_out : (answer : SetAnswer) (has : Bool) → ShowsSet s answer → IsBorneOut pass.seen.events (set_short key token stamp answer has)
    set_borne_out answer has =
        set_cases (λ x. ShowsSet x answer → IsBorneOut pass.seen.events (set_short key token stamp answer has)) old.terms (past_of old) key token value stamp now
        (λ current shows. ⊎_elim
        (λ zero. absurd (never_zero zero current))
        (λ (asked : WasAsked opening word.shards number key token value stamp pass.seen).
        subst (λ a. IsBorneOut pass.seen.events (set_short key token stamp a has)) (sym shows) (record {
          begun = λ e. absurd (false≢true e);
          over = λ e. absurd (false≢true e);
          stamped =
              let within = asked.within in
              let e : length (commits_of pass.seen.events) ≡ commit_count pass.seen.events = commits_counted pass.seen.events in
              omega (arith, within, e);
        }))
        may)
        (λ _ shows. subst (λ a. IsBorneOut pass.seen.events (set_short key token stamp a has)) (sym shows) (record {
          begun = λ e. absurd (false≢true e);
          over = λ e. absurd (false≢true e);
          stamped = omega arith;
        }))
