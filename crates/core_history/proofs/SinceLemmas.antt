-- Whatever a key's value is made from was so with at least as many commits as the log once had: each good event keeps that, whatever the keeper says.
use Rattle.std.proofs.Common.{ℕ, ℤ, ◌≡◌, ◌≢◌, ◌≤◌, ◌==◌, Bool, true, false, cond, List, [], ◌∷◌, ◌++◌, length}
use Rattle.std.proofs.Common.{Option, Some, None, option_map, decimal, refl, sym, ap, subst, ◌∙◌, inl, inr, ⊎_elim, eq-eqb, eqb-true, arith}
use Rattle.std.specs.List.{AllByRecursion}
use Rattle.rows_model.specs.declared.keys.QKey.{QKey}
use Rattle.rows_model.specs.declared.keys.Sid.{Sid}
use Rattle.rows_model.specs.Key.{same_key}
use Rattle.rows_model.proofs.SameKey.{same_key-true}
use Rattle.rows_model.specs.Placement.{shard_of}
use Rattle.rows_model.specs.Shift.{shifted}
use Rattle.lease_table.specs.declared.records.Mode.{Mode}
use Rattle.lease_table.specs.declared.records.Mode.TheVariants.{Invalidate, Refresh, Delta}
use Rattle.lease_table.specs.declared.records.Quar.{Quar}
use Rattle.lease_table.specs.declared.records.ReadLease.{ReadLease}
use Rattle.key_shard.specs.declared.steps.Ended.{Ended as Ends}
use Rattle.key_shard.specs.declared.steps.Ended.TheVariants as ended
use Rattle.key_shard.specs.declared.steps.Step.{Step}
use Rattle.key_shard.specs.declared.steps.Step.TheVariants as step
use Rattle.key_shard.specs.Past.{recorded, entry, entry_ended, entry_shifted, is_evicted, evicted_by, quar_of}
use Rattle.sql_keeper.specs.declared.stores.Answer.{Answer}
use Rattle.session_client.specs.declared.plans.Shape.{Shape}
use Rattle.session_client.specs.declared.replies.Reply.{Reply}
use Rattle.session_client.specs.declared.replies.Reply.TheVariants as Reply
use Rattle.session_client.specs.declared.replies.Wanted.{Wanted}
use Rattle.session_client.specs.declared.replies.Wanted.TheVariants as wanted
use Rattle.core_history.specs.Events.{Event, Stepped, Called, Ticked, Swept, steps_in, steps_of, log_of, known_of}
use Rattle.core_history.specs.Facts.{leases, leased_at, answers_under, Found, grants_as, found_at}
use Rattle.core_history.specs.Sweeps.{IsHitSince}
use Rattle.core_history.proofs.ExclusiveLemmas.{writes_alone}
use Rattle.core_history.proofs.GoodEvents.{IsOneOf, SetsAnswer, WritesOwn, IsGoodStep, IsGoodEvent}
use Rattle.core_history.proofs.HeldEvents.{steps_at, IsBetween, Holds, Gives, recorded_cases}
use Rattle.core_history.proofs.KeyLemmas.{StandsIn, quar-kept}
use Rattle.core_history.proofs.EventLemmas.{unmade-steps}
use Rattle.core_history.proofs.SessionLemmas.{maybe-step}
use Rattle.core_history.proofs.ListLemmas.{choose, and_intro, not_both}

-- an entry has a stamp of at least this
abbrev pub IsEntrySince : ℕ → Option (List ℕ × ℕ) → Type 0
IsEntrySince least None = Unit {0}
IsEntrySince least (Some old) = least ≤ old.1

-- the key's entry has a stamp of at least this, and there were as many commits when the lease was given
-- that is recorded on it, and when a quarantine was granted that stands there and isn't to invalidate
pub record Since (shape : Shape) (key : QKey) (least : ℕ) (past : List Event) : Type 0 where
  pub held : IsEntrySince least (entry key (steps_at shape past key))
  pub leased : (lease : ReadLease) (commits : ℕ) → recorded key (steps_at shape past key) ≡ Some lease
      → leased_at key lease.token past ≡ Some commits → least ≤ commits
  pub granted : (token : ℕ) (quar : Quar) (found : Found) → quar_of key token (steps_at shape past key) ≡ Some quar → quar.mode ≢ Invalidate
      → found_at key token past ≡ Some found → least ≤ found.commits

-- an event that leaves the key's steps, and what is told of its leases and quarantines
same_since : (shape : Shape) (key : QKey) (least : ℕ) (past after : List Event) → steps_at shape past key ≡ steps_at shape after key
    → ((token : ℕ) → leased_at key token after ≡ leased_at key token past) → ((token : ℕ) → found_at key token after ≡ found_at key token past)
    → Since shape key least past → Since shape key least after
same_since shape key least past after same leased found since = record {
  held = subst (λ l. IsEntrySince least (entry key l)) same since.held;
  leased = λ lease commits is at. since.leased lease commits (subst (λ l. recorded key l ≡ Some lease) (sym same) is) (sym (leased lease.token) ∙ at);
  granted = λ token quar old stands other at.
      since.granted token quar old (subst (λ l. quar_of key token l ≡ Some quar) (sym same) stands) other (sym (found token) ∙ at);
}

-- an entry that goes or stays, or that is shifted
goes_since : (least : ℕ) (b : Bool) (old : Option (List ℕ × ℕ)) → IsEntrySince least old → IsEntrySince least (cond b None old)
goes_since least true old h = tt
goes_since least false old h = h

number_since : (least stamp : ℕ) (number : Option ℕ) → least ≤ stamp → IsEntrySince least (option_map (λ n. (decimal n, stamp)) number)
number_since least stamp None le = tt
number_since least stamp (Some n) le = le

shifted_since : (least stamp : ℕ) (by : ℤ) (old : Option (List ℕ × ℕ)) → least ≤ stamp → IsEntrySince least (entry_shifted by stamp old)
shifted_since least stamp by None le = tt
shifted_since least stamp by (Some old) le = number_since least stamp (shifted old.0 by) le

-- an answer that was told under a lease
answer_since : (least most : ℕ) (answered : Answer) (answers : List Answer) → AllByRecursion (IsBetween least most) answers → IsOneOf answered answers
    → least ≤ answered.stamp
answer_since least most answered (first ∷ answers) h (inl e) = subst (λ (a : Answer). least ≤ a.stamp) e h.0.0
answer_since least most answered (first ∷ answers) h (inr t) = answer_since least most answered answers h.1 t
answer_since least most answered [] h t = absurd t

-- a step that gives a lease gives its token
gives_leases : (key : QKey) (lease : ReadLease) (s : Step) → Gives key lease s → leases key lease.token s ≡ true
gives_leases key lease (step.Lease on sid floor now token deadline) gives =
    and_intro (same_key key on) (token == lease.token) gives.0 (eq-eqb token lease.token gives.1)
gives_leases key lease other gives = absurd gives

some_same : {a b : ℕ} → Some a ≡ Some b → a ≡ b
some_same e = cc

some_found : {a b : Found} → Some a ≡ Some b → a ≡ b
some_found e = cc

module _ (shape : Shape) (key : QKey) (least : ℕ) (past : List Event) (holds : Holds shape past (known_of past)) (since : Since shape key least past)
    (grown : least ≤ length (log_of past)) where
  abbrev steps : List Step
  steps = steps_at shape past key

  -- what is stored was told under the lease that is recorded
  stored_since : (who : Sid) (token : ℕ) (value : List ℕ) (stamp : ℕ) → SetsAnswer past steps who key token value stamp → least ≤ stamp
  stored_since who token value stamp sets =
      let lease = holds.leased key sets.lease sets.is_recorded in
      let at = length lease.then_known.log in
      let low = since.leased sets.lease at sets.is_recorded lease.leased in
      let asked = (holds.asked key token who.number at (subst (λ (t : ℕ). leased_at key t past ≡ Some at) sets.mine lease.leased)).1 in
      let high = answer_since at (length (log_of past)) sets.answered (answers_under key token who.number past) asked sets.is_answer in
      let is = sets.stamp_is in
      omega (arith, low, high, is)

  -- what a session writes was made from what its quarantine found, and its commit came later
  written_since : (sid : Sid) (token : ℕ) (mode : Mode) (stamp : ℕ) → mode ≢ Invalidate → WritesOwn past steps key sid token mode stamp → least ≤ stamp
  written_since sid token mode stamp other writes =
      let it = writes_alone past steps key sid token mode stamp other writes (holds.alone key) in
      let at = subst (λ (t : ℕ). found_at key t past ≡ Some it.alone.found) it.token_is it.alone.granted in
      let low = since.granted token writes.quar it.alone.found writes.stands (λ e. other (sym writes.in_mode ∙ e)) at in
      let count = it.alone.count in
      let late = it.own.late in
      let is = writes.stamp_is in
      omega (arith, low, count, late, is)

  ended_since : (who : Sid) (sid : Sid) (token : ℕ) (how : Ends) → IsGoodStep past steps who (step.Released key sid token how)
      → IsEntrySince least (entry_ended how (entry key steps))
  ended_since who sid token ended.Keep good = since.held
  ended_since who sid token ended.Drop good = tt
  ended_since who sid token (ended.Put value stamp evicted) good = written_since sid token Refresh stamp (λ e. cc) good.writes
  ended_since who sid token (ended.Shift by stamp) good =
      shifted_since least stamp by (entry key steps) (written_since sid token Delta stamp (λ e. cc) good.writes)

  -- the entry after a good step
  entry_since : (who : Sid) (s : Step) → IsGoodStep past steps who s → IsEntrySince least (entry key (s ∷ steps))
  entry_since who (step.Stored on token now value stamp evicted) good =
      choose (IsEntrySince least) (same_key key on) (Some (value, stamp)) (cond (is_evicted key evicted) None (entry key steps))
      (λ same. stored_since who token value stamp (subst (λ k. SetsAnswer past steps who k token value stamp) (sym (same_key-true key on same)) good))
      (λ _. goes_since least (is_evicted key evicted) (entry key steps) since.held)
  entry_since who (step.Released on sid token how) good =
      choose (IsEntrySince least) (same_key key on) (entry_ended how (entry key steps)) (cond (is_evicted key (evicted_by how)) None (entry key steps))
      (λ same. ended_since who sid token how (subst (λ k. IsGoodStep past steps who (step.Released k sid token how)) (sym (same_key-true key on same)) good))
      (λ _. goes_since least (is_evicted key (evicted_by how)) (entry key steps) since.held)
  entry_since who (step.Lease on sid floor now token deadline) good = goes_since least (same_key key on) (entry key steps) since.held
  entry_since who (step.Again on sid floor now stands) good = goes_since least (same_key key on) (entry key steps) since.held
  entry_since who (step.Hit on sid floor value stamp) good = since.held
  entry_since who (step.Own on sid) good = since.held
  entry_since who (step.Void on token now) good = since.held
  entry_since who (step.Granted on sid mode shift now token deadline) good = since.held
  entry_since who (step.Held on sid mode) good = since.held
  entry_since who (step.Refused on sid mode holder held) good = since.held
  entry_since who (step.Gone on sid token) good = since.held
  entry_since who (step.Raised on sid token) good = since.held
  entry_since who (step.Shared on sid token holder) good = since.held
  entry_since who (step.Renewed on sid token now deadline) good = since.held

  -- a hit is on the entry
  hit_since : (who : Sid) (s : Step) → IsGoodStep past steps who s → IsHitSince key least s
  hit_since who (step.Hit on sid floor value stamp) good =
      λ is.
      let held : entry key steps ≡ Some (value, stamp) = subst (λ k. entry k steps ≡ Some (value, stamp)) is good in
      subst (IsEntrySince least) held since.held
  hit_since who other good = tt

  -- a good step on a shard, whoever makes it
  stepped_since : (home : ℕ) (who : Sid) (request : Wanted) (s : Step) (reply : Reply) → IsGoodStep past (steps_of home past) who s
      → Since shape key least (Stepped home who request s reply ∷ past)
  stepped_since home who request s reply good = record {
    held = maybe-step (λ l. IsEntrySince least (entry key l)) here s steps
        (λ same. entry_since who s (subst (λ (p : ℕ). IsGoodStep past (steps_of p past) who s) (eqb-true home (shard_of key shape.shards) same) good))
        (λ _. since.held);
    leased = λ lease commits is at. lease_after lease commits (leases key lease.token s) refl is at;
    granted = λ token quar found stands other at. grant_after token quar found (grants_as key token s) refl stands other at;
  }
    where
      here : Bool
      here = home == shard_of key shape.shards

      lease_after : (lease : ReadLease) (commits : ℕ) (b : Bool) → leases key lease.token s ≡ b → recorded key (cond here (s ∷ []) [] ++ steps) ≡ Some lease
          → cond b (Some (length (log_of past))) (leased_at key lease.token past) ≡ Some commits → least ≤ commits
      lease_after lease commits true gives is at = let now = some_same at in omega (arith, grown, now)
      lease_after lease commits false none is at =
          since.leased lease commits (maybe-step (λ l. recorded key l ≡ Some lease → recorded key steps ≡ Some lease) here s steps
          (λ _ e. ⊎_elim (λ kept. kept.was) (λ gives. absurd (not_both (gives_leases key lease s gives) none)) (recorded_cases key lease steps s e))
          (λ _ e. e) is) at

      grant_after : (token : ℕ) (quar : Quar) (found : Found) (b : Bool) → grants_as key token s ≡ b
          → quar_of key token (cond here (s ∷ []) [] ++ steps) ≡ Some quar → quar.mode ≢ Invalidate
          → cond b (Some (record { commits = length (log_of past); entry = entry key (steps_of home past) })) (found_at key token past) ≡ Some found
          → least ≤ found.commits
      grant_after token quar found true gives stands other at =
          let now = ap (λ (f : Found). f.commits) (some_found at) in omega (arith, grown, now)
      grant_after token quar found false none stands other at =
          let Stood : List Step → Type 0 = λ l. quar_of key token l ≡ Some quar → StandsIn key token steps quar in
          let old = maybe-step Stood here s steps (λ _ e. quar-kept s key token steps quar none e) (λ _ e. (quar, e, refl)) stands in
          since.granted token old.0 found old.1 (λ e. other (sym old.2 ∙ e)) at

  -- each good event
  pub event_since : (event : Event) → IsGoodEvent shape past event → Since shape key least (event ∷ past)
  event_since (Stepped home who request s reply) good = stepped_since home who request s reply good.good
  event_since (Called who request reply) good = same_since shape key least past (Called who request reply ∷ past) refl (λ t. refl) (λ t. refl) since
  event_since (Ticked now) good = same_since shape key least past (Ticked now ∷ past) refl (λ t. refl) (λ t. refl) since
  event_since (Swept home request None reply) good =
      let same = unmade-steps (shard_of key shape.shards) home request reply past in
      same_since shape key least past (Swept home request None reply ∷ past) (sym same) (λ t. refl) (λ t. refl) since
  event_since (Swept home request (Some (step.Released on sid token ended.Drop)) reply) good =
      let s = step.Released on sid token ended.Drop in
      same_since shape key least (Stepped home sid wanted.Nothing s Reply.Nothing ∷ past) (Swept home request (Some s) reply ∷ past) refl (λ t. refl) (λ t. refl)
      (stepped_since home sid wanted.Nothing s Reply.Nothing good.0.over)
  event_since (Swept home request (Some other) reply) good = absurd good.0

  -- and each hit that it made
  pub event_hits : (event : Event) → IsGoodEvent shape past event → AllByRecursion (IsHitSince key least) (steps_in (shard_of key shape.shards) event)
  event_hits (Stepped home who request s reply) good =
      choose (AllByRecursion (IsHitSince key least)) (home == shard_of key shape.shards) (s ∷ []) []
      (λ same. (hit_since who s (subst (λ (p : ℕ). IsGoodStep past (steps_of p past) who s) (eqb-true home (shard_of key shape.shards) same) good.good), tt))
      (λ _. tt)
  event_hits (Called who request reply) good = tt
  event_hits (Ticked now) good = tt
  event_hits (Swept home request None reply) good =
      choose (AllByRecursion (IsHitSince key least)) (home == shard_of key shape.shards) [] [] (λ _. tt) (λ _. tt)
  event_hits (Swept home request (Some (step.Released on sid token ended.Drop)) reply) good =
      choose (AllByRecursion (IsHitSince key least)) (home == shard_of key shape.shards)
      (step.Released on sid token ended.Drop ∷ []) [] (λ _. (tt, tt)) (λ _. tt)
  event_hits (Swept home request (Some other) reply) good = absurd good.0
