-- Steps in short and the marks of their keys: who ended is told by a release, what was written by a
-- stamp, and who was granted by a grant.
use Rattle.std.proofs.Common.{ℕ, ◌≡◌, ◌≤◌, ◌==◌, ◌&&◌, Bool, true, false, cond, List, [], ◌∷◌, ◌++◌, is_some, refl, sym, ap, subst, inl, inr, ⊎_elim}
use Rattle.std.specs.List.{list_any, AllByRecursion}
use Rattle.std.proofs.lemmas.Bool.{false≢true, eqb-true, or_cases, and_parts}
use Rattle.rows_model.specs.declared.keys.QKey.{QKey}
use Rattle.rows_model.specs.Key.{same_key}
use Rattle.key_shard.specs.Past.{entry}
use Rattle.key_shard.specs.declared.steps.Ended as ends
use Rattle.key_shard.specs.declared.steps.Ended.TheVariants as ended
use Rattle.key_shard.specs.declared.steps.Step.{Step}
use Rattle.key_shard.specs.declared.steps.Step.TheVariants as step
use Rattle.log_word.specs.declared.events.StoreEvent.{StoreEvent}
use Rattle.log_word.specs.Events.{is_over, commit_count}
use Rattle.log_word.specs.Steps.{is_grant, is_release, grants, IsBorneOut}
use Rattle.key_freshness.specs.Marks.{Mark, Granted, Ended, Wrote, Has, key_of, writes_by, marks_by, marks_in, marks_of}
use Rattle.key_freshness.specs.Known.{WasGranted}
use Rattle.key_freshness.proofs.MarkLemmas.{has-front, has-back, has-split}
use Rattle.bound_hub.specs.Shorts.{kind_of_end, stamp_of_end, short_of, shorts_of}

ended_same : {a b s t : ℕ} → Ended a s ≡ Ended b t → a ≡ b
ended_same e = cc

wrote_same : {a b : ℕ} → Wrote a ≡ Wrote b → a ≡ b
wrote_same e = cc

each_end_releases : (how : ends.Ended) → is_release (kind_of_end how) ≡ true
each_end_releases ended.Keep = refl
each_end_releases ended.Drop = refl
each_end_releases (ended.Put value stamp evicted) = refl
each_end_releases (ended.Shift by stamp) = refl

ended_by_end : (how : ends.Ended) (who sid token other : ℕ) → Has (Ended who token) (writes_by how ++ Ended sid other ∷ []) → sid ≡ who
ended_by_end ended.Keep who sid token other (inl e) = ended_same e
ended_by_end ended.Keep who sid token other (inr h) = absurd h
ended_by_end ended.Drop who sid token other (inl e) = ended_same e
ended_by_end ended.Drop who sid token other (inr h) = absurd h
ended_by_end (ended.Put value stamp evicted) who sid token other (inl e) = absurd cc
ended_by_end (ended.Put value stamp evicted) who sid token other (inr (inl e)) = ended_same e
ended_by_end (ended.Put value stamp evicted) who sid token other (inr (inr h)) = absurd h
ended_by_end (ended.Shift by stamp) who sid token other (inl e) = absurd cc
ended_by_end (ended.Shift by stamp) who sid token other (inr (inl e)) = ended_same e
ended_by_end (ended.Shift by stamp) who sid token other (inr (inr h)) = absurd h

wrote_by_end : (how : ends.Ended) (stamp sid other : ℕ) → Has (Wrote stamp) (writes_by how ++ Ended sid other ∷ []) → stamp_of_end how ≡ stamp
wrote_by_end ended.Keep stamp sid other (inl e) = absurd cc
wrote_by_end ended.Keep stamp sid other (inr h) = absurd h
wrote_by_end ended.Drop stamp sid other (inl e) = absurd cc
wrote_by_end ended.Drop stamp sid other (inr h) = absurd h
wrote_by_end (ended.Put value n evicted) stamp sid other (inl e) = wrote_same e
wrote_by_end (ended.Put value n evicted) stamp sid other (inr (inl e)) = absurd cc
wrote_by_end (ended.Put value n evicted) stamp sid other (inr (inr h)) = absurd h
wrote_by_end (ended.Shift by n) stamp sid other (inl e) = wrote_same e
wrote_by_end (ended.Shift by n) stamp sid other (inr (inl e)) = absurd cc
wrote_by_end (ended.Shift by n) stamp sid other (inr (inr h)) = absurd h

-- a step that marks the end of a session's quarantine is a release of that session
ended_by_step : (s : Step) (has : Bool) (who token : ℕ) → Has (Ended who token) (marks_by s)
    → (is_release (short_of s has).kind ≡ true) × ((short_of s has).sid.number ≡ who)
ended_by_step (step.Lease on sid floor now t deadline) has who token (inl e) = absurd cc
ended_by_step (step.Lease on sid floor now t deadline) has who token (inr h) = absurd h
ended_by_step (step.Stored on t now value stamp evicted) has who token (inl e) = absurd cc
ended_by_step (step.Stored on t now value stamp evicted) has who token (inr h) = absurd h
ended_by_step (step.Granted on sid mode shift now t deadline) has who token (inl e) = absurd cc
ended_by_step (step.Granted on sid mode shift now t deadline) has who token (inr h) = absurd h
ended_by_step (step.Released on sid t how) has who token h = (each_end_releases how, ended_by_end how who sid.number token t h)
ended_by_step other has who token h = absurd h

-- a step that marks a stamp as written has it
wrote_by_step : (s : Step) (has : Bool) (stamp : ℕ) → Has (Wrote stamp) (marks_by s) → (short_of s has).stamp ≡ stamp
wrote_by_step (step.Lease on sid floor now t deadline) has stamp (inl e) = absurd cc
wrote_by_step (step.Lease on sid floor now t deadline) has stamp (inr h) = absurd h
wrote_by_step (step.Stored on t now value n evicted) has stamp (inl e) = wrote_same e
wrote_by_step (step.Stored on t now value n evicted) has stamp (inr h) = absurd h
wrote_by_step (step.Granted on sid mode shift now t deadline) has stamp (inl e) = absurd cc
wrote_by_step (step.Granted on sid mode shift now t deadline) has stamp (inr h) = absurd h
wrote_by_step (step.Released on sid t how) has stamp h = wrote_by_end how stamp sid.number t h
wrote_by_step other has stamp h = absurd h

-- a step in short that grants the key marks it
granted_by_end : (how : ends.Ended) (key on : QKey) (who sid : ℕ) → (is_grant (kind_of_end how) && same_key key on && (sid == who)) ≡ true → ⊥
granted_by_end ended.Keep key on who sid e = false≢true e
granted_by_end ended.Drop key on who sid e = false≢true e
granted_by_end (ended.Put value stamp evicted) key on who sid e = false≢true e
granted_by_end (ended.Shift by stamp) key on who sid e = false≢true e

granted_by_step : (key : QKey) (who : ℕ) (s : Step) (has : Bool) → grants key who (short_of s has) ≡ true → WasGranted (marks_in key s) who
granted_by_step key who (step.Granted on sid mode shift now token deadline) has e =
    let parts = and_parts (same_key key on) (sid.number == who) e in
    record {
      token = token;
      mark = subst (λ b. Has (Granted who token) (cond b (Granted sid.number token ∷ []) [])) (sym parts.0) (inl (ap (λ n. Granted n token) (eqb-true _ _ parts.1)));
    }
granted_by_step key who (step.Released on sid token how) has e = absurd (granted_by_end how key on who sid.number e)
granted_by_step key who other has e = absurd (false≢true e)

marks_on : (key : QKey) (s : Step) (mark : Mark) → Has mark (marks_in key s) → Has mark (marks_by s)
marks_on key s mark h = by (same_key key (key_of s)) h
  where
    by : (b : Bool) → Has mark (cond b (marks_by s) []) → Has mark (marks_by s)
    by true h = h
    by false h = absurd h

module _ (key : QKey) (events : List StoreEvent) (before : List Step) where
  -- who ended is over
  pub ended_is_over : (more : List Step) → AllByRecursion (IsBorneOut events) (shorts_of before more) → (who token : ℕ) → Has (Ended who token) (marks_of key more) → is_over who events ≡ true
  ended_is_over [] all who token h = absurd h
  ended_is_over (s ∷ more) all who token h =
      ⊎_elim
      (λ here.
      let has = is_some (entry (key_of s) (s ∷ more ++ before)) in
      let of_it = ended_by_step s has who token (marks_on key s (Ended who token) here) in
      subst (λ n. is_over n events ≡ true) of_it.1 (all.0.over of_it.0))
      (λ there. ended_is_over more all.1 who token there)
      (has-split (Ended who token) (marks_in key s) (marks_of key more) h)

  -- a stamp that was written is committed
  pub wrote_is_committed : (more : List Step) → AllByRecursion (IsBorneOut events) (shorts_of before more) → (stamp : ℕ) → Has (Wrote stamp) (marks_of key more) → stamp ≤ commit_count events
  wrote_is_committed [] all stamp h = absurd h
  wrote_is_committed (s ∷ more) all stamp h =
      ⊎_elim
      (λ here.
      let has = is_some (entry (key_of s) (s ∷ more ++ before)) in
      subst (λ (n : ℕ). n ≤ commit_count events) (wrote_by_step s has stamp (marks_on key s (Wrote stamp) here)) all.0.stamped)
      (λ there. wrote_is_committed more all.1 stamp there)
      (has-split (Wrote stamp) (marks_in key s) (marks_of key more) h)

-- who was granted has the mark
pub granted_is_marked : (key : QKey) (before more : List Step) (who : ℕ) → list_any (grants key who) (shorts_of before more) ≡ true → WasGranted (marks_of key more) who
granted_is_marked key before [] who e = absurd (false≢true e)
granted_is_marked key before (s ∷ more) who e =
    let has = is_some (entry (key_of s) (s ∷ more ++ before)) in
    ⊎_elim
    (λ here. let found = granted_by_step key who s has here in
    record { token = found.token; mark = has-front (Granted who found.token) (marks_in key s) (marks_of key more) found.mark })
    (λ there. let found = granted_is_marked key before more who there in
    record { token = found.token; mark = has-back (Granted who found.token) (marks_in key s) (marks_of key more) found.mark })
    (or_cases (grants key who (short_of s has)) (list_any (grants key who) (shorts_of before more)) e)
