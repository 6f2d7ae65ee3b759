-- A step keeps marks and what a shard holds of a key tied.
use Rattle.std.proofs.Common.{ℕ, ◌≡◌, ◌==◌, ◌&&◌, Bool, true, false, not, cond, List, [], ◌∷◌, ◌++◌, map, filter, Option, None, Some, refl, sym}
use Rattle.std.proofs.Common.{ap₂, subst, ◌∙◌, ◌⊎◌, inl, inr, ⊎_elim, ℤ, decimal, option_map, eq-eqb, append_assoc}
use Rattle.std.proofs.lemmas.Bool.{cases_Bool, false≢true, eqb-true, and_parts, and_from, or_cases, or_left, or_right}
use Rattle.std.proofs.lemmas.List.Folds.{list_any-append}
use Rattle.rows_model.specs.Key.{same_key}
use Rattle.rows_model.specs.Shift.{shifted}
use Rattle.rows_model.proofs.SameKey.{same_key-true}
use Rattle.lease_table.specs.declared.records.Quar.{Quar}
use Rattle.lease_table.specs.Leases.{has_token, raised, renewed}
use Rattle.key_shard.specs.declared.steps.Ended.{Ended as How}
use Rattle.key_shard.specs.declared.steps.Ended.TheVariants as ended
use Rattle.key_shard.specs.declared.steps.Step.TheVariants as step
use Rattle.key_shard.specs.Past.{standing, entry, entry_ended, entry_shifted, is_evicted, evicted_by}
use Rattle.key_shard.proofs.RaiseLemmas.{raised-same, renewed-same, any-mapped}
use Rattle.key_freshness.specs.Marks.{Mark, Granted, Ended, Leased, Wrote, Has, writes_by, marks_of}
use Rattle.key_freshness.specs.Held.{IsTied, IsStamped, stands_as}
use Rattle.key_freshness.specs.Laws.{StepsTie}
use Rattle.key_freshness.proofs.MarkLemmas.{by_test, has-back, has-split}

-- what stands among quarantines stands with one more
pub stands-front : (who token : ℕ) (xs ys : List Quar) → stands_as who token xs ≡ true → stands_as who token (xs ++ ys) ≡ true
stands-front who token xs ys h = list_any-append _ xs ys ∙ or_left (stands_as who token xs) (stands_as who token ys) h

pub stands-back : (who token : ℕ) (xs ys : List Quar) → stands_as who token ys ≡ true → stands_as who token (xs ++ ys) ≡ true
stands-back who token xs ys h = list_any-append _ xs ys ∙ or_right (stands_as who token xs) (stands_as who token ys) h

-- a quarantine of another token stands when those of one token are gone
pub stands-other : (who token gone : ℕ) (xs : List Quar) → (token ≡ gone → ⊥)
    → stands_as who token xs ≡ true → stands_as who token (filter (λ quar. not (has_token gone quar)) xs) ≡ true
stands-other who token gone [] apart h = h
stands-other who token gone (x ∷ xs) apart h =
    by_test (λ b. x.token == gone ≡ b → stands_as who token (cond (not b) (x ∷ rest) rest) ≡ true) (x.token == gone)
    (λ e is. ⊎_elim
    (λ here. absurd (apart (sym (eqb-true x.token token (and_parts (x.sid.number == who) (x.token == token) here).1) ∙ eqb-true x.token gone is)))
    (λ there. stands-other who token gone xs apart there)
    cases)
    (λ e is. ⊎_elim
    (λ here. or_left ((x.sid.number == who) && (x.token == token)) (stands_as who token rest) here)
    (λ there. or_right ((x.sid.number == who) && (x.token == token)) (stands_as who token rest) (stands-other who token gone xs apart there))
    cases)
    refl
  where
    rest : List Quar
    rest = filter (λ quar. not (has_token gone quar)) xs

    cases : (((x.sid.number == who) && (x.token == token)) ≡ true) ⊎ (stands_as who token xs ≡ true)
    cases = or_cases ((x.sid.number == who) && (x.token == token)) (stands_as who token xs) h

module _ (marks : List Mark) (start : Option ℕ) (quars : List Quar) where
  -- more marks that grant nothing
  granted_more : (found : Option (List ℕ × ℕ)) (more : List Mark) → ((who token : ℕ) → Has (Granted who token) more → ⊥) → IsTied marks start quars found
      → (who token : ℕ) → Has (Granted who token) (more ++ marks) → (stands_as who token quars ≡ true) ⊎ Has (Ended who token) (more ++ marks)
  granted_more found more none tied who token h =
      ⊎_elim
      (λ new. absurd (none who token new))
      (λ old. ⊎_elim (λ s. inl s) (λ e. inr (has-back (Ended who token) more marks e)) (tied.granted who token old))
      (has-split (Granted who token) more marks h)

  -- a miss, or another key's store, leaves no entry or the old
  gone_tied : (b : Bool) (found : Option (List ℕ × ℕ)) → IsTied marks start quars found → IsTied marks start quars (cond b None found)
  gone_tied true found tied = record { granted = tied.granted; stamped = tt }
  gone_tied false found tied = tied

  -- a step that marks nothing
  quiet_tied : (b : Bool) (found : Option (List ℕ × ℕ)) → IsTied marks start quars found → IsTied (cond b [] [] ++ marks) start quars found
  quiet_tied true found tied = tied
  quiet_tied false found tied = tied

  -- a step that marks nothing and changes the quarantines, so that each stands by its session and token as before
  mapped_tied : (b : Bool) (f : Quar → Quar) (found : Option (List ℕ × ℕ))
      → ((who token : ℕ) → stands_as who token (map f quars) ≡ stands_as who token quars) → IsTied marks start quars found
      → IsTied (cond b [] [] ++ marks) start (cond b (map f quars) quars) found
  mapped_tied true f found same tied = record {
    granted = λ who token h. ⊎_elim (λ s. inl (same who token ∙ s)) (λ e. inr e) (tied.granted who token h);
    stamped = tied.stamped;
  }
  mapped_tied false f found same tied = tied

  again_tied : (b : Bool) (found : Option (List ℕ × ℕ)) → IsTied marks start quars found → IsTied (cond b [] [] ++ marks) start quars (cond b None found)
  again_tied true found tied = gone_tied true found tied
  again_tied false found tied = tied

  leased_tied : (b : Bool) (token : ℕ) (found : Option (List ℕ × ℕ))
      → IsTied marks start quars found → IsTied (cond b (Leased token ∷ []) [] ++ marks) start quars (cond b None found)
  leased_tied true token found tied = record {
    granted = granted_more found (Leased token ∷ []) (λ who its. ⊎_elim (λ e. absurd cc) (λ h. h)) tied;
    stamped = tt;
  }
  leased_tied false token found tied = tied

  stored_tied : (b gone : Bool) (value : List ℕ) (stamp : ℕ) (found : Option (List ℕ × ℕ)) → IsTied marks start quars found
      → IsTied (cond b (Wrote stamp ∷ []) [] ++ marks) start quars (cond b (Some (value, stamp)) (cond gone None found))
  stored_tied true gone value stamp found tied = record {
    granted = granted_more found (Wrote stamp ∷ []) (λ who its. ⊎_elim (λ e. absurd cc) (λ h. h)) tied;
    stamped = refl;
  }
  stored_tied false gone value stamp found tied = gone_tied gone found tied

  granted_stamped : (who token : ℕ) (found : Option (List ℕ × ℕ)) → IsStamped marks start found → IsStamped (Granted who token ∷ marks) start found
  granted_stamped who token None stamped = tt
  granted_stamped who token (Some found) stamped = stamped

  granted_tied : (b : Bool) (quar : Quar) (found : Option (List ℕ × ℕ)) → IsTied marks start quars found
      → IsTied (cond b (Granted quar.sid.number quar.token ∷ []) [] ++ marks) start (cond b (quars ++ quar ∷ []) quars) found
  granted_tied true quar found tied = record {
    granted = λ who token. ⊎_elim
        (λ e.
        let this = and_from (quar.sid.number == who) (quar.token == token) (eq-eqb quar.sid.number who (same_who e)) (eq-eqb quar.token token (same_token e)) in
        inl (stands-back who token quars (quar ∷ []) (or_left _ false this)))
        (λ h. ⊎_elim (λ s. inl (stands-front who token quars (quar ∷ []) s)) (λ d. inr (inr d)) (tied.granted who token h));
    stamped = granted_stamped quar.sid.number quar.token found tied.stamped;
  }
    where
      same_who : {a c s t : ℕ} → Granted a s ≡ Granted c t → a ≡ c
      same_who e = cc

      same_token : {a c s t : ℕ} → Granted a s ≡ Granted c t → s ≡ t
      same_token e = cc
  granted_tied false quar found tied = tied

  writes_only : (how : How) (who token : ℕ) → Has (Granted who token) (writes_by how) → ⊥
  writes_only ended.Keep who token h = h
  writes_only ended.Drop who token h = h
  writes_only (ended.Put value stamp evicted) who token h = ⊎_elim (λ e. absurd cc) (λ f. f) h
  writes_only (ended.Shift by stamp) who token h = ⊎_elim (λ e. absurd cc) (λ f. f) h

  kept_stamped : (who token : ℕ) (found : Option (List ℕ × ℕ)) → IsStamped marks start found → IsStamped (Ended who token ∷ marks) start found
  kept_stamped who token None stamped = tt
  kept_stamped who token (Some found) stamped = stamped

  shifted_stamped : (by : ℤ) (stamp : ℕ) (old : List Mark) (found : Option (List ℕ × ℕ)) → IsStamped (Wrote stamp ∷ old) start (entry_shifted by stamp found)
  shifted_stamped by stamp old None = tt
  shifted_stamped by stamp old (Some found) = moved (shifted found.0 by)
    where
      moved : (n : Option ℕ) → IsStamped (Wrote stamp ∷ old) start (option_map (λ m. (decimal m, stamp)) n)
      moved None = tt
      moved (Some n) = refl

  ended_stamped : (how : How) (who token : ℕ) (found : Option (List ℕ × ℕ))
      → IsStamped marks start found → IsStamped ((writes_by how ++ Ended who token ∷ []) ++ marks) start (entry_ended how found)
  ended_stamped ended.Keep who token found stamped = kept_stamped who token found stamped
  ended_stamped ended.Drop who token found stamped = tt
  ended_stamped (ended.Put value stamp evicted) who token found stamped = refl
  ended_stamped (ended.Shift by stamp) who token found stamped = shifted_stamped by stamp (Ended who token ∷ marks) found

  released_granted : (how : How) (sid token : ℕ) (found : Option (List ℕ × ℕ))
      → ((who : ℕ) → stands_as who token quars ≡ true → who ≡ sid) → IsTied marks start quars found
      → (who its : ℕ) → Has (Granted who its) ((writes_by how ++ Ended sid token ∷ []) ++ marks)
      → (stands_as who its (filter (λ quar. not (has_token token quar)) quars) ≡ true) ⊎ Has (Ended who its) ((writes_by how ++ Ended sid token ∷ []) ++ marks)
  released_granted how sid token found own tied who its h =
      ⊎_elim
      (λ new. ⊎_elim (λ w. absurd (writes_only how who its w)) (λ k. ⊎_elim (λ e. absurd cc) (λ f. absurd f) k)
      (has-split (Granted who its) (writes_by how) (Ended sid token ∷ []) new))
      (λ old. ⊎_elim still (λ e. inr (has-back (Ended who its) more marks e)) (tied.granted who its old))
      (has-split (Granted who its) more marks h)
    where
      more : List Mark
      more = writes_by how ++ Ended sid token ∷ []

      has-new : who ≡ sid → its ≡ token → Has (Ended who its) (more ++ marks)
      has-new mine same =
          subst (λ ms. Has (Ended who its) ms) (sym (append_assoc (writes_by how) (Ended sid token ∷ []) marks))
          (has-back (Ended who its) (writes_by how) (Ended sid token ∷ marks) (inl (ap₂ Ended (sym mine) (sym same))))

      still : stands_as who its quars ≡ true → (stands_as who its (filter (λ quar. not (has_token token quar)) quars) ≡ true)
          ⊎ Has (Ended who its) (more ++ marks)
      still stands =
          ⊎_elim
          (λ is. let same = eqb-true its token is in inr (has-new (own who (subst (λ t. stands_as who t quars ≡ true) same stands)) same))
          (λ other. inl (stands-other who its token quars (λ same. false≢true (sym other ∙ eq-eqb its token same)) stands))
          (cases_Bool (its == token))

  released_tied : (b gone : Bool) (how : How) (sid token : ℕ) (found : Option (List ℕ × ℕ))
      → (b ≡ true → (who : ℕ) → stands_as who token quars ≡ true → who ≡ sid) → IsTied marks start quars found
      → IsTied (cond b (writes_by how ++ Ended sid token ∷ []) [] ++ marks) start
      (cond b (filter (λ quar. not (has_token token quar)) quars) quars) (cond b (entry_ended how found) (cond gone None found))
  released_tied true gone how sid token found own tied = record {
    granted = released_granted how sid token found (own refl) tied;
    stamped = ended_stamped how sid token found tied.stamped;
  }
  released_tied false gone how sid token found own tied = gone_tied gone found tied

-- whether a quarantine is of this session and token
abbrev is_as : ℕ → ℕ → Quar → Bool
is_as who token quar = (quar.sid.number == who) && (quar.token == token)

-- raised or renewed, each quarantine stands by its session and token as before
raised_stands : (raised_token : ℕ) (quars : List Quar) (who token : ℕ) → stands_as who token (map (raised raised_token) quars) ≡ stands_as who token quars
raised_stands raised_token quars who token =
    any-mapped (is_as who token) (raised raised_token) (λ quar. raised-same (is_as who token) raised_token quar refl) quars

renewed_stands : (renewed_token deadline : ℕ) (quars : List Quar) (who token : ℕ)
    → stands_as who token (map (renewed renewed_token deadline) quars) ≡ stands_as who token quars
renewed_stands renewed_token deadline quars who token =
    any-mapped (is_as who token) (renewed renewed_token deadline) (λ quar. renewed-same (is_as who token) renewed_token deadline quar refl) quars

pub steps_tie : StepsTie
steps_tie key start past (step.Hit on sid floor value stamp) own tied =
    quiet_tied (marks_of key past) start (standing key past) (same_key key on) (entry key past) tied
steps_tie key start past (step.Lease on sid floor now token deadline) own tied =
    leased_tied (marks_of key past) start (standing key past) (same_key key on) token (entry key past) tied
steps_tie key start past (step.Again on sid floor now stands) own tied =
    again_tied (marks_of key past) start (standing key past) (same_key key on) (entry key past) tied
steps_tie key start past (step.Own on sid) own tied = quiet_tied (marks_of key past) start (standing key past) (same_key key on) (entry key past) tied
steps_tie key start past (step.Stored on token now value stamp evicted) own tied =
    stored_tied (marks_of key past) start (standing key past) (same_key key on) (is_evicted key evicted) value stamp (entry key past) tied
steps_tie key start past (step.Void on token now) own tied = quiet_tied (marks_of key past) start (standing key past) (same_key key on) (entry key past) tied
steps_tie key start past (step.Granted on sid mode shift now token deadline) own tied =
    granted_tied (marks_of key past) start (standing key past) (same_key key on)
    (record { sid = sid; mode = mode; token = token; deadline = deadline; shift = shift }) (entry key past) tied
steps_tie key start past (step.Held on sid mode) own tied = quiet_tied (marks_of key past) start (standing key past) (same_key key on) (entry key past) tied
steps_tie key start past (step.Refused on sid mode holder its) own tied =
    quiet_tied (marks_of key past) start (standing key past) (same_key key on) (entry key past) tied
steps_tie key start past (step.Released on sid token how) own tied =
    released_tied (marks_of key past) start (standing key past) (same_key key on) (is_evicted key (evicted_by how)) how sid.number token (entry key past)
    (λ same who stands. own who (subst (λ k. stands_as who token (standing k past) ≡ true) (same_key-true key on same) stands))
    tied
steps_tie key start past (step.Gone on sid token) own tied = quiet_tied (marks_of key past) start (standing key past) (same_key key on) (entry key past) tied
steps_tie key start past (step.Raised on sid token) own tied =
    mapped_tied (marks_of key past) start (standing key past) (same_key key on) (raised token) (entry key past) (raised_stands token (standing key past)) tied
steps_tie key start past (step.Shared on sid token holder) own tied =
    quiet_tied (marks_of key past) start (standing key past) (same_key key on) (entry key past) tied
steps_tie key start past (step.Renewed on sid token now deadline) own tied =
    mapped_tied (marks_of key past) start (standing key past) (same_key key on) (renewed token deadline) (entry key past)
    (renewed_stands token deadline (standing key past)) tied
