-- The steps of a shard since the hub was made, as if they began with the entry that a key had then. So
-- what is proved of whole pasts is true of these steps: of the tie, and of what is held.
use Rattle.std.proofs.Common.{ℕ, ◌≡◌, Bool, true, false, cond, List, [], ◌∷◌, ◌++◌, Option, None, Some, refl, sym, ap, subst, ◌∙◌, inl, inr, ⊎_elim, arith}
use Rattle.std.proofs.lemmas.Grind.{flat_map-append}
use Rattle.rows_model.specs.declared.keys.QKey.{QKey}
use Rattle.rows_model.specs.Key.{same_key}
use Rattle.rows_model.proofs.SameKey.{same_key-refl}
use Rattle.key_shard.specs.declared.steps.Ended.TheVariants as ended
use Rattle.key_shard.specs.declared.steps.Step.{Step}
use Rattle.key_shard.specs.declared.steps.Step.TheVariants as step
use Rattle.key_shard.specs.Past.{standing, entry}
use Rattle.key_shard.specs.OneStep.{standing_after, entry_after}
use Rattle.key_shard.proofs.OneStepLemmas.{standing_by, entry_by}
use Rattle.key_freshness.specs.Marks.{Mark, Granted, Ended, Leased, Wrote, Has, marks_in, marks_of, last_wrote}
use Rattle.key_freshness.specs.Known.{Known, IsRuled}
use Rattle.key_freshness.specs.Held.{IsTied, IsStamped, IsHeld, IsEntryHeld, stands_as}
use Rattle.key_freshness.specs.Laws.{IsHonest, EndsItsOwn}
use Rattle.key_freshness.proofs.MarkLemmas.{has-front, has-split}
use Rattle.key_freshness.proofs.StepLemmas.{steps_keep}
use Rattle.key_freshness.proofs.TieLemmas.{steps_tie}
use Rattle.bound_hub.specs.Facts.{stamp_of, AreOfStampZero, IsQuiet}

-- a step that leaves this entry of the key, if there is one
abbrev first_of : QKey → Option (List ℕ × ℕ) → List Step
first_of key None = []
first_of key (Some found) = step.Stored key 0 0 found.0 found.1 None ∷ []

-- it leaves no quarantine, and that entry
first_stands : (on key : QKey) (found : Option (List ℕ × ℕ)) → standing on (first_of key found) ≡ []
first_stands on key None = refl
first_stands on key (Some found) = refl

first_entry : (key : QKey) (found : Option (List ℕ × ℕ)) → entry key (first_of key found) ≡ found
first_entry key None = refl
first_entry key (Some found) = ap (λ b. cond b (Some (found.0, found.1)) None) (same_key-refl key)

-- its mark is no grant and no end, and tells the stamp
one_wrote : (mark : Mark) (stamp : ℕ) (b : Bool) → Has mark (cond b (Wrote stamp ∷ []) [] ++ []) → Wrote stamp ≡ mark
one_wrote mark stamp true h = ⊎_elim (λ e. e) (λ f. absurd f) h
one_wrote mark stamp false h = absurd h

first_ends_none : (on key : QKey) (found : Option (List ℕ × ℕ)) (who token : ℕ) → Has (Ended who token) (marks_of on (first_of key found)) → ⊥
first_ends_none on key None who token h = h
first_ends_none on key (Some found) who token h = let e = one_wrote (Ended who token) found.1 (same_key on key) h in absurd cc

first_grants_none : (on key : QKey) (found : Option (List ℕ × ℕ)) (who token : ℕ) → Has (Granted who token) (marks_of on (first_of key found)) → ⊥
first_grants_none on key None who token h = h
first_grants_none on key (Some found) who token h = let e = one_wrote (Granted who token) found.1 (same_key on key) h in absurd cc

wrote_same : {a b : ℕ} → Wrote a ≡ Wrote b → a ≡ b
wrote_same e = cc

first_wrote : (on key : QKey) (found : Option (List ℕ × ℕ)) (stamp : ℕ) → Has (Wrote stamp) (marks_of on (first_of key found)) → stamp_of found ≡ Some stamp
first_wrote on key None stamp h = absurd h
first_wrote on key (Some found) stamp h = ap Some (wrote_same (one_wrote (Wrote stamp) found.1 (same_key on key) h))

first_last : (key : QKey) (found : Option (List ℕ × ℕ)) → last_wrote (marks_of key (first_of key found)) None ≡ stamp_of found
first_last key None = refl
first_last key (Some found) = ap (λ b. last_wrote (cond b (Wrote found.1 ∷ []) [] ++ []) None) (same_key-refl key)

-- what stands on a key, and its entry, after more steps
stands_over : (key : QKey) (more a b : List Step) → standing key a ≡ standing key b → standing key (more ++ a) ≡ standing key (more ++ b)
stands_over key [] a b e = e
stands_over key (s ∷ more) a b e =
    standing_by s key (more ++ a) ∙ ap (standing_after s key) (stands_over key more a b e) ∙ sym (standing_by s key (more ++ b))

entry_over : (key : QKey) (more a b : List Step) → entry key a ≡ entry key b → entry key (more ++ a) ≡ entry key (more ++ b)
entry_over key [] a b e = e
entry_over key (s ∷ more) a b e =
    entry_by s key (more ++ a) ∙ ap (entry_after s key) (entry_over key more a b e) ∙ sym (entry_by s key (more ++ b))

last_over : (more old : List Mark) (start : Option ℕ) → last_wrote (more ++ old) start ≡ last_wrote more (last_wrote old start)
last_over [] old start = refl
last_over (Granted who token ∷ more) old start = last_over more old start
last_over (Ended who token ∷ more) old start = last_over more old start
last_over (Leased token ∷ more) old start = last_over more old start
last_over (Wrote stamp ∷ more) old start = refl

stamped_by : (ms ns : List Mark) (a b : Option ℕ) (found : Option (List ℕ × ℕ)) → last_wrote ms a ≡ last_wrote ns b → IsStamped ms a found → IsStamped ns b found
stamped_by ms ns a b None e stamped = tt
stamped_by ms ns a b (Some found) e stamped = sym e ∙ stamped

-- marks behind others that end no quarantine
held_behind : (key : QKey) (marks old : List Mark) (known : Known) (stamp : ℕ) → ((who token : ℕ) → Has (Ended who token) old → ⊥)
    → IsHeld key marks known stamp → IsHeld key (marks ++ old) known stamp
held_behind key marks old known stamp none held = record {
  within = held.within;
  pending = λ place commit token at from touched h.
      ⊎_elim (held.pending place commit token at from touched) (none commit.sid.number token) (has-split (Ended commit.sid.number token) marks old h);
  settled = λ place commit at before touched.
      let ended = held.settled place commit at before touched in
      record { token = ended.token; mark = has-front (Ended commit.sid.number ended.token) marks old ended.mark };
}

held_before : (key : QKey) (marks old : List Mark) (known : Known) (stamp : ℕ) → ((who token : ℕ) → Has (Ended who token) old → ⊥)
    → IsHeld key (marks ++ old) known stamp → IsHeld key marks known stamp
held_before key marks old known stamp none held = record {
  within = held.within;
  pending = λ place commit token at from touched h. held.pending place commit token at from touched (has-front (Ended commit.sid.number token) marks old h);
  settled = λ place commit at before touched.
      let ended = held.settled place commit at before touched in
      record {
        token = ended.token;
        mark = ⊎_elim (λ h. h) (λ h. absurd (none commit.sid.number ended.token h)) (has-split (Ended commit.sid.number ended.token) marks old ended.mark);
      };
}

entry_held : (key : QKey) (ms ns : List Mark) (known : Known) (found : Option (List ℕ × ℕ)) → ((stamp : ℕ) → IsHeld key ms known stamp → IsHeld key ns known stamp)
    → IsEntryHeld key ms known found → IsEntryHeld key ns known found
entry_held key ms ns known None each held = tt
entry_held key ms ns known (Some found) each held = each found.1 held

module _ (key : QKey) (before : List Step) (quiet : IsQuiet before) where
  -- what the key has at first
  abbrev found : Option (List ℕ × ℕ)
  found = entry key before

  abbrev first : List Step
  first = first_of key found

  marks_are : (on : QKey) (more : List Step) → marks_of on (more ++ first) ≡ marks_of on more ++ marks_of on first
  marks_are on more = flat_map-append (marks_in on) more first

  same_stands : (on : QKey) (more : List Step) → standing on (more ++ first) ≡ standing on (more ++ before)
  same_stands on more = stands_over on more first before (first_stands on key found ∙ sym (quiet on).0)

  same_entry : (more : List Step) → entry key (more ++ first) ≡ entry key (more ++ before)
  same_entry more = entry_over key more first before (first_entry key found)

  -- marks and what a shard holds are tied, after these steps
  abbrev pub IsTiedAfter : List Step → Type 0
  IsTiedAfter more = IsTied (marks_of key more) (stamp_of found) (standing key (more ++ before)) (entry key (more ++ before))

  abbrev IsTiedWhole : List Step → Type 0
  IsTiedWhole past = IsTied (marks_of key past) None (standing key past) (entry key past)

  same_last : (more : List Step) → last_wrote (marks_of key more) (stamp_of found) ≡ last_wrote (marks_of key (more ++ first)) None
  same_last more =
      ap (last_wrote (marks_of key more)) (sym (first_last key found)) ∙ sym (last_over (marks_of key more) (marks_of key first) None)
      ∙ ap (λ ms. last_wrote ms None) (sym (marks_are key more))

  tied_whole : (more : List Step) → IsTiedAfter more → IsTiedWhole (more ++ first)
  tied_whole more tied = record {
    granted = λ who token h.
        ⊎_elim
        (λ old. ⊎_elim
        (λ stands. inl (subst (λ quars. stands_as who token quars ≡ true) (sym (same_stands key more)) stands))
        (λ over. inr (subst (Has (Ended who token)) (sym (marks_are key more)) (has-front (Ended who token) (marks_of key more) (marks_of key first) over)))
        (tied.granted who token old))
        (λ none. absurd (first_grants_none key key found who token none))
        (has-split (Granted who token) (marks_of key more) (marks_of key first) (subst (Has (Granted who token)) (marks_are key more) h));
    stamped = subst (IsStamped (marks_of key (more ++ first)) None) (sym (same_entry more))
        (stamped_by (marks_of key more) (marks_of key (more ++ first)) (stamp_of found) None (entry key (more ++ before)) (same_last more) tied.stamped);
  }

  tied_after : (more : List Step) → IsTiedWhole (more ++ first) → IsTiedAfter more
  tied_after more tied = record {
    granted = λ who token h.
        ⊎_elim
        (λ stands. inl (subst (λ quars. stands_as who token quars ≡ true) (same_stands key more) stands))
        (λ over. ⊎_elim
        (λ mine. inr mine)
        (λ none. absurd (first_ends_none key key found who token none))
        (has-split (Ended who token) (marks_of key more) (marks_of key first) (subst (Has (Ended who token)) (marks_are key more) over)))
        (tied.granted who token
        (subst (Has (Granted who token)) (sym (marks_are key more)) (has-front (Granted who token) (marks_of key more) (marks_of key first) h)));
    stamped =
        stamped_by (marks_of key (more ++ first)) (marks_of key more) None (stamp_of found) (entry key (more ++ before)) (sym (same_last more))
        (subst (IsStamped (marks_of key (more ++ first)) None) (same_entry more) tied.stamped);
  }

  ends_own_first : (more : List Step) (s : Step) → EndsItsOwn (more ++ before) s → EndsItsOwn (more ++ first) s
  ends_own_first more (step.Released on sid token how) own = λ who stands. own who (subst (λ quars. stands_as who token quars ≡ true) (same_stands on more) stands)
  ends_own_first more other own = tt

  -- a step that ends its own quarantine, if it ends one, leaves them tied
  pub tie_step : (more : List Step) (s : Step) → EndsItsOwn (more ++ before) s → IsTiedAfter more → IsTiedAfter (s ∷ more)
  tie_step more s own tied = tied_after (s ∷ more) (steps_tie key None (more ++ first) s (ends_own_first more s own) (tied_whole more tied))

  module _ (known : Known) where
    -- the entry is held after these steps
    abbrev pub IsHeldAfter : List Step → Type 0
    IsHeldAfter more = IsEntryHeld key (marks_of key more) known (entry key (more ++ before))

    held_first : (on : QKey) (front : List Mark) (more : List Step) (stamp : ℕ) → IsHeld on (front ++ marks_of on more) known stamp → IsHeld on (front ++ marks_of on (more ++ first)) known stamp
    held_first on front more stamp held =
        subst (λ ms. IsHeld on (front ++ ms) known stamp) (sym (marks_are on more))
        (subst (λ ms. IsHeld on ms known stamp) (append_is front) (held_behind on (front ++ marks_of on more) (marks_of on first) known stamp (first_ends_none on key found) held))
      where
        append_is : (front : List Mark) → (front ++ marks_of on more) ++ marks_of on first ≡ front ++ (marks_of on more ++ marks_of on first)
        append_is [] = refl
        append_is (m ∷ front) = ap (λ ms. m ∷ ms) (append_is front)

    honest_first : (more : List Step) (s : Step) → IsHonest known more s → IsHonest known (more ++ first) s
    honest_first more (step.Stored on token now value stamp evicted) honest = held_first on (Wrote stamp ∷ []) more stamp honest
    honest_first more (step.Released on sid token ended.Keep) honest = honest
    honest_first more (step.Released on sid token ended.Drop) honest = honest
    honest_first more (step.Released on sid token (ended.Put value stamp evicted)) honest =
        (honest.0, held_first on (Wrote stamp ∷ Ended sid.number token ∷ []) more stamp honest.1)
    honest_first more (step.Released on sid token (ended.Shift by stamp)) honest =
        (honest.0, held_first on (Wrote stamp ∷ Ended sid.number token ∷ []) more stamp honest.1)
    honest_first more other honest = tt

    ruled_first : AreOfStampZero before → (more : List Step) → IsRuled key (marks_of key more) known → IsRuled key (marks_of key (more ++ first)) known
    ruled_first zeros more ruled = subst (λ ms. IsRuled key ms known) (sym (marks_are key more)) (record {
      over = λ who token h.
          ⊎_elim (ruled.over who token) (λ none. absurd (first_ends_none key key found who token none))
          (has-split (Ended who token) (marks_of key more) (marks_of key first) h);
      once = ruled.once;
      apart = ruled.apart;
      covered = λ place commit at touched.
          let granted = ruled.covered place commit at touched in
          record { token = granted.token; mark = has-front (Granted commit.sid.number granted.token) (marks_of key more) (marks_of key first) granted.mark };
      wrote = λ stamp h.
          ⊎_elim (ruled.wrote stamp) (λ start. let e = zeros key stamp (first_wrote key key found stamp start) in omega (arith, e))
          (has-split (Wrote stamp) (marks_of key more) (marks_of key first) h);
    })

    -- an honest step leaves the entry held, or leaves none
    pub hold_step : AreOfStampZero before → (more : List Step) (s : Step) → IsHonest known more s → IsRuled key (marks_of key more) known → IsHeldAfter more → IsHeldAfter (s ∷ more)
    hold_step zeros more s honest ruled held =
        let kept = steps_keep key known (more ++ first) s (honest_first more s honest) (ruled_first zeros more ruled) (whole more held) in
        after (s ∷ more) kept.1
      where
        whole : (more : List Step) → IsHeldAfter more → IsEntryHeld key (marks_of key (more ++ first)) known (entry key (more ++ first))
        whole more held =
            subst (IsEntryHeld key (marks_of key (more ++ first)) known) (sym (same_entry more))
            (entry_held key (marks_of key more) (marks_of key (more ++ first)) known (entry key (more ++ before)) (λ stamp h. held_first key [] more stamp h) held)

        after : (more : List Step) → IsEntryHeld key (marks_of key (more ++ first)) known (entry key (more ++ first)) → IsHeldAfter more
        after more held =
            entry_held key (marks_of key (more ++ first)) (marks_of key more) known (entry key (more ++ before))
            (λ stamp h. held_before key (marks_of key more) (marks_of key first) known stamp (first_ends_none key key found) (subst (λ ms. IsHeld key ms known stamp) (marks_are key more) h))
            (subst (IsEntryHeld key (marks_of key (more ++ first)) known) (same_entry more) held)
