-- An honest step keeps the rule of each key, and its entry held or leaves none.
use Rattle.std.proofs.Common.{ℕ, ◌≡◌, Bool, true, false, cond, List, [], ◌∷◌, ◌++◌, Option, None, Some, sym, subst, inr, ⊎_elim, ℤ, decimal, option_map}
use Rattle.rows_model.specs.declared.keys.QKey.{QKey}
use Rattle.rows_model.specs.Key.{same_key}
use Rattle.rows_model.specs.Shift.{shifted}
use Rattle.rows_model.proofs.SameKey.{same_key-true}
use Rattle.key_shard.specs.declared.steps.Step.{Step}
use Rattle.key_shard.specs.declared.steps.Step.TheVariants as step
use Rattle.key_shard.specs.declared.steps.Ended.TheVariants as ended
use Rattle.key_shard.specs.Past.{entry, entry_shifted, is_evicted}
use Rattle.key_freshness.specs.Marks.{Mark, Granted, Ended, Leased, Wrote, Has, marks_of}
use Rattle.key_freshness.specs.Known.{Known, IsAmong, IsRuled}
use Rattle.key_freshness.specs.Held.{IsHeld, IsEntryHeld}
use Rattle.key_freshness.specs.Laws.{StepsKeep}
use Rattle.key_freshness.proofs.MarkLemmas.{by_test}
use Rattle.key_freshness.proofs.RuleLemmas.{ended-same, ruled-append, ruled-wrote, ruled-ended, held-append}

-- the rule, and the entry held
abbrev Stays : QKey → Known → List Mark → Option (List ℕ × ℕ) → Type 0
Stays key known marks found = IsRuled key marks known × IsEntryHeld key marks known found

-- marks that neither end nor write
abbrev IsQuiet : List Mark → Type 0
IsQuiet marks = ((who token : ℕ) → Has (Ended who token) marks → ⊥) × ((stamp : ℕ) → Has (Wrote stamp) marks → ⊥)

module _ (key : QKey) (known : Known) (marks : List Mark) (ruled : IsRuled key marks known) where
  ruled_quiet : (more : List Mark) → IsQuiet more → IsRuled key (more ++ marks) known
  ruled_quiet more quiet =
      ruled-append key more marks known (λ who token h. absurd (quiet.0 who token h)) (λ stamp h. absurd (quiet.1 stamp h)) ruled

  quiet_entry : (more : List Mark) (found : Option (List ℕ × ℕ))
      → IsQuiet more → IsEntryHeld key marks known found → IsEntryHeld key (more ++ marks) known found
  quiet_entry more None quiet held = tt
  quiet_entry more (Some found) quiet held =
      held-append key more marks known found.1 (λ place commit token at from touched h. quiet.0 commit.sid.number token h) held

  -- a step that neither ends, writes nor moves the entry
  quiet_stays : (more : List Mark) (b : Bool) (found : Option (List ℕ × ℕ))
      → IsQuiet more → IsEntryHeld key marks known found → Stays key known (cond b more [] ++ marks) found
  quiet_stays more b found quiet held =
      by_test (λ c. Stays key known (cond c more [] ++ marks) found) b
      (λ e. (ruled_quiet more quiet, quiet_entry more found quiet held))
      (λ e. (ruled, held))

  -- a miss leaves no entry
  missed_stays : (more : List Mark) (b : Bool) (found : Option (List ℕ × ℕ))
      → IsQuiet more → IsEntryHeld key marks known found → Stays key known (cond b more [] ++ marks) (cond b None found)
  missed_stays more b found quiet held =
      by_test (λ c. Stays key known (cond c more [] ++ marks) (cond c None found)) b
      (λ e. (ruled_quiet more quiet, tt))
      (λ e. (ruled, held))

  evicted_held : (b : Bool) (found : Option (List ℕ × ℕ)) → IsEntryHeld key marks known found → IsEntryHeld key marks known (cond b None found)
  evicted_held true found held = tt
  evicted_held false found held = held

  -- a step on the key that leaves this entry, or one elsewhere that may evict it
  moved_stays : (more : List Mark) (b gone : Bool) (here found : Option (List ℕ × ℕ))
      → (b ≡ true → Stays key known (more ++ marks) here) → IsEntryHeld key marks known found
      → Stays key known (cond b more [] ++ marks) (cond b here (cond gone None found))
  moved_stays more b gone here found on held =
      by_test (λ c. Stays key known (cond c more [] ++ marks) (cond c here (cond gone None found))) b on
      (λ e. (ruled, evicted_held gone found held))

held_quiet : IsQuiet []
held_quiet = ((λ who token h. h), λ stamp h. h)

leased_quiet : (token : ℕ) → IsQuiet (Leased token ∷ [])
leased_quiet token = ((λ who other. ⊎_elim (λ e. absurd cc) (λ h. h)), λ stamp. ⊎_elim (λ e. absurd cc) (λ h. h))

granted_quiet : (who token : ℕ) → IsQuiet (Granted who token ∷ [])
granted_quiet who token = ((λ other its. ⊎_elim (λ e. absurd cc) (λ h. h)), λ stamp. ⊎_elim (λ e. absurd cc) (λ h. h))

-- an entry stays held where a session that was ended without a commit ends its quarantine
kept_held : (key : QKey) (known : Known) (marks : List Mark) (who token : ℕ) (found : Option (List ℕ × ℕ)) → IsAmong who known.ended
    → IsRuled key marks known → IsEntryHeld key marks known found → IsEntryHeld key (Ended who token ∷ marks) known found
kept_held key known marks who token None over ruled held = tt
kept_held key known marks who token (Some found) over ruled held =
    held-append key (Ended who token ∷ []) marks known found.1
    (λ place commit its at from touched. ⊎_elim (λ e. ruled.apart place commit at (subst (λ n. IsAmong n known.ended) (ended-same e) over)) (λ h. h))
    held

shifted_held : (key : QKey) (known : Known) (marks : List Mark) (by : ℤ) (stamp : ℕ) (found : Option (List ℕ × ℕ)) → IsHeld key marks known stamp
    → IsEntryHeld key marks known (entry_shifted by stamp found)
shifted_held key known marks by stamp None held = tt
shifted_held key known marks by stamp (Some found) held = moved (shifted found.0 by)
  where
    moved : (n : Option ℕ) → IsEntryHeld key marks known (option_map (λ m. (decimal m, stamp)) n)
    moved None = tt
    moved (Some n) = held

-- what was brought for the key that the step is on is brought for this one
on_key : (key on : QKey) (known : Known) (more : List Mark) (past : List Step) (stamp : ℕ) → same_key key on ≡ true
    → IsHeld on (more ++ marks_of on past) known stamp → IsHeld key (more ++ marks_of key past) known stamp
on_key key on known more past stamp same = subst (λ k. IsHeld k (more ++ marks_of k past) known stamp) (sym (same_key-true key on same))

pub steps_keep : StepsKeep
steps_keep key known past (step.Hit on sid floor value stamp) honest ruled held =
    quiet_stays key known (marks_of key past) ruled [] (same_key key on) (entry key past) held_quiet held
steps_keep key known past (step.Lease on sid floor now token deadline) honest ruled held =
    missed_stays key known (marks_of key past) ruled (Leased token ∷ []) (same_key key on) (entry key past) (leased_quiet token) held
steps_keep key known past (step.Again on sid floor now stands) honest ruled held =
    missed_stays key known (marks_of key past) ruled [] (same_key key on) (entry key past) held_quiet held
steps_keep key known past (step.Own on sid) honest ruled held =
    quiet_stays key known (marks_of key past) ruled [] (same_key key on) (entry key past) held_quiet held
steps_keep key known past (step.Stored on token now value stamp evicted) honest ruled held =
    moved_stays key known (marks_of key past) ruled (Wrote stamp ∷ []) (same_key key on) (is_evicted key evicted) (Some (value, stamp)) (entry key past)
    (λ same. (ruled-wrote key known (marks_of key past) stamp honest.within ruled, on_key key on known (Wrote stamp ∷ []) past stamp same honest))
    held
steps_keep key known past (step.Void on token now) honest ruled held =
    quiet_stays key known (marks_of key past) ruled [] (same_key key on) (entry key past) held_quiet held
steps_keep key known past (step.Granted on sid mode shift now token deadline) honest ruled held =
    quiet_stays key known (marks_of key past) ruled (Granted sid.number token ∷ []) (same_key key on) (entry key past) (granted_quiet sid.number token) held
steps_keep key known past (step.Held on sid mode) honest ruled held =
    quiet_stays key known (marks_of key past) ruled [] (same_key key on) (entry key past) held_quiet held
steps_keep key known past (step.Refused on sid mode holder its) honest ruled held =
    quiet_stays key known (marks_of key past) ruled [] (same_key key on) (entry key past) held_quiet held
steps_keep key known past (step.Released on sid token ended.Keep) honest ruled held =
    moved_stays key known (marks_of key past) ruled (Ended sid.number token ∷ []) (same_key key on) false (entry key past) (entry key past)
    (λ same. (
      ruled-ended key known (marks_of key past) sid.number token (inr honest) ruled,
      kept_held key known (marks_of key past) sid.number token (entry key past) honest ruled held,
    ))
    held
steps_keep key known past (step.Released on sid token ended.Drop) honest ruled held =
    moved_stays key known (marks_of key past) ruled (Ended sid.number token ∷ []) (same_key key on) false None (entry key past)
    (λ same. (ruled-ended key known (marks_of key past) sid.number token honest ruled, tt))
    held
steps_keep key known past (step.Released on sid token (ended.Put value stamp evicted)) honest ruled held =
    let more = Wrote stamp ∷ Ended sid.number token ∷ [] in
    moved_stays key known (marks_of key past) ruled more (same_key key on) (is_evicted key evicted) (Some (value, stamp)) (entry key past)
    (λ same. (
      ruled-wrote key known (Ended sid.number token ∷ marks_of key past) stamp honest.1.within
          (ruled-ended key known (marks_of key past) sid.number token honest.0 ruled),
      on_key key on known more past stamp same honest.1,
    ))
    held
steps_keep key known past (step.Released on sid token (ended.Shift by stamp)) honest ruled held =
    let more = Wrote stamp ∷ Ended sid.number token ∷ [] in
    moved_stays key known (marks_of key past) ruled more (same_key key on) false (entry_shifted by stamp (entry key past)) (entry key past)
    (λ same. (
      ruled-wrote key known (Ended sid.number token ∷ marks_of key past) stamp honest.1.within
          (ruled-ended key known (marks_of key past) sid.number token honest.0 ruled),
      shifted_held key known (more ++ marks_of key past) by stamp (entry key past) (on_key key on known more past stamp same honest.1),
    ))
    held
steps_keep key known past (step.Gone on sid token) honest ruled held =
    quiet_stays key known (marks_of key past) ruled [] (same_key key on) (entry key past) held_quiet held
steps_keep key known past (step.Raised on sid token) honest ruled held =
    quiet_stays key known (marks_of key past) ruled [] (same_key key on) (entry key past) held_quiet held
steps_keep key known past (step.Shared on sid token holder) honest ruled held =
    quiet_stays key known (marks_of key past) ruled [] (same_key key on) (entry key past) held_quiet held
steps_keep key known past (step.Renewed on sid token now deadline) honest ruled held =
    quiet_stays key known (marks_of key past) ruled [] (same_key key on) (entry key past) held_quiet held
