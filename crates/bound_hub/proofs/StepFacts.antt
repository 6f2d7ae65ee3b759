-- The facts of each key stay when a step was made that is honest.
use Rattle.std.proofs.Common.{ℕ, ◌≡◌, Bool, true, false, cond, List, ◌∷◌, ◌++◌, Option, None, Some, sym, subst}
use Rattle.rows_model.specs.declared.keys.QKey.{QKey}
use Rattle.rows_model.specs.Key.{same_key}
use Rattle.rows_model.specs.Rows.{Tables}
use Rattle.rows_model.proofs.SameKey.{same_key-true}
use Rattle.key_shard.specs.declared.steps.Ended.{Ended}
use Rattle.key_shard.specs.declared.steps.Ended.TheVariants as ended
use Rattle.key_shard.specs.declared.steps.Step.{Step}
use Rattle.key_shard.specs.declared.steps.Step.TheVariants as step
use Rattle.key_shard.specs.Past.{entry, entry_ended, entry_shifted, is_evicted, evicted_by}
use Rattle.sql_keeper.specs.declared.stores.Commit.{Commit}
use Rattle.sql_keeper.specs.Fresh.{IsFreshStep}
use Rattle.log_word.specs.declared.seen.Seen.{Seen}
use Rattle.key_freshness.specs.Marks.{marks_of}
use Rattle.key_freshness.specs.Known.{IsRuled}
use Rattle.key_freshness.specs.Held.{IsRight, IsEntryRight}
use Rattle.key_freshness.specs.Laws.{IsHonest, EndsItsOwn}
use Rattle.key_freshness.proofs.MarkLemmas.{by_test}
use Rattle.bound_hub.specs.Knowns.{commits_of, known_of}
use Rattle.bound_hub.specs.Facts.{answer_after, HoldsFacts, AreOfStampZero, IsQuiet}
use Rattle.bound_hub.proofs.FirstEntry.{tie_step, hold_step}

-- what the end of a quarantine writes is right
abbrev IsTrueEnd : Tables → List Commit → List Step → QKey → Ended → Type 0
IsTrueEnd opening log past on ended.Keep = Unit {0}
IsTrueEnd opening log past on ended.Drop = Unit {0}
IsTrueEnd opening log past on (ended.Put value stamp evicted) = IsRight (answer_after opening on) log value stamp
IsTrueEnd opening log past on (ended.Shift by stamp) = IsEntryRight (answer_after opening on) log (entry_shifted by stamp (entry on past))

-- what a step writes is right
abbrev pub IsTrueStep : Tables → List Commit → List Step → Step → Type 0
IsTrueStep opening log past (step.Stored on token now value stamp evicted) = IsRight (answer_after opening on) log value stamp
IsTrueStep opening log past (step.Released on sid token how) = IsTrueEnd opening log past on how
IsTrueStep opening log past other = Unit {0}

-- what a step has to bring: it ends its own quarantine, if it ends one, and what it writes is held, and right unless the store stopped telling;
-- a hit is fresh then
pub record IsHonestStep (opening : Tables) (before more : List Step) (seen : Seen) (s : Step) : Type 0 where
  pub own : EndsItsOwn (more ++ before) s
  pub honest : IsHonest (known_of seen.events) more s
  pub true_step : seen.stopped ≡ false → IsTrueStep opening (commits_of seen.events) (more ++ before) s
  pub fresh_step : seen.stopped ≡ false → IsFreshStep opening (commits_of seen.events) more s

module _ (opening : Tables) (log : List Commit) (key : QKey) (past : List Step) where
  abbrev R : Option (List ℕ × ℕ) → Type 0
  R found = IsEntryRight (answer_after opening key) log found

  goes_right : (b : Bool) (found : Option (List ℕ × ℕ)) → R found → R (cond b None found)
  goes_right true found right = tt
  goes_right false found right = right

  ended_right : (on : QKey) (how : Ended) → same_key key on ≡ true → IsTrueEnd opening log past on how → R (entry key past) → R (entry_ended how (entry key past))
  ended_right on ended.Keep same brought right = right
  ended_right on ended.Drop same brought right = tt
  ended_right on (ended.Put value stamp evicted) same brought right =
      subst (λ k. IsRight (answer_after opening k) log value stamp) (sym (same_key-true key on same)) brought
  ended_right on (ended.Shift by stamp) same brought right =
      subst (λ k. IsEntryRight (answer_after opening k) log (entry_shifted by stamp (entry k past))) (sym (same_key-true key on same)) brought

  -- a step that writes what is right leaves a right entry, or none
  right_step : (s : Step) → IsTrueStep opening log past s → R (entry key past) → R (entry key (s ∷ past))
  right_step (step.Stored on token now value stamp evicted) brought right =
      by_test (λ b. R (cond b (Some (value, stamp)) (cond (is_evicted key evicted) None (entry key past)))) (same_key key on)
      (λ same. subst (λ k. IsRight (answer_after opening k) log value stamp) (sym (same_key-true key on same)) brought)
      (λ _. goes_right (is_evicted key evicted) (entry key past) right)
  right_step (step.Released on sid token how) brought right =
      by_test (λ b. R (cond b (entry_ended how (entry key past)) (cond (is_evicted key (evicted_by how)) None (entry key past)))) (same_key key on)
      (λ same. ended_right on how same brought right)
      (λ _. goes_right (is_evicted key (evicted_by how)) (entry key past) right)
  right_step (step.Lease on sid floor now token deadline) brought right = goes_right (same_key key on) (entry key past) right
  right_step (step.Again on sid floor now stands) brought right = goes_right (same_key key on) (entry key past) right
  right_step other brought right = right

pub facts_with_step : (opening : Tables) (before more : List Step) (seen : Seen) (key : QKey) (s : Step) → IsQuiet before → AreOfStampZero before
    → IsHonestStep opening before more seen s → IsRuled key (marks_of key more) (known_of seen.events)
    → HoldsFacts opening before more seen key → HoldsFacts opening before (s ∷ more) seen key
facts_with_step opening before more seen key s quiet zeros brings ruled facts = record {
  tied = tie_step key before quiet more s brings.own facts.tied;
  held = hold_step key before quiet (known_of seen.events) zeros more s brings.honest ruled facts.held;
  right = λ telling. right_step opening (commits_of seen.events) key (more ++ before) s (brings.true_step telling) (facts.right telling);
}
