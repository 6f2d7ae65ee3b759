-- A quarantine's step: it is honest, its answer tells it in short, and its old value is held.
use Rattle.std.proofs.Common.{ℕ, ℤ, ◌≡◌, Bool, true, List, ◌∷◌, Option, None, Some, refl, sym, ap, subst, ◌∙◌, arith}
use Rattle.std.specs.List.{list_any}
use Rattle.std.proofs.lemmas.Bool.{false≢true, or_right}
use Rattle.std.proofs.lemmas.List.Folds.{list_any-append}
use Rattle.rows_model.specs.declared.keys.QKey.{QKey}
use Rattle.rows_model.specs.declared.keys.Sid.{Sid}
use Rattle.rows_model.specs.Rows.{Tables}
use Rattle.rows_model.specs.Placement.{shard_of}
use Rattle.lease_table.specs.declared.records.Mode.{Mode}
use Rattle.lease_table.specs.declared.records.Mode.TheVariants.{Invalidate, Refresh, Delta}
use Rattle.key_shard.specs.declared.replies.QAnswer.{QAnswer}
use Rattle.key_shard.specs.declared.steps.Step.{Step}
use Rattle.key_shard.specs.Past.{Terms, entry}
use Rattle.key_shard.specs.Answers.{quarantine_step}
use Rattle.key_shard.specs.Replies.{ShowsQuarantine, old_value}
use Rattle.key_shard.specs.Shards.{ShardView, past_of}
use Rattle.key_shard.proofs.CaseLemmas.{quarantine_cases}
use Rattle.log_word.specs.declared.events.StoreEvent.{StoreEvent}
use Rattle.log_word.specs.declared.seen.Seen.{Seen}
use Rattle.log_word.specs.Events.{begins_to_write, closes, may_write, is_over}
use Rattle.log_word.specs.Lists.{IsStart}
use Rattle.log_word.specs.Steps.{IsBorneOut}
use Rattle.log_word.specs.Passes.{WordView, ShardPassView}
use Rattle.key_freshness.specs.Marks.{key_of}
use Rattle.bound_hub.specs.Olds.{IsOldHeld, IsGrantHeld}
use Rattle.bound_hub.specs.Shorts.{short_of}
use Rattle.bound_hub.specs.Ties.{IsBoundShard}
use Rattle.bound_hub.specs.StepShorts.{quarantine_short}
use Rattle.bound_hub.proofs.StepFacts.{IsHonestStep}
use Rattle.bound_hub.proofs.StepTies.{entry_is_seen}

-- an event that was seen is among those that are seen later
any_goes_on : (p : StoreEvent → Bool) (old new : List StoreEvent) → IsStart old new → list_any p old ≡ true → list_any p new ≡ true
any_goes_on p old new start e =
    ap (list_any p) start.1 ∙ list_any-append p start.0 old ∙ or_right (list_any p start.0) (list_any p old) e

pub still_may_write : (who : ℕ) (old new : List StoreEvent) → IsStart old new → may_write who old ≡ true → may_write who new ≡ true
still_may_write who = any_goes_on (begins_to_write who)

pub still_over : (who : ℕ) (old new : List StoreEvent) → IsStart old new → is_over who old ≡ true → is_over who new ≡ true
still_over who = any_goes_on (closes who)

-- the entry of a key, if it has one, is held by what is seen
pub found_is_seen : (word : WordView) (opening : Tables) (before : ℕ → List Step) (shard : ShardView) (pass : ShardPassView)
    → IsBoundShard word opening before shard pass → (key : QKey) → shard_of key word.shards ≡ shard.terms.no
    → (found : Option (List ℕ × ℕ)) → entry key (past_of shard) ≡ found → IsOldHeld opening (before shard.terms.no) shard.terms.no pass.seen key found
found_is_seen word opening before shard pass bound key home None is = tt
found_is_seen word opening before shard pass bound key home (Some found) is =
    entry_is_seen word opening before shard pass bound key home found.0 found.1 is

module _ (terms : Terms) (past : List Step) (key : QKey) (who : Sid) (mode : Mode) (shift : ℤ) (now : ℕ) where
  abbrev s : Step
  s = quarantine_step terms past key who mode shift now

  pub quarantine_is_honest : (opening : Tables) (before more : List Step) (seen : Seen) → IsHonestStep opening before more seen s
  quarantine_is_honest opening before more seen =
      quarantine_cases (IsHonestStep opening before more seen) terms past key who mode shift now
      (λ _. record { own = tt; honest = tt; true_step = λ _. tt; fresh_step = λ _. tt })
      (record { own = tt; honest = tt; true_step = λ _. tt; fresh_step = λ _. tt })
      (λ _ _. record { own = tt; honest = tt; true_step = λ _. tt; fresh_step = λ _. tt })

  -- it leaves the entry
  pub quarantine_leaves : entry key (s ∷ past) ≡ entry key past
  quarantine_leaves = quarantine_cases (λ x. entry key (x ∷ past) ≡ entry key past) terms past key who mode shift now (λ _. refl) refl (λ _ _. refl)

  pub quarantine_tells : (answer : QAnswer) (has : Bool) → ShowsQuarantine terms past s answer → (quarantine_short key who mode shift answer has ≡ short_of s has) × (key_of s ≡ key)
  quarantine_tells answer has =
      quarantine_cases (λ x. ShowsQuarantine terms past x answer → (quarantine_short key who mode shift answer has ≡ short_of x has) × (key_of x ≡ key)) terms past key who mode shift now
      (λ _ shows. (ap (λ a. quarantine_short key who mode shift a has) shows, refl))
      (λ shows. (ap (λ a. quarantine_short key who mode shift a has) shows, refl))
      (λ _ _ shows. (ap (λ a. quarantine_short key who mode shift a has) shows, refl))

  pub quarantine_borne_out : (events : List StoreEvent) (answer : QAnswer) (has : Bool) → may_write who.number events ≡ true
      → ShowsQuarantine terms past s answer → IsBorneOut events (quarantine_short key who mode shift answer has)
  quarantine_borne_out events answer has begun =
      quarantine_cases (λ x. ShowsQuarantine terms past x answer → IsBorneOut events (quarantine_short key who mode shift answer has)) terms past key who mode shift now
      (λ _ shows. subst (λ a. IsBorneOut events (quarantine_short key who mode shift a has)) (sym shows) (record { begun = λ _. begun; over = λ e. absurd (false≢true e); stamped = omega arith }))
      (λ shows. subst (λ a. IsBorneOut events (quarantine_short key who mode shift a has)) (sym shows)
      (record { begun = λ e. absurd (false≢true e); over = λ e. absurd (false≢true e); stamped = omega arith }))
      (λ _ _ shows. subst (λ a. IsBorneOut events (quarantine_short key who mode shift a has)) (sym shows)
      (record { begun = λ e. absurd (false≢true e); over = λ e. absurd (false≢true e); stamped = omega arith }))

  -- what holds of the entry holds of the old value, if there is one
  old_by : (P : Option (List ℕ × ℕ) → Type 0) (m : Mode) → P None → P (entry key past) → P (old_value m (entry key past))
  old_by P Invalidate none some = none
  old_by P Refresh none some = some
  old_by P Delta none some = none

  pub grant_is_held : (opening : Tables) (before : List Step) (number : ℕ) (seen : Seen) (answer : QAnswer) → ShowsQuarantine terms past s answer
      → IsOldHeld opening before number seen key (entry key past) → IsGrantHeld opening before number seen key answer
  grant_is_held opening before number seen answer shown held = by shown
    where
      by : ShowsQuarantine terms past s answer → IsGrantHeld opening before number seen key answer
      by =
          quarantine_cases (λ x. ShowsQuarantine terms past x answer → IsGrantHeld opening before number seen key answer) terms past key who mode shift now
          (λ _ shows. subst (IsGrantHeld opening before number seen key) (sym shows) (old_by (IsOldHeld opening before number seen key) mode tt held))
          (λ shows. subst (IsGrantHeld opening before number seen key) (sym shows) tt)
          (λ _ _ shows. subst (IsGrantHeld opening before number seen key) (sym shows) tt)
