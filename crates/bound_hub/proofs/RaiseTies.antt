-- A raise's step and a renewal's: they write nothing and end nothing, and their answers tell them in short.
use Rattle.std.proofs.Common.{ℕ, ◌≡◌, Bool, List, ◌∷◌, refl, sym, ap, subst, arith}
use Rattle.std.proofs.lemmas.Bool.{false≢true}
use Rattle.rows_model.specs.declared.keys.QKey.{QKey}
use Rattle.rows_model.specs.declared.keys.Sid.{Sid}
use Rattle.rows_model.specs.Rows.{Tables}
use Rattle.key_shard.specs.declared.replies.Raising.{Raising}
use Rattle.key_shard.specs.declared.replies.Raising.TheVariants as raising
use Rattle.key_shard.specs.declared.replies.Renewal.{Renewal}
use Rattle.key_shard.specs.declared.replies.Renewal.TheVariants as renewal
use Rattle.key_shard.specs.declared.steps.Step.{Step}
use Rattle.key_shard.specs.declared.steps.Step.TheVariants as step
use Rattle.key_shard.specs.Past.{Terms, entry}
use Rattle.key_shard.specs.Permit.{Permit}
use Rattle.key_shard.specs.Answers.{raise_step, renew_step}
use Rattle.key_shard.specs.Replies.{ShowsRaise, ShowsRenewal}
use Rattle.key_shard.specs.Shards.{ShardView, after_raise}
use Rattle.key_shard.proofs.CaseLemmas.{raise_cases, renew_cases}
use Rattle.log_word.specs.declared.events.StoreEvent.{StoreEvent}
use Rattle.log_word.specs.declared.seen.Seen.{Seen}
use Rattle.log_word.specs.Steps.{IsBorneOut}
use Rattle.key_freshness.specs.Marks.{key_of}
use Rattle.bound_hub.specs.Olds.{IsOldHeld, IsRaiseHeld}
use Rattle.bound_hub.specs.Shorts.{short_of}
use Rattle.bound_hub.specs.StepShorts.{raise_short, renew_short}
use Rattle.bound_hub.proofs.StepFacts.{IsHonestStep}
use Rattle.bound_hub.proofs.StepTies.{HasStepped, has_stepped, has_returned}

pub raise_borne_out : (events : List StoreEvent) (key : QKey) (sid : Sid) (token : ℕ) (answer : Raising) (has : Bool) → IsBorneOut events (raise_short key sid token answer has)
raise_borne_out events key sid token (raising.Raised grant old) has = record { begun = λ e. absurd (false≢true e); over = λ e. absurd (false≢true e); stamped = omega arith }
raise_borne_out events key sid token (raising.Shared grant holder) has = record { begun = λ e. absurd (false≢true e); over = λ e. absurd (false≢true e); stamped = omega arith }
raise_borne_out events key sid token raising.Gone has = record { begun = λ e. absurd (false≢true e); over = λ e. absurd (false≢true e); stamped = omega arith }

pub renew_borne_out : (events : List StoreEvent) (key : QKey) (sid : Sid) (token : ℕ) (answer : Renewal) (has : Bool) → IsBorneOut events (renew_short key sid token answer has)
renew_borne_out events key sid token (renewal.Renewed deadline) has = record { begun = λ e. absurd (false≢true e); over = λ e. absurd (false≢true e); stamped = omega arith }
renew_borne_out events key sid token renewal.Gone has = record { begun = λ e. absurd (false≢true e); over = λ e. absurd (false≢true e); stamped = omega arith }

module _ (past : List Step) (grant : Permit) where
  abbrev s : Step
  s = raise_step past grant

  pub raise_is_honest : (opening : Tables) (before more : List Step) (seen : Seen) → IsHonestStep opening before more seen s
  raise_is_honest opening before more seen =
      raise_cases (IsHonestStep opening before more seen) past grant
      (λ _. record { own = tt; honest = tt; true_step = λ _. tt; fresh_step = λ _. tt })
      (λ _ _. record { own = tt; honest = tt; true_step = λ _. tt; fresh_step = λ _. tt })
      (record { own = tt; honest = tt; true_step = λ _. tt; fresh_step = λ _. tt })

  -- it leaves the entry
  pub raise_leaves : entry grant.key (s ∷ past) ≡ entry grant.key past
  raise_leaves = raise_cases (λ x. entry grant.key (x ∷ past) ≡ entry grant.key past) past grant (λ _. refl) (λ _ _. refl) refl

  pub raise_tells : (answer : Raising) (has : Bool) → ShowsRaise past grant s answer → (raise_short grant.key grant.sid grant.token answer has ≡ short_of s has) × (key_of s ≡ grant.key)
  raise_tells answer has =
      raise_cases (λ x. ShowsRaise past grant x answer → (raise_short grant.key grant.sid grant.token answer has ≡ short_of x has) × (key_of x ≡ grant.key)) past grant
      (λ _ shows. (ap (λ a. raise_short grant.key grant.sid grant.token a has) shows, refl))
      (λ _ _ shows. (ap (λ a. raise_short grant.key grant.sid grant.token a has) shows, refl))
      (λ shows. (ap (λ a. raise_short grant.key grant.sid grant.token a has) shows, refl))

  pub raise_is_held : (opening : Tables) (before : List Step) (number : ℕ) (seen : Seen) (answer : Raising) → IsOldHeld opening before number seen grant.key (entry grant.key past)
      → ShowsRaise past grant s answer → IsRaiseHeld opening before number seen grant.key answer
  raise_is_held opening before number seen answer held =
      raise_cases (λ x. ShowsRaise past grant x answer → IsRaiseHeld opening before number seen grant.key answer) past grant
      (λ _ shows. subst (IsRaiseHeld opening before number seen grant.key) (sym shows) held)
      (λ _ _ shows. subst (IsRaiseHeld opening before number seen grant.key) (sym shows) tt)
      (λ shows. subst (IsRaiseHeld opening before number seen grant.key) (sym shows) tt)

  -- the shard has made it
  pub has_raised : (old new : ShardView) → new ≡ after_raise old grant s → HasStepped old new s
  has_raised old new =
      raise_cases (λ x. new ≡ after_raise old grant x → HasStepped old new x) past grant
      (λ _ made. has_stepped old new (step.Raised grant.key grant.sid grant.token) made)
      (λ other _ made. has_stepped old new (step.Shared grant.key grant.sid grant.token other.sid) made)
      (λ made. has_returned old new grant (step.Gone grant.key grant.sid grant.token) made)

module _ (terms : Terms) (past : List Step) (grant : Permit) (now : ℕ) where
  abbrev r : Step
  r = renew_step terms past grant now

  pub renew_is_honest : (opening : Tables) (before more : List Step) (seen : Seen) → IsHonestStep opening before more seen r
  renew_is_honest opening before more seen =
      renew_cases (IsHonestStep opening before more seen) terms past grant now
      (λ _ _. record { own = tt; honest = tt; true_step = λ _. tt; fresh_step = λ _. tt })
      (λ _. record { own = tt; honest = tt; true_step = λ _. tt; fresh_step = λ _. tt })

  pub renew_tells : (answer : Renewal) (has : Bool) → ShowsRenewal r answer → (renew_short grant.key grant.sid grant.token answer has ≡ short_of r has) × (key_of r ≡ grant.key)
  renew_tells answer has =
      renew_cases (λ x. ShowsRenewal x answer → (renew_short grant.key grant.sid grant.token answer has ≡ short_of x has) × (key_of x ≡ grant.key)) terms past grant now
      (λ _ _ shows. (ap (λ a. renew_short grant.key grant.sid grant.token a has) shows, refl))
      (λ _ shows. (ap (λ a. renew_short grant.key grant.sid grant.token a has) shows, refl))
