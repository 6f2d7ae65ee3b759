-- An old value comes along exactly where the key has an entry behind the step; what a refusal of a shard shows.
use Rattle.std.proofs.Common.{ℕ, ℤ, ◌≡◌, ◌≢◌, Bool, true, false, List, ◌∷◌, Result, Ok, Err, IfOk, OnOk, is_some, refl, sym, ap, subst, ◌∙◌}
use Rattle.rows_model.specs.declared.keys.QKey.{QKey}
use Rattle.rows_model.specs.declared.keys.Sid.{Sid}
use Rattle.rows_model.specs.Placement.{shard_of}
use Rattle.lease_table.specs.declared.records.Mode.{Mode}
use Rattle.lease_table.specs.declared.records.Mode.TheVariants.{Invalidate, Refresh, Delta}
use Rattle.key_shard.specs.declared.replies.QAnswer.{QAnswer}
use Rattle.key_shard.specs.declared.replies.Raising.{Raising}
use Rattle.key_shard.specs.declared.replies.Raising.TheVariants as raising
use Rattle.key_shard.specs.declared.replies.Renewal.{Renewal}
use Rattle.key_shard.specs.declared.replies.Renewal.TheVariants as renewal
use Rattle.key_shard.specs.declared.replies.ShardFault.{ShardFault}
use Rattle.key_shard.specs.declared.replies.ShardFault.TheVariants as faults
use Rattle.key_shard.specs.declared.steps.Step.{Step}
use Rattle.key_shard.specs.declared.steps.Step.TheVariants as step
use Rattle.key_shard.specs.Answers.{granted_step, quarantine_step, raise_step}
use Rattle.key_shard.specs.Past.{Terms, entry, next_token}
use Rattle.key_shard.specs.Permit.{Permit}
use Rattle.key_shard.specs.Replies.{ShowsQuarantine, ShowsRaise}
use Rattle.key_shard.specs.Shards.{ShardView, after_raise, past_of, stepped}
use Rattle.key_shard.proofs.CaseLemmas.{quarantine_cases, raise_cases}
use Rattle.key_shard.proofs.SweepLemmas.{past-stepped}
use Rattle.executor.specs.OnShard.{fault_of}
use Rattle.log_word.specs.declared.seen.Seen.{Seen}
use Rattle.bound_hub.specs.Gets.{IsLastStep}
use Rattle.bound_hub.specs.Shorts.{granted_short, raised_short}
use Rattle.bound_hub.specs.Spent.{SeesSpent}
use Rattle.bound_hub.specs.StepShorts.{quarantine_short, raise_short, renew_short}
use Rattle.bound_desk.specs.Faults.{SeesRefusal}
use Rattle.bound_desk.specs.Grants.{IsOldTold, IsRaiseTold}

-- a quarantine that is granted leaves the key's entry, which comes along
quarantine_told : (terms : Terms) (past : List Step) (key : QKey) (who : Sid) (shift : ℤ) (now : ℕ) (shards : ℕ) (seen : Seen) (answer : QAnswer) (has : Bool)
    → ShowsQuarantine terms past (quarantine_step terms past key who Refresh shift now) answer
    → has ≡ is_some (entry key (quarantine_step terms past key who Refresh shift now ∷ past))
    → IsLastStep (shard_of key shards) (quarantine_short key who Refresh shift answer has) seen
    → IsOldTold shards key who shift Refresh seen answer
quarantine_told terms past key who shift now shards seen answer has =
    let F : Step → QAnswer → Type 0 = λ s a. has ≡ is_some (entry key (s ∷ past))
    → IsLastStep (shard_of key shards) (quarantine_short key who Refresh shift a has) seen → IsOldTold shards key who shift Refresh seen a in
    quarantine_cases (λ s. ShowsQuarantine terms past s answer → F s answer) terms past key who Refresh shift now
    (λ none shows. subst (F (granted_step terms past key who Refresh shift now)) (sym shows)
    (λ is last. subst (λ b. IsLastStep (shard_of key shards) (granted_short key who Refresh shift (next_token terms past) b) seen) is last))
    (λ shows. subst (F (step.Held key who Refresh)) (sym shows) (λ is last. tt))
    (λ quar at shows. subst (F (step.Refused key who Refresh quar.sid quar.mode)) (sym shows) (λ is last. tt))

told_in : (terms : Terms) (past : List Step) (key : QKey) (who : Sid) (mode : Mode) (shift : ℤ) (now : ℕ) (shards : ℕ) (seen : Seen) (answer : QAnswer) (has : Bool)
    → ShowsQuarantine terms past (quarantine_step terms past key who mode shift now) answer
    → has ≡ is_some (entry key (quarantine_step terms past key who mode shift now ∷ past))
    → IsLastStep (shard_of key shards) (quarantine_short key who mode shift answer has) seen
    → IsOldTold shards key who shift mode seen answer
told_in terms past key who Refresh shift now shards seen answer has = quarantine_told terms past key who shift now shards seen answer has
told_in terms past key who Invalidate shift now shards seen answer has = λ shows is last. tt
told_in terms past key who Delta shift now shards seen answer has = λ shows is last. tt

-- so it is with the answer to a quarantine, if there is one
pub old_is_told : {E : Type 0} (shard new : ShardView) (key : QKey) (who : Sid) (mode : Mode) (shift : ℤ) (now : ℕ) (shards place : ℕ) (seen : Seen) (result : Result QAnswer E)
    → place ≡ shard_of key shards
    → OnOk result (new ≡ stepped shard (quarantine_step shard.terms (past_of shard) key who mode shift now))
    → IfOk result (ShowsQuarantine shard.terms (past_of shard) (quarantine_step shard.terms (past_of shard) key who mode shift now))
    → IfOk result (λ answer. IsLastStep place (quarantine_short key who mode shift answer (is_some (entry key (past_of new)))) seen)
    → IfOk result (IsOldTold shards key who shift mode seen)
old_is_told shard new key who mode shift now shards place seen (Ok answer) at made shows last =
    let step = quarantine_step shard.terms (past_of shard) key who mode shift now in
    told_in shard.terms (past_of shard) key who mode shift now shards seen answer (is_some (entry key (past_of new))) shows
    (ap (λ (s : ShardView). is_some (entry key (past_of s))) made ∙ ap (λ (l : List Step). is_some (entry key l)) (past-stepped shard step))
    (subst (λ n. IsLastStep n (quarantine_short key who mode shift answer (is_some (entry key (past_of new)))) seen) at last)
old_is_told shard new key who mode shift now shards place seen (Err fault) at made shows last = tt

-- a raise leaves the key's entry too
raise_told : (shard new : ShardView) (grant : Permit) (shards : ℕ) (seen : Seen) (answer : Raising)
    → new ≡ after_raise shard grant (raise_step (past_of shard) grant)
    → ShowsRaise (past_of shard) grant (raise_step (past_of shard) grant) answer
    → IsLastStep (shard_of grant.key shards) (raise_short grant.key grant.sid grant.token answer (is_some (entry grant.key (past_of new)))) seen
    → IsRaiseTold shards grant seen answer
raise_told shard new grant shards seen answer =
    let F : Raising → Type 0 = λ a. IsLastStep (shard_of grant.key shards) (raise_short grant.key grant.sid grant.token a (is_some (entry grant.key (past_of new)))) seen
    → IsRaiseTold shards grant seen a in
    raise_cases (λ s. new ≡ after_raise shard grant s → ShowsRaise (past_of shard) grant s answer → F answer) (past_of shard) grant
    (λ _ made shows. subst F (sym shows)
    (λ last. subst (λ b. IsLastStep (shard_of grant.key shards) (raised_short grant.key grant.sid grant.token b) seen)
    (ap (λ (s : ShardView). is_some (entry grant.key (past_of s))) made ∙ ap (λ (l : List Step). is_some (entry grant.key l)) (past-stepped shard _)) last))
    (λ other at made shows. subst F (sym shows) (λ last. tt))
    (λ made shows. subst F (sym shows) (λ last. tt))

told_if : {E : Type 0} (shard new : ShardView) (grant : Permit) (shards place : ℕ) (seen : Seen) (result : Result Raising E) → place ≡ shard_of grant.key shards
    → OnOk result (new ≡ after_raise shard grant (raise_step (past_of shard) grant))
    → IfOk result (ShowsRaise (past_of shard) grant (raise_step (past_of shard) grant))
    → IfOk result (λ answer. IsLastStep place (raise_short grant.key grant.sid grant.token answer (is_some (entry grant.key (past_of new)))) seen)
    → IfOk result (IsRaiseTold shards grant seen)
told_if shard new grant shards place seen (Ok answer) at made shows last =
    raise_told shard new grant shards seen answer made shows
    (subst (λ n. IsLastStep n (raise_short grant.key grant.sid grant.token answer (is_some (entry grant.key (past_of new)))) seen) at last)
told_if shard new grant shards place seen (Err back) at made shows last = tt

-- a grant that isn't out brings none
pub raise_is_told : {E : Type 0} (out : Bool) (shard new : ShardView) (grant : Permit) (shards place : ℕ) (seen : Seen) (result : Result Raising E) → place ≡ shard_of grant.key shards
    → (out ≡ true → OnOk result (new ≡ after_raise shard grant (raise_step (past_of shard) grant)))
    → (out ≡ true → IfOk result (ShowsRaise (past_of shard) grant (raise_step (past_of shard) grant)))
    → (out ≡ true → IfOk result (λ answer. IsLastStep place (raise_short grant.key grant.sid grant.token answer (is_some (entry grant.key (past_of new)))) seen))
    → (out ≡ false → result ≡ Ok raising.Gone)
    → IfOk result (IsRaiseTold shards grant seen)
raise_is_told true shard new grant shards place seen result at made shows last gone = told_if shard new grant shards place seen result at (made refl) (shows refl) (last refl)
raise_is_told false shard new grant shards place seen result at made shows last gone = subst (λ r. IfOk r (IsRaiseTold shards grant seen)) (sym (gone refl)) tt

-- a shard that refused is seen to have no token left, or memory ran out
pub refused_is_shown : (terms : ℕ → Terms) (before : ℕ → List Step) (shards : ℕ) (key : QKey) (fault : ShardFault) (seen : Seen)
    → SeesSpent terms before (shard_of key shards) seen fault → SeesRefusal terms before shards key (fault_of fault) seen
refused_is_shown terms before shards key (faults.Spent next) seen h = h
refused_is_shown terms before shards key faults.Memory seen h = tt
refused_is_shown terms before shards key (faults.Stranger place) seen h = tt

-- the step of a renewal is the last that is seen, unless it is gone
renewed_if : {E : Type 0} (grant : Permit) (shards place : ℕ) (seen : Seen) (has : Bool) (result : Result Renewal E) → place ≡ shard_of grant.key shards
    → IfOk result (λ answer. IsLastStep place (renew_short grant.key grant.sid grant.token answer has) seen)
    → IfOk result (λ answer. answer ≢ renewal.Gone → (some : Bool) × IsLastStep (shard_of grant.key shards) (renew_short grant.key grant.sid grant.token answer some) seen)
renewed_if grant shards place seen has (Ok answer) at last = λ _. (has, subst (λ n. IsLastStep n (renew_short grant.key grant.sid grant.token answer has) seen) at last)
renewed_if grant shards place seen has (Err fault) at last = tt

pub renewal_is_last : {E : Type 0} (out : Bool) (grant : Permit) (shards place : ℕ) (seen : Seen) (has : Bool) (result : Result Renewal E) → place ≡ shard_of grant.key shards
    → (out ≡ true → IfOk result (λ answer. IsLastStep place (renew_short grant.key grant.sid grant.token answer has) seen))
    → (out ≡ false → result ≡ Ok renewal.Gone)
    → IfOk result (λ answer. answer ≢ renewal.Gone → (some : Bool) × IsLastStep (shard_of grant.key shards) (renew_short grant.key grant.sid grant.token answer some) seen)
renewal_is_last true grant shards place seen has result at last gone = renewed_if grant shards place seen has result at (last refl)
renewal_is_last false grant shards place seen has result at last gone =
    subst (λ r. IfOk r (λ answer. answer ≢ renewal.Gone → (some : Bool) × IsLastStep (shard_of grant.key shards) (renew_short grant.key grant.sid grant.token answer some) seen))
    (sym (gone refl)) (λ differs. absurd (differs refl))
