-- What is held is fresh, and a caller who takes over what a shard's pass has seen loses nothing.
use Rattle.std.proofs.Common.{ℕ, ◌≡◌, List, sym, ap, subst, ◌∙◌}
use Rattle.rows_model.specs.declared.keys.QKey.{QKey}
use Rattle.rows_model.specs.Rows.{Tables}
use Rattle.key_shard.specs.declared.steps.Step.{Step}
use Rattle.key_shard.specs.declared.replies.Got.{Got}
use Rattle.key_shard.specs.declared.replies.Got.TheVariants as got
use Rattle.log_word.specs.declared.events.Short.{Short}
use Rattle.log_word.specs.declared.seen.Seen.{Seen}
use Rattle.log_word.specs.Lists.{steps_of}
use Rattle.log_word.specs.Steps.{IsBeginning}
use Rattle.log_word.specs.Views.{with_step}
use Rattle.log_word.proofs.StepListLemmas.{steps_with_step}
use Rattle.log_word.proofs.ViewLemmas.{beginning_trans, step_goes_on}
use Rattle.key_freshness.proofs.HitLemmas.{hit_is_fresh}
use Rattle.bound_hub.specs.Knowns.{known_of}
use Rattle.bound_hub.specs.Gets.{IsGotHeld, IsGotFresh, IsLastStep}

pub held_is_fresh : (opening : Tables) (before : List Step) (number : ℕ) (seen : Seen) (key : QKey) (answer : Got)
    → IsGotHeld opening before number seen key answer → IsGotFresh opening before number seen key answer
held_is_fresh opening before number seen key (got.Hit value stamp) h = λ telling.
    (h.more, h.shorts_are, hit_is_fresh key opening (known_of seen.events) h.more value stamp h.held (h.right telling))
held_is_fresh opening before number seen key (got.Lease token) h = tt
held_is_fresh opening before number seen key (got.Again stands) h = tt
held_is_fresh opening before number seen key got.Own h = tt

-- what the caller had seen is a beginning of what is seen with the step
pub begins_with_step : (number : ℕ) (step : Short) (mine here now : Seen) → IsBeginning mine here → now ≡ with_step number step here → IsBeginning mine now
begins_with_step number step mine here now begins is =
    subst (IsBeginning mine) (sym is) (beginning_trans mine here (with_step number step here) begins (step_goes_on number step here))

-- and the step stands last
pub last_with_step : (number : ℕ) (step : Short) (here now : Seen) → now ≡ with_step number step here → IsLastStep number step now
last_with_step number step here now is = (steps_of number here.steps, ap (λ (v : Seen). steps_of number v.steps) is ∙ steps_with_step number step here.steps)

-- and what is seen in the end, where the caller takes over what was seen here
pub begins_on : (mine here made now : Seen) → IsBeginning mine here → IsBeginning here made → now ≡ made → IsBeginning mine now
begins_on mine here made now begins goes_on same = subst (IsBeginning mine) (sym same) (beginning_trans mine here made begins goes_on)
