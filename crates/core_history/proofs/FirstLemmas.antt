-- Each raise of a run came before its session's commit.
use Rattle.std.proofs.Common.{ℕ, ◌≡◌, ◌==◌, false, List, [], ◌∷◌}
use Rattle.std.proofs.lemmas.Bool.{eqb-true}
use Rattle.key_freshness.specs.Known.{IsLogged}
use Rattle.key_shard.specs.declared.steps.Step.{Step}
use Rattle.key_shard.specs.declared.steps.Step.TheVariants as step
use Rattle.rows_model.specs.declared.keys.Sid.{Sid}
use Rattle.session_client.specs.declared.plans.Shape.{Shape}
use Rattle.core_history.specs.Events.{Event, Stepped, Called, Ticked, Swept, steps_of, log_of, has_committed}
use Rattle.core_history.specs.Freshness.{IsRaisedFirst, RaisesFirst, AreRaisedFirst}
use Rattle.core_history.specs.Machine.{Move, Begin, Take, turn_event, world_of}
use Rattle.core_history.proofs.GoodEvents.{IsGoodStep, IsGoodEvent}
use Rattle.core_history.proofs.ListLemmas.{not_true, place_of}
use Rattle.core_history.proofs.WorldLemmas.{taken-inner, inner_of}

-- a session that isn't in the log hasn't committed
unlogged : (n : ℕ) (past : List Event) → (IsLogged (log_of past) n → ⊥) → has_committed n past ≡ false
unlogged n past none =
    not_true (has_committed n past) (λ committed.
    let found = place_of (λ commit. commit.sid.number == n) (log_of past) committed in
    none (record { place = found.0; commit = found.1; at = found.2; own = eqb-true found.1.sid.number n found.3 }))

step-first : (past : List Event) (steps : List Step) (who : Sid) (s : Step) → IsGoodStep past steps who s → IsRaisedFirst past s
step-first past steps who (step.Raised on sid token) good = unlogged sid.number past good.before
step-first past steps who other good = tt

event-first : (shape : Shape) (past : List Event) (event : Event) → IsGoodEvent shape past event → RaisesFirst past event
event-first shape past (Stepped home who request s reply) good = step-first past (steps_of home past) who s good.good
event-first shape past (Called who request reply) good = tt
event-first shape past (Ticked now) good = tt
event-first shape past (Swept home request made reply) good = tt

pub runs_raised : (shape : Shape) (moves : List Move) → AreRaisedFirst (world_of shape moves).past
runs_raised shape [] = tt
runs_raised shape (Begin plan ∷ moves) = runs_raised shape moves
runs_raised shape (Take turn said ∷ moves) =
    let world = world_of shape moves in (
      event-first shape world.past (turn_event shape world turn said) (taken-inner shape world turn said (inner_of shape moves)).1,
      runs_raised shape moves,
    )
