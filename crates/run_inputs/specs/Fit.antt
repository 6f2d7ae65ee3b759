-- Scripts that can be run.
use Rattle.std.specs.Prelude.{ℕ, ◌+◌, ◌≤◌, List, [], ◌∷◌, sum_by}
use Rattle.session_client.specs.declared.plans.Shape.{Shape}
use Rattle.session_client.specs.declared.plans.Turn.{Turn}
use Rattle.session_client.specs.declared.plans.Turn.TheVariants.{Session, Tick, Sweep}
use Rattle.session_client.specs.Plans.{IsShape, IsPlan}
use Rattle.run_inputs.specs.declared.scripts.Act.{Act}
use Rattle.run_inputs.specs.declared.scripts.Act.TheVariants.{Add, Run}

-- What contracts see of a script: with what it is to be run, and its acts.
pub record ScriptView : Type 0 where
  pub shape : Shape
  pub acts : List Act

-- How many sessions an act begins.
abbrev pub sessions_of : Act → ℕ
sessions_of (Add plan) = 1
sessions_of (Run turn count) = 0

-- How many turns, ticks and sweeps an act is.
abbrev pub turns_of : Act → ℕ
turns_of (Add plan) = 0
turns_of (Run turn count) = count

-- A turn of a session is of one of so many. The clock and the sweeper are always there.
abbrev pub IsTurnOf : ℕ → Turn → Type 0
IsTurnOf begun (Session who) = (1 ≤ who.number) × (who.number ≤ begun)
IsTurnOf begun (Tick by) = Unit {0}
IsTurnOf begun Sweep = Unit {0}

-- After so many sessions began, the act begins one of a plan that a session takes, or is turns of one that has begun, a tick or sweeps.
abbrev pub IsFit : ℕ → Act → Type 0
IsFit begun (Add plan) = IsPlan plan
IsFit begun (Run turn count) = IsTurnOf begun turn

-- Each act is fit, after those before it.
abbrev pub AreFit : ℕ → List Act → Type 0
AreFit begun [] = Unit {0}
AreFit begun (act ∷ acts) = IsFit begun act × AreFit (begun + sessions_of act) acts

-- The acts can be run in a core of the shape.
pub record IsPlayable (shape : Shape) (acts : List Act) : Type 0 where
  pub shape_fits : IsShape shape
  pub fit : AreFit 0 acts
  pub short : sum_by turns_of acts ≤ 1000000
