-- How far a run is, in the loops over acts and turns.
use Rattle.std.proofs.Common.{ℕ, ◌≡◌, ◌-◌, List, [], ◌∷◌, ◌++◌, take, drop}
use Rattle.std.specs.Prelude.{Option, replicate}
use Rattle.session_client.specs.declared.plans.Turn.{Turn}
use Rattle.run_inputs.specs.declared.scripts.Act.{Act}
use Rattle.run_inputs.specs.declared.scripts.Act.TheVariants as act
use Rattle.core_history.specs.Cores.{CoreView, Origin}
use Rattle.top_run.specs.declared.plays.Tally.{Tally}
use Rattle.core_history.specs.Determined.{Cue, Turns}
use Rattle.top_run.specs.Runs.{calls_of}
use Rattle.top_run.specs.Plays.{CanPlay, IsPlayed}

-- so many turns were taken
pub record HasTaken (old now : CoreView) (turn : Turn) (count done : ℕ)
    (taken_was taken_is : Option (List ℕ)) (faults_was faults_is : ℕ) (was is : Tally) : Type 0 where
  pub can : CanPlay now (act.Run turn (count - done) ∷ []) taken_is is
  pub so_far : (origin : Origin) (calls : List Cue) (taken : Option (List ℕ))
      → IsPlayed old origin calls taken taken_was was → IsPlayed now origin (calls ++ replicate done (Turns turn)) taken taken_is is
  pub same : faults_is ≡ faults_was

-- so many of the acts were played, and the others are left
pub record HasPlayed (old now : CoreView) (acts : List Act) (count : ℕ)
    (taken_was taken_is : Option (List ℕ)) (faults_was faults_is : ℕ) (was is : Tally) : Type 0 where
  pub can : CanPlay now (drop count acts) taken_is is
  pub so_far : (origin : Origin) (calls : List Cue) (taken : Option (List ℕ))
      → IsPlayed old origin calls taken taken_was was → IsPlayed now origin (calls ++ calls_of (take count acts)) taken taken_is is
  pub same : faults_is ≡ faults_was
