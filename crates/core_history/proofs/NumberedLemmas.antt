-- Each value that a run put or shifted has the number of its session's commit as its stamp.
use Rattle.std.proofs.Common.{ℕ, ◌==◌, List, [], ◌∷◌, ◌++◌, Some, None, ap}
use Rattle.std.specs.List.{AllByRecursion}
use Rattle.rows_model.specs.declared.keys.QKey.{QKey}
use Rattle.rows_model.specs.declared.keys.Sid.{Sid}
use Rattle.lease_table.specs.declared.records.Mode.{Mode}
use Rattle.lease_table.specs.declared.records.Mode.TheVariants.{Refresh, Delta}
use Rattle.key_shard.specs.declared.steps.Ended.TheVariants as ended
use Rattle.key_shard.specs.declared.steps.Step.{Step}
use Rattle.key_shard.specs.declared.steps.Step.TheVariants as step
use Rattle.sql_keeper.specs.declared.stores.Commit.{Commit}
use Rattle.session_client.specs.declared.plans.Shape.{Shape}
use Rattle.core_history.specs.Events.{Event, Stepped, Called, Ticked, Swept, steps_in, steps_of, commits_in, log_of}
use Rattle.core_history.specs.Machine.{Move, Begin, Take, turn_event, world_of}
use Rattle.core_history.specs.Freshness.{IsCommitOf, IsNumbered}
use Rattle.core_history.proofs.GoodEvents.{WritesOwn, IsGoodStep, IsGoodEvent}
use Rattle.core_history.proofs.ListLemmas.{choose, every-append, every-weaker, slice-front}
use Rattle.core_history.proofs.WorldLemmas.{taken-inner, inner_of}

-- a commit has its number in a longer log too
pub commit-more : (log more : List Commit) (sid : Sid) (number : ℕ) → IsCommitOf log sid number → IsCommitOf (log ++ more) sid number
commit-more log more sid number h =
    record { place = h.place; commit = h.commit; at = slice-front log more h.place h.commit h.at; own = h.own; is = h.is }

numbered-more : (log more : List Commit) (s : Step) → IsNumbered log s → IsNumbered (log ++ more) s
numbered-more log more (step.Released on sid token (ended.Put value stamp evicted)) h = commit-more log more sid stamp h
numbered-more log more (step.Released on sid token (ended.Shift by stamp)) h = commit-more log more sid stamp h
numbered-more log more other h = tt

-- what a session writes has the number of its commit, and so a good step is numbered
writes-numbered : (past : List Event) (steps : List Step) (on : QKey) (sid : Sid) (token : ℕ) (mode : Mode) (stamp : ℕ)
    → WritesOwn past steps on sid token mode stamp
    → IsCommitOf (log_of past) sid stamp
writes-numbered past steps on sid token mode stamp writes = record {
  place = writes.place;
  commit = writes.commit;
  at = writes.logged;
  own = ap (λ (n : ℕ). record { number = n }) writes.own;
  is = writes.stamp_is;
}

good-numbered : (past : List Event) (steps : List Step) (who : Sid) (s : Step) → IsGoodStep past steps who s → IsNumbered (log_of past) s
good-numbered past steps who (step.Released on sid token (ended.Put value stamp evicted)) good =
    writes-numbered past steps on sid token Refresh stamp good.writes
good-numbered past steps who (step.Released on sid token (ended.Shift by stamp)) good = writes-numbered past steps on sid token Delta stamp good.writes
good-numbered past steps who other good = tt

-- so is each step of a good event
event-numbered : (shape : Shape) (past : List Event) (event : Event) → IsGoodEvent shape past event → (place : ℕ)
    → AllByRecursion (IsNumbered (log_of past)) (steps_in place event)
event-numbered shape past (Stepped home who request s reply) good place =
    choose (AllByRecursion (IsNumbered (log_of past))) (home == place)
    (s ∷ []) [] (λ _. (good-numbered past (steps_of home past) who s good.good, tt)) (λ _. tt)
event-numbered shape past (Called who request reply) good place = tt
event-numbered shape past (Ticked now) good place = tt
event-numbered shape past (Swept home request None reply) good place =
    choose (AllByRecursion (IsNumbered (log_of past))) (home == place) [] [] (λ _. tt) (λ _. tt)
event-numbered shape past (Swept home request (Some (step.Released on sid token ended.Drop)) reply) good place =
    choose (AllByRecursion (IsNumbered (log_of past))) (home == place) (step.Released on sid token ended.Drop ∷ []) [] (λ _. (tt, tt)) (λ _. tt)
event-numbered shape past (Swept home request (Some other) reply) good place = absurd good.0

-- so is each step of each run
pub runs_numbered : (shape : Shape) (moves : List Move) (place : ℕ)
    → AllByRecursion (IsNumbered (log_of (world_of shape moves).past)) (steps_of place (world_of shape moves).past)
runs_numbered shape [] place = tt
runs_numbered shape (Begin plan ∷ moves) place = runs_numbered shape moves place
runs_numbered shape (Take turn said ∷ moves) place =
    let world = world_of shape moves in
    let past = world.past in
    let event = turn_event shape world turn said in
    let good : IsGoodEvent shape past event = (taken-inner shape world turn said (inner_of shape moves)).1 in
    every-weaker (IsNumbered (log_of past)) (IsNumbered (log_of (event ∷ past)))
    (steps_of place (event ∷ past)) (numbered-more (log_of past) (commits_in event))
    (every-append (IsNumbered (log_of past)) (steps_in place event)
    (steps_of place past) (event-numbered shape past event good place) (runs_numbered shape moves place))
