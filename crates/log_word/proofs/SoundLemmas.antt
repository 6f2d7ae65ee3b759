-- What is seen stays sound: with one more event, with one more step, and as two have seen it together.
use Rattle.std.proofs.Common.{◌≡◌, ◌≤◌, ℕ, List, [], ◌∷◌, ◌++◌, sym, subst, arith}
use Rattle.std.specs.List.{AllByRecursion}
use Rattle.rows_model.specs.Placement.{shard_of}
use Rattle.log_word.specs.declared.events.StoreEvent.{StoreEvent}
use Rattle.log_word.specs.declared.events.StoreEvent.TheVariants.{Begin, Commit, End}
use Rattle.log_word.specs.declared.events.Short.{Short}
use Rattle.log_word.specs.declared.seen.Seen.{Seen}
use Rattle.log_word.specs.Events.{begins_to_write, closes, commit_count, MayFollow, AreInOrder}
use Rattle.log_word.specs.Lists.{IsStart, longer, steps_of}
use Rattle.log_word.specs.Steps.{grants, IsBorneOut, IsGranted, IsSound, IsBeginning}
use Rattle.log_word.specs.Views.{nothing_seen, with_event, with_step}
use Rattle.log_word.specs.Passes.{IsTogether}
use Rattle.log_word.proofs.StartLemmas.{start_one, any_goes_on, all_mono, longer_elim, first_starts_longer, second_starts_longer}
use Rattle.log_word.proofs.StepListLemmas.{each_with_step, steps_go_on}

commits_rise : (more xs : List StoreEvent) → commit_count xs ≤ commit_count (more ++ xs)
commits_rise [] xs = omega arith
commits_rise (Begin sid worker writes ∷ more) xs = commits_rise more xs
commits_rise (Commit sid txn ∷ more) xs = let h : commit_count xs ≤ commit_count (more ++ xs) = commits_rise more xs in omega (arith, h)
commits_rise (End sid ∷ more) xs = commits_rise more xs

-- a step that is borne out stays so with more events
borne_out_goes_on : (xs ys : List StoreEvent) → IsStart xs ys → (step : Short) → IsBorneOut xs step → IsBorneOut ys step
borne_out_goes_on xs ys t step h = record {
  begun = λ e. any_goes_on (begins_to_write step.sid.number) xs ys t (h.begun e);
  over = λ e. any_goes_on (closes step.sid.number) xs ys t (h.over e);
  stamped =
      let a = h.stamped in
      let b : commit_count xs ≤ commit_count ys = subst (λ l. commit_count xs ≤ commit_count l) (sym t.1) (commits_rise t.0 xs) in
      omega (arith, a, b);
}

-- a commit whose keys were granted stays so with more steps
granted_goes_on : (shards : ℕ) (xs ys : List (List Short)) → ((shard : ℕ) → IsStart (steps_of shard xs) (steps_of shard ys))
    → (event : StoreEvent) → IsGranted shards xs event → IsGranted shards ys event
granted_goes_on shards xs ys t (Begin sid worker writes) h = tt
granted_goes_on shards xs ys t (Commit sid txn) h =
    λ key touched. let shard = shard_of key shards in any_goes_on (grants key sid.number) (steps_of shard xs) (steps_of shard ys) (t shard) (h key touched)
granted_goes_on shards xs ys t (End sid) h = tt

pub nothing_is_sound : (shards : ℕ) → IsSound shards nothing_seen
nothing_is_sound shards = record { in_order = tt; borne_out = λ shard. tt; granted = tt }

pub sound_with_event : (shards : ℕ) (seen : Seen) (event : StoreEvent) → IsSound shards seen → MayFollow seen.events event
    → IsGranted shards seen.steps event → IsSound shards (with_event event seen)
sound_with_event shards seen event h follows granted = record {
  in_order = (follows, h.in_order);
  borne_out = λ shard. all_mono (borne_out_goes_on seen.events (event ∷ seen.events) (start_one event seen.events)) (steps_of shard seen.steps) (h.borne_out shard);
  granted = (granted, h.granted);
}

pub sound_with_step : (shards : ℕ) (seen : Seen) (shard : ℕ) (step : Short) → IsSound shards seen → IsBorneOut seen.events step
    → IsSound shards (with_step shard step seen)
sound_with_step shards seen shard step h borne_out = record {
  in_order = h.in_order;
  borne_out = each_with_step (λ k list. AllByRecursion (IsBorneOut seen.events) list) shard step seen.steps (borne_out, h.borne_out shard) (λ k _. h.borne_out k);
  granted = all_mono (granted_goes_on shards seen.steps (with_step shard step seen).steps (steps_go_on shard step seen.steps)) seen.events h.granted;
}

-- soundness looks at events and steps alone
pub sound_by_parts : (shards : ℕ) (old new : Seen) → new.events ≡ old.events → new.steps ≡ old.steps → IsSound shards old → IsSound shards new
sound_by_parts shards old new events steps h = record {
  in_order = subst AreInOrder (sym events) h.in_order;
  borne_out = λ shard.
      subst (λ l. AllByRecursion (IsBorneOut l) (steps_of shard new.steps)) (sym events)
      (subst (λ l. AllByRecursion (IsBorneOut old.events) (steps_of shard l)) (sym steps) (h.borne_out shard));
  granted =
      subst (λ l. AllByRecursion (IsGranted shards new.steps) l) (sym events)
      (subst (λ l. AllByRecursion (IsGranted shards l) old.events) (sym steps) h.granted);
}

-- two that have seen beginnings of the same are sound together
pub sound_together : (shards : ℕ) (one other new truth : Seen) → IsTogether one other new → IsSound shards one → IsSound shards other
    → IsBeginning one truth → IsBeginning other truth → IsSound shards new
sound_together shards one other new truth is h k bh bk = record {
  in_order = subst AreInOrder (sym is.events) (longer_elim AreInOrder one.events other.events (λ _. k.in_order) (λ _. h.in_order));
  borne_out = λ shard. subst (λ l. AllByRecursion (IsBorneOut l) (steps_of shard new.steps)) (sym is.events) (borne_out shard);
  granted = subst (AllByRecursion (IsGranted shards new.steps)) (sym is.events) granted;
}
  where
    all : List StoreEvent
    all = longer one.events other.events

    borne_out : (shard : ℕ) → AllByRecursion (IsBorneOut all) (steps_of shard new.steps)
    borne_out shard =
        subst (AllByRecursion (IsBorneOut all)) (sym (is.steps shard))
        (longer_elim (AllByRecursion (IsBorneOut all)) (steps_of shard one.steps) (steps_of shard other.steps)
        (λ _. all_mono (borne_out_goes_on other.events all (second_starts_longer one.events other.events truth.events bh.events bk.events)) (steps_of shard other.steps) (k.borne_out shard))
        (λ _. all_mono (borne_out_goes_on one.events all (first_starts_longer one.events other.events truth.events bh.events bk.events)) (steps_of shard one.steps) (h.borne_out shard)))

    left : (shard : ℕ) → IsStart (steps_of shard one.steps) (steps_of shard new.steps)
    left shard =
        subst (IsStart (steps_of shard one.steps)) (sym (is.steps shard))
        (first_starts_longer (steps_of shard one.steps) (steps_of shard other.steps) (steps_of shard truth.steps) (bh.steps shard) (bk.steps shard))

    right : (shard : ℕ) → IsStart (steps_of shard other.steps) (steps_of shard new.steps)
    right shard =
        subst (IsStart (steps_of shard other.steps)) (sym (is.steps shard))
        (second_starts_longer (steps_of shard one.steps) (steps_of shard other.steps) (steps_of shard truth.steps) (bh.steps shard) (bk.steps shard))

    granted : AllByRecursion (IsGranted shards new.steps) all
    granted =
        longer_elim (AllByRecursion (IsGranted shards new.steps)) one.events other.events
        (λ _. all_mono (granted_goes_on shards other.steps new.steps right) other.events k.granted)
        (λ _. all_mono (granted_goes_on shards one.steps new.steps left) one.events h.granted)
