-- The steps of one shard among those of all.
use Rattle.std.proofs.Common.{◌≡◌, ◌≢◌, ℕ, zero, suc, List, [], ◌∷◌, refl, sym, ap, ◌∙◌, subst}
use native.Mathlib.Decide.{ℕ_discrete}
use Rattle.log_word.specs.declared.events.Short.{Short}
use Rattle.log_word.specs.Lists.{IsStart, longer, longer_each, steps_of, with_step_of, without_steps_of}
use Rattle.log_word.proofs.StartLemmas.{start_same, start_one, longer_from_none, longer_of_none, longer_is_whole}

pub steps_with_step : (shard : ℕ) (step : Short) (steps : List (List Short)) → steps_of shard (with_step_of shard step steps) ≡ step ∷ steps_of shard steps
steps_with_step zero step [] = refl
steps_with_step (suc shard) step [] = steps_with_step shard step []
steps_with_step zero step (first ∷ others) = refl
steps_with_step (suc shard) step (first ∷ others) = steps_with_step shard step others

pub other_steps_stay : (shard other : ℕ) (step : Short) (steps : List (List Short)) → other ≢ shard → steps_of other (with_step_of shard step steps) ≡ steps_of other steps
other_steps_stay zero zero step [] n = absurd (n refl)
other_steps_stay zero (suc other) step [] n = refl
other_steps_stay (suc shard) zero step [] n = refl
other_steps_stay (suc shard) (suc other) step [] n = other_steps_stay shard other step [] (λ e. n (ap suc e))
other_steps_stay zero zero step (first ∷ others) n = absurd (n refl)
other_steps_stay zero (suc other) step (first ∷ others) n = refl
other_steps_stay (suc shard) zero step (first ∷ others) n = refl
other_steps_stay (suc shard) (suc other) step (first ∷ others) n = other_steps_stay shard other step others (λ e. n (ap suc e))

-- what holds of the steps of the shard that made one more, and of those of each other, holds of each
pub each_with_step : (P : ℕ → List Short → Type 0) (shard : ℕ) (step : Short) (steps : List (List Short)) → P shard (step ∷ steps_of shard steps)
    → ((other : ℕ) → other ≢ shard → P other (steps_of other steps)) → (other : ℕ) → P other (steps_of other (with_step_of shard step steps))
each_with_step P shard step steps here else other = by (ℕ_discrete other shard)
  where
    by : Dec (other ≡ shard) → P other (steps_of other (with_step_of shard step steps))
    by (yes e) =
        subst (λ k. P k (steps_of k (with_step_of shard step steps))) (sym e) (subst (P shard) (sym (steps_with_step shard step steps)) here)
    by (no n) = subst (P other) (sym (other_steps_stay shard other step steps n)) (else other n)

pub steps_go_on : (shard : ℕ) (step : Short) (steps : List (List Short)) (other : ℕ) → IsStart (steps_of other steps) (steps_of other (with_step_of shard step steps))
steps_go_on shard step steps other =
    each_with_step (λ k list. IsStart (steps_of k steps) list) shard step steps (start_one step (steps_of shard steps)) (λ k _. start_same (steps_of k steps)) other

pub steps_of_longer_each : (one other : List (List Short)) (shard : ℕ) → steps_of shard (longer_each one other) ≡ longer (steps_of shard one) (steps_of shard other)
steps_of_longer_each [] other shard = sym (longer_from_none (steps_of shard other))
steps_of_longer_each (first ∷ others) [] shard = sym (longer_of_none (steps_of shard (first ∷ others)))
steps_of_longer_each (first ∷ others) (second ∷ more) zero = refl
steps_of_longer_each (first ∷ others) (second ∷ more) (suc shard) = steps_of_longer_each others more shard

steps_left_out : (shard : ℕ) (steps : List (List Short)) → steps_of shard (without_steps_of shard steps) ≡ []
steps_left_out shard [] = refl
steps_left_out zero (first ∷ others) = refl
steps_left_out (suc shard) (first ∷ others) = steps_left_out shard others

other_steps_left : (shard : ℕ) (steps : List (List Short)) (other : ℕ) → other ≢ shard → steps_of other (without_steps_of shard steps) ≡ steps_of other steps
other_steps_left shard [] other n = refl
other_steps_left zero (first ∷ others) zero n = absurd (n refl)
other_steps_left zero (first ∷ others) (suc other) n = refl
other_steps_left (suc shard) (first ∷ others) zero n = refl
other_steps_left (suc shard) (first ∷ others) (suc other) n = other_steps_left shard others other (λ e. n (ap suc e))

-- of steps that the other has only a start of nothing is lost
pub own_left_out_is_longer : (shard : ℕ) (one other : List (List Short)) → IsStart (steps_of shard other) (steps_of shard one)
    → (k : ℕ) → steps_of k (longer_each one (without_steps_of shard other)) ≡ longer (steps_of k one) (steps_of k other)
own_left_out_is_longer shard one other start k = steps_of_longer_each one (without_steps_of shard other) k ∙ by (ℕ_discrete k shard)
  where
    by : Dec (k ≡ shard) → longer (steps_of k one) (steps_of k (without_steps_of shard other)) ≡ longer (steps_of k one) (steps_of k other)
    by (yes e) =
        subst (λ j. longer (steps_of j one) (steps_of j (without_steps_of shard other)) ≡ longer (steps_of j one) (steps_of j other)) (sym e)
        (ap (longer (steps_of shard one)) (steps_left_out shard other) ∙ longer_of_none (steps_of shard one) ∙ sym (longer_is_whole (steps_of shard one) (steps_of shard other) start))
    by (no n) = ap (longer (steps_of k one)) (other_steps_left shard other k n)

-- a shard's own steps stay
pub own_steps_stay : (shard : ℕ) (one other : List (List Short)) → steps_of shard (longer_each one (without_steps_of shard other)) ≡ steps_of shard one
own_steps_stay shard one other =
    steps_of_longer_each one (without_steps_of shard other) shard ∙ ap (longer (steps_of shard one)) (steps_left_out shard other) ∙ longer_of_none (steps_of shard one)
