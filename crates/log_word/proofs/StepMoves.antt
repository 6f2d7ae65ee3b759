-- A shard's seat gets a step, and the rule is kept.
use Rattle.std.proofs.Common.{◌≡◌, ◌≢◌, ℕ, ◌<◌, ◌≤◌, List, [], ◌∷◌, set, refl, sym, ap, ◌∙◌, subst, arith}
use mathlib.Core.Option.{some}
use lib.ListN.{get_elem?}
use Rattle.log_word.specs.declared.events.Short.{Short}
use Rattle.log_word.specs.declared.seen.Seen.{Seen}
use Rattle.log_word.specs.declared.seen.View.{View}
use Rattle.log_word.specs.declared.seen.Part.{Part}
use Rattle.log_word.specs.declared.seen.Part.TheVariants.{Caller, Store, Shard}
use Rattle.log_word.specs.Lists.{IsStart, steps_of}
use Rattle.log_word.specs.Steps.{IsBorneOut}
use Rattle.log_word.specs.Rule.{Truth, OwnsItsPart, IsOwned, Fits, Kept, IsShard}
use Rattle.log_word.specs.Views.{with_step, shard_number, view_that_saw, view_with_step}
use Rattle.log_word.proofs.StartLemmas.{start_is, start_trans}
use Rattle.log_word.proofs.StepListLemmas.{steps_with_step, other_steps_stay, each_with_step, steps_go_on}
use Rattle.log_word.proofs.SoundLemmas.{sound_with_step}
use Rattle.log_word.proofs.ViewLemmas.{step_goes_on, fits_more, owned, each_set, once_set}

pub kept_with_step : (shards : ℕ) (words : List ℕ) (views : List View) (id : ℕ) (mine : View) (shard : ℕ) (step : Short) → Kept shards words views → get_elem? views id ≡ some mine
    → mine.part ≡ Shard shard → IsBorneOut mine.seen.events step
    → Kept shards words (set views id (view_that_saw (with_step shard step mine.seen) mine))
kept_with_step shards words views id mine shard step kept at_id part borne_out = record {
  truth = new;
  word = kept.word;
  unmade = unmade;
  fits = each_set views id after (Fits shards new) others here;
  once = once_set views id mine after at_id refl kept.once;
}
  where
    f : Fits shards kept.truth mine
    f = kept.fits id mine at_id

    old : Seen
    old = kept.truth.seen

    after : View
    after = view_that_saw (with_step shard step mine.seen) mine

    new : Truth
    new = record { seen = with_step shard step old; made = kept.truth.made }

    own : (shard < kept.truth.made) × (steps_of shard mine.seen.steps ≡ steps_of shard old.steps)
    own = owned shards kept.truth mine f (Shard shard) part

    unmade : (k : ℕ) → kept.truth.made ≤ k → steps_of k new.seen.steps ≡ []
    unmade k h = other_steps_stay shard k step old.steps (λ (e : k ≡ shard). let made = own.0 in omega (arith, h, made, e)) ∙ kept.unmade k h

    others_own : (view : View) (p : Part) → (p ≡ Shard shard → ⊥) → OwnsItsPart kept.truth view p → OwnsItsPart new view p
    others_own view Caller n o = tt
    others_own view Store n o = o
    others_own view (Shard k) n o = (o.0, o.1 ∙ sym (other_steps_stay shard k step old.steps (λ (e : k ≡ shard). n (ap Shard e))))

    others : (j : ℕ) (view : View) → j ≢ id → get_elem? views j ≡ some view → Fits shards new view
    others j view apart there =
        let g = kept.fits j view there in
        fits_more shards kept.truth new view (step_goes_on shard step old) g
        (others_own view view.part (λ (is : view.part ≡ Shard shard). apart (kept.once j id view mine there at_id (is ∙ sym part) (subst IsOwned (sym is) tt))) g.whole)

    seen_whole : step ∷ steps_of shard mine.seen.steps ≡ steps_of shard new.seen.steps
    seen_whole = ap (λ l. step ∷ l) own.1 ∙ sym (steps_with_step shard step old.steps)

    here : Fits shards new after
    here = record {
      beginning = record {
        events = f.beginning.events;
        failures = f.beginning.failures;
        stopped = f.beginning.stopped;
        steps = each_with_step (λ k list. IsStart list (steps_of k new.seen.steps)) shard step mine.seen.steps
            (start_is (step ∷ steps_of shard mine.seen.steps) (steps_of shard new.seen.steps) seen_whole)
            (λ k n. start_trans (steps_of k mine.seen.steps) (steps_of k old.steps) (steps_of k new.seen.steps) (f.beginning.steps k) (steps_go_on shard step old.steps k));
      };
      sound = sound_with_step shards mine.seen shard step f.sound borne_out;
      begun = tt;
      whole = subst (OwnsItsPart new after) (sym part) (own.0, steps_with_step shard step mine.seen.steps ∙ seen_whole);
    }

-- the same, told by the seat's part
pub kept_with_own_step : (shards : ℕ) (words : List ℕ) (views : List View) (id : ℕ) (mine : View) (step : Short) → Kept shards words views
    → get_elem? views id ≡ some mine → IsShard mine.part → IsBorneOut mine.seen.events step → Kept shards words (set views id (view_with_step step mine))
kept_with_own_step shards words views id mine step kept at_id shard borne_out = by mine.part refl shard
  where
    by : (p : Part) → mine.part ≡ p → IsShard p → Kept shards words (set views id (view_with_step step mine))
    by Caller e h = absurd h
    by Store e h = absurd h
    by (Shard n) e h =
        subst (λ k. Kept shards words (set views id (view_that_saw (with_step k step mine.seen) mine))) (sym (ap shard_number e))
        (kept_with_step shards words views id mine n step kept at_id e borne_out)
