-- The start, and the steps of the store's seat on the word, keep the rule.
use Rattle.std.proofs.Common.{◌≡◌, ◌≢◌, ℕ, zero, suc, ◌+◌, ◌≤◌, Bool, ◌||◌, ◌%◌, ◌^◌, List, [], ◌∷◌, length, set, refl, sym, ap, ◌∙◌, subst, arith, add-one}
use Rattle.std.specs.Prelude.{slice_index}
use Rattle.std.proofs.Math.Nat.{mod-add-mod}
use mathlib.Core.Option.{some, some-injective, some-ne-none}
use lib.ListN.{get_elem?}
use Rattle.log_word.specs.declared.events.StoreEvent.{StoreEvent}
use Rattle.log_word.specs.declared.seen.Seen.{Seen}
use Rattle.log_word.specs.declared.seen.View.{View}
use Rattle.log_word.specs.declared.seen.Part.{Part}
use Rattle.log_word.specs.declared.seen.Part.TheVariants.{Caller, Store, Shard}
use Rattle.log_word.specs.Events.{MayFollow}
use Rattle.log_word.specs.Lists.{steps_of}
use Rattle.log_word.specs.Steps.{IsGranted, IsSound, IsBeginning}
use Rattle.log_word.specs.Rule.{Truth, OwnsItsPart, IsOwned, Fits, Kept}
use Rattle.log_word.specs.Views.{nothing_seen, with_event, with_failure, with_stop, view_that_saw, view_with_event, view_with_failure, view_with_stop, store_view, spent_view}
use Rattle.log_word.proofs.StartLemmas.{start_is}
use Rattle.log_word.proofs.SoundLemmas.{nothing_is_sound, sound_with_event, sound_by_parts}
use Rattle.log_word.proofs.ViewLemmas.{nothing_begins, event_goes_on, failure_goes_on, stop_goes_on, fits_more, owned, each_set, Once, once_set}

-- a seat that has seen nothing fits whatever happened
pub spent_fits : (shards : ℕ) (truth : Truth) → Fits shards truth spent_view
spent_fits shards truth = record { beginning = nothing_begins truth.seen; sound = nothing_is_sound shards; begun = tt; whole = tt }

abbrev at_first : Truth
at_first = record { seen = nothing_seen; made = 0 }

-- the start
pub opens : (shards : ℕ) → Kept shards (0 ∷ []) (store_view shards ∷ [])
opens shards = record { truth = at_first; word = refl; unmade = λ shard _. refl; fits = one; once = same }
  where
    one : (id : ℕ) (view : View) → get_elem? (store_view shards ∷ []) id ≡ some view → Fits shards at_first view
    one zero view e =
        subst (Fits shards at_first) (some-injective _ _ e)
        (record { beginning = nothing_begins nothing_seen; sound = nothing_is_sound shards; begun = tt; whole = (refl, refl, refl, refl) })
    one (suc id) view e = absurd (some-ne-none view (sym e))

    same : Once (store_view shards ∷ [])
    same zero zero x y ex ey e own = refl
    same zero (suc b) x y ex ey e own = absurd (some-ne-none y (sym ey))
    same (suc a) b x y ex ey e own = absurd (some-ne-none x (sym ex))

-- the word after it was counted up, and after a load
counted : (words : List ℕ) (n : ℕ) → words ≡ (n % 2 ^ 64) ∷ [] → set words 0 ((slice_index words 0 + 1) % 2 ^ 64) ≡ (suc n % 2 ^ 64) ∷ []
counted words n e =
    ap (λ ws. set ws 0 ((slice_index ws 0 + 1) % 2 ^ 64)) e ∙ ap (λ k. k ∷ []) (mod-add-mod n (2 ^ 64) 1 ∙ ap (λ k. k % 2 ^ 64) (add-one n))

same_word : (words : List ℕ) (n : ℕ) → words ≡ (n % 2 ^ 64) ∷ [] → set words 0 (slice_index words 0) ≡ (n % 2 ^ 64) ∷ []
same_word words n e = ap (λ ws. set ws 0 (slice_index ws 0)) e

pub kept_after_load : (shards : ℕ) (words : List ℕ) (views : List View) → Kept shards words views → Kept shards (set words 0 (slice_index words 0)) views
kept_after_load shards words views kept = record {
  truth = kept.truth;
  word = same_word words (length kept.truth.seen.events) kept.word;
  unmade = kept.unmade;
  fits = kept.fits;
  once = kept.once;
}

-- another seat than the store's owns what it owned, where the shards' steps stay
pub others_own : (old new : Truth) → ((shard : ℕ) → steps_of shard new.seen.steps ≡ steps_of shard old.seen.steps) → old.made ≤ new.made
    → (view : View) (part : Part) → (part ≡ Store → ⊥) → OwnsItsPart old view part → OwnsItsPart new view part
others_own old new steps made view Caller n o = tt
others_own old new steps made view Store n o = absurd (n refl)
others_own old new steps made view (Shard shard) n o = (let h = o.0 in omega (arith, h, made), o.1 ∙ sym (steps shard))

-- the store's seat sees more of the store, and the rule holds of what happened then
module _ (shards : ℕ) (views : List View) (id : ℕ) (mine : View) (old : Truth) (fits : (j : ℕ) (view : View) → get_elem? views j ≡ some view → Fits shards old view)
    (once : Once views) (at_id : get_elem? views id ≡ some mine) (store : mine.part ≡ Store) where
  pub store_alone : (j : ℕ) (view : View) → j ≢ id → get_elem? views j ≡ some view → view.part ≡ Store → ⊥
  store_alone j view apart there is = apart (once j id view mine there at_id (is ∙ sym store) (subst IsOwned (sym is) tt))

  pub others_fit : (new : Truth) → IsBeginning old.seen new.seen → ((shard : ℕ) → steps_of shard new.seen.steps ≡ steps_of shard old.seen.steps) → old.made ≤ new.made
      → (j : ℕ) (view : View) → j ≢ id → get_elem? views j ≡ some view → Fits shards new view
  others_fit new goes_on steps made j view apart there =
      let f = fits j view there in
      fits_more shards old new view goes_on f (others_own old new steps made view view.part (store_alone j view apart there) f.whole)

  pub fits_after : (new : Seen) → IsBeginning old.seen new → ((shard : ℕ) → steps_of shard new.steps ≡ steps_of shard old.seen.steps) → (seen : Seen) → IsBeginning seen new → IsSound shards seen
      → (seen.events ≡ new.events) × (seen.failures ≡ new.failures) × (seen.stopped ≡ new.stopped)
      → (j : ℕ) (view : View) → get_elem? (set views id (view_that_saw seen mine)) j ≡ some view → Fits shards (record { seen = new; made = old.made }) view
  fits_after new goes_on steps seen begins sound whole =
      each_set views id (view_that_saw seen mine) (Fits shards (record { seen = new; made = old.made }))
      (others_fit (record { seen = new; made = old.made }) goes_on steps (omega arith))
      (record {
        beginning = begins;
        sound = sound;
        begun = tt;
        whole = subst (OwnsItsPart (record { seen = new; made = old.made }) (view_that_saw seen mine))
            (sym store) (whole.0, whole.1, whole.2, (owned shards old mine (fits id mine at_id) Store store).3);
      })

-- the store's seat gets an event, and the word is counted up
pub kept_with_event : (shards : ℕ) (words : List ℕ) (views : List View) (id : ℕ) (mine : View) (event : StoreEvent) → Kept shards words views → get_elem? views id ≡ some mine
    → mine.part ≡ Store → MayFollow mine.seen.events event → IsGranted shards mine.seen.steps event
    → Kept shards (set words 0 ((slice_index words 0 + 1) % 2 ^ 64)) (set views id (view_with_event event mine))
kept_with_event shards words views id mine event kept at_id store follows granted =
    let old = kept.truth in
    let f = kept.fits id mine at_id in
    let o = owned shards old mine f Store store in
    let new : Seen = with_event event old.seen in
    record {
      truth = record { seen = new; made = old.made };
      word = counted words (length old.seen.events) kept.word;
      unmade = kept.unmade;
      fits = fits_after shards views id mine old kept.fits kept.once at_id store new (event_goes_on event old.seen) (λ shard. refl) (with_event event mine.seen)
          (record {
            events = start_is (event ∷ mine.seen.events) (event ∷ old.seen.events) (ap
                (λ l. event ∷ l) o.0);
            failures = f.beginning.failures;
            stopped = f.beginning.stopped;
            steps = f.beginning.steps;
          })
          (sound_with_event shards mine.seen event f.sound follows granted)
          (ap (λ l. event ∷ l) o.0, o.1, o.2);
      once = once_set views id mine (view_with_event event mine) at_id refl kept.once;
    }

-- the store's seat counts a call that the keeper failed
pub kept_with_failure : (shards : ℕ) (words : List ℕ) (views : List View) (id : ℕ) (mine : View) → Kept shards words views → get_elem? views id ≡ some mine
    → mine.part ≡ Store → Kept shards words (set views id (view_with_failure mine))
kept_with_failure shards words views id mine kept at_id store =
    let old = kept.truth in
    let f = kept.fits id mine at_id in
    let o = owned shards old mine f Store store in
    let new : Seen = with_failure old.seen in
    record {
      truth = record { seen = new; made = old.made };
      word = kept.word;
      unmade = kept.unmade;
      fits = fits_after shards views id mine old kept.fits kept.once at_id store new (failure_goes_on old.seen) (λ shard. refl) (with_failure mine.seen)
          (record { events = f.beginning.events; failures = (let few = f.beginning.failures in omega (arith, few)); stopped = f.beginning.stopped; steps = f.beginning.steps })
          (sound_by_parts shards mine.seen (with_failure mine.seen) refl refl f.sound)
          (o.0, ap suc o.1, o.2);
      once = once_set views id mine (view_with_failure mine) at_id refl kept.once;
    }

-- the store's seat sees whether the store has stopped telling its rows
pub kept_with_stop : (shards : ℕ) (words : List ℕ) (views : List View) (id : ℕ) (mine : View) (stopped : Bool) → Kept shards words views → get_elem? views id ≡ some mine
    → mine.part ≡ Store → Kept shards words (set views id (view_with_stop stopped mine))
kept_with_stop shards words views id mine stopped kept at_id store =
    let old = kept.truth in
    let f = kept.fits id mine at_id in
    let o = owned shards old mine f Store store in
    let new : Seen = with_stop stopped old.seen in
    record {
      truth = record { seen = new; made = old.made };
      word = kept.word;
      unmade = kept.unmade;
      fits = fits_after shards views id mine old kept.fits kept.once at_id store new (stop_goes_on stopped old.seen) (λ shard. refl) (with_stop stopped mine.seen)
          (record { events = f.beginning.events; failures = f.beginning.failures; stopped = λ e. sym (ap (λ b. b || stopped) o.2) ∙ e; steps = f.beginning.steps })
          (sound_by_parts shards mine.seen (with_stop stopped mine.seen) refl refl f.sound)
          (o.0, o.1, ap (λ b. b || stopped) o.2);
      once = once_set views id mine (view_with_stop stopped mine) at_id refl kept.once;
    }
