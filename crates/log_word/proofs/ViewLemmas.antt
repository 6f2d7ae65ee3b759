-- Beginnings of what is seen, and the views of all seats after one was changed or added.
use Rattle.std.proofs.Common.{◌≡◌, ◌≢◌, ◌⊎◌, ℕ, zero, suc, List, [], ◌∷◌, ◌++◌, length, set, Bool, true, false, ◌||◌, true≢false, refl, sym, ap, ◌∙◌, subst, inl, inr, ⊎_elim, arith}
use mathlib.Core.Option.{some, some-injective, some-ne-none}
use lib.ListN.{get_elem?}
use Rattle.atomic_table.proofs.Lists.{at_set}
use Rattle.log_word.specs.declared.events.StoreEvent.{StoreEvent}
use Rattle.log_word.specs.declared.events.Short.{Short}
use Rattle.log_word.specs.declared.seen.Seen.{Seen}
use Rattle.log_word.specs.declared.seen.View.{View}
use Rattle.log_word.specs.declared.seen.Part.{Part}
use Rattle.log_word.specs.Lists.{IsStart, steps_of}
use Rattle.log_word.specs.Steps.{IsBeginning}
use Rattle.log_word.specs.Rule.{Truth, Fits, OwnsItsPart, IsOwned}
use Rattle.log_word.specs.Views.{nothing_seen, with_event, with_failure, with_stop, with_step}
use Rattle.log_word.specs.Passes.{IsTogether}
use Rattle.log_word.proofs.StartLemmas.{start_same, start_none, start_one, start_trans, longer_is_start, first_starts_longer, second_starts_longer}
use Rattle.log_word.proofs.StepListLemmas.{steps_go_on}

pub beginning_same : (seen : Seen) → IsBeginning seen seen
beginning_same seen = record { events = start_same seen.events; failures = omega arith; stopped = λ e. e; steps = λ k. start_same (steps_of k seen.steps) }

pub beginning_trans : (first middle last : Seen) → IsBeginning first middle → IsBeginning middle last → IsBeginning first last
beginning_trans first middle last h k = record {
  events = start_trans first.events middle.events last.events h.events k.events;
  failures = let a = h.failures in let b = k.failures in omega (arith, a, b);
  stopped = λ e. k.stopped (h.stopped e);
  steps = λ shard. start_trans (steps_of shard first.steps) (steps_of shard middle.steps) (steps_of shard last.steps) (h.steps shard) (k.steps shard);
}

pub nothing_begins : (seen : Seen) → IsBeginning nothing_seen seen
nothing_begins seen = record { events = start_none seen.events; failures = omega arith; stopped = λ e. absurd (true≢false (sym e)); steps = λ k. start_none (steps_of k seen.steps) }

pub event_goes_on : (event : StoreEvent) (seen : Seen) → IsBeginning seen (with_event event seen)
event_goes_on event seen = record { events = start_one event seen.events; failures = omega arith; stopped = λ e. e; steps = λ k. start_same (steps_of k seen.steps) }

pub failure_goes_on : (seen : Seen) → IsBeginning seen (with_failure seen)
failure_goes_on seen = record { events = start_same seen.events; failures = omega arith; stopped = λ e. e; steps = λ k. start_same (steps_of k seen.steps) }

pub step_goes_on : (shard : ℕ) (step : Short) (seen : Seen) → IsBeginning seen (with_step shard step seen)
step_goes_on shard step seen = record { events = start_same seen.events; failures = omega arith; stopped = λ e. e; steps = steps_go_on shard step seen.steps }

either_first : (a b : Bool) → a ≡ true → (a || b) ≡ true
either_first true b e = refl
either_first false b e = absurd (true≢false (sym e))

pub stop_goes_on : (stopped : Bool) (seen : Seen) → IsBeginning seen (with_stop stopped seen)
stop_goes_on stopped seen = record {
  events = start_same seen.events;
  failures = omega arith;
  stopped = λ e. either_first seen.stopped stopped e;
  steps = λ k. start_same (steps_of k seen.steps);
}

either_second : (a b : Bool) → b ≡ true → (a || b) ≡ true
either_second true b e = refl
either_second false b e = e

either_of : (a b : Bool) → (a || b) ≡ true → (a ≡ true) ⊎ (b ≡ true)
either_of true b e = inl refl
either_of false b e = inr e

module _ (one other new truth : Seen) (is : IsTogether one other new) (h : IsBeginning one truth) (k : IsBeginning other truth) where
  -- two beginnings of what happened begin what they are together, and that begins what happened
  pub first_begins_both : IsBeginning one new
  first_begins_both = record {
    events = subst (IsStart one.events) (sym is.events) (first_starts_longer one.events other.events truth.events h.events k.events);
    failures = let e = is.failures in omega (arith, e);
    stopped = λ e. is.stopped ∙ either_first one.stopped other.stopped e;
    steps = λ shard.
        subst (IsStart (steps_of shard one.steps)) (sym (is.steps shard))
        (first_starts_longer (steps_of shard one.steps) (steps_of shard other.steps) (steps_of shard truth.steps) (h.steps shard) (k.steps shard));
  }

  pub second_begins_both : IsBeginning other new
  second_begins_both = record {
    events = subst (IsStart other.events) (sym is.events) (second_starts_longer one.events other.events truth.events h.events k.events);
    failures = let e = is.failures in omega (arith, e);
    stopped = λ e. is.stopped ∙ either_second one.stopped other.stopped e;
    steps = λ shard.
        subst (IsStart (steps_of shard other.steps)) (sym (is.steps shard))
        (second_starts_longer (steps_of shard one.steps) (steps_of shard other.steps) (steps_of shard truth.steps) (h.steps shard) (k.steps shard));
  }

  pub both_begin_truth : IsBeginning new truth
  both_begin_truth = record {
    events = subst (λ l. IsStart l truth.events) (sym is.events) (longer_is_start one.events other.events truth.events h.events k.events);
    failures = let e = is.failures in let a = h.failures in let b = k.failures in omega (arith, e, a, b);
    stopped = λ e. ⊎_elim h.stopped k.stopped (either_of one.stopped other.stopped (sym is.stopped ∙ e));
    steps = λ shard.
        subst (λ l. IsStart l (steps_of shard truth.steps)) (sym (is.steps shard))
        (longer_is_start (steps_of shard one.steps) (steps_of shard other.steps) (steps_of shard truth.steps) (h.steps shard) (k.steps shard));
  }

-- a view that has its part whole still fits where more has happened
pub fits_more : (shards : ℕ) (old new : Truth) (view : View) → IsBeginning old.seen new.seen → Fits shards old view → OwnsItsPart new view view.part → Fits shards new view
fits_more shards old new view goes_on fits whole = record {
  beginning = beginning_trans view.seen old.seen new.seen fits.beginning goes_on;
  sound = fits.sound;
  begun = fits.begun;
  whole = whole;
}

-- what a seat owns, told by its part
pub owned : (shards : ℕ) (truth : Truth) (view : View) → Fits shards truth view → (p : Part) → view.part ≡ p → OwnsItsPart truth view p
owned shards truth view fits p e = subst (OwnsItsPart truth view) e fits.whole

-- each view after one was changed
pub each_set : (views : List View) (id : ℕ) (new : View) (F : View → Type 0) → ((j : ℕ) (view : View) → j ≢ id → get_elem? views j ≡ some view → F view)
    → F new → (j : ℕ) (view : View) → get_elem? (set views id new) j ≡ some view → F view
each_set views id new F others mine j view e =
    ⊎_elim
    (λ (x : (j ≡ id) × (new ≡ view)). subst F x.1 mine)
    (λ (x : (j ≢ id) × (get_elem? views j ≡ some view)). others j view x.0 x.1)
    (at_set views id j new view e)

-- the store has one seat, and each shard has one
abbrev pub Once : List View → Type 0
Once views = (a b : ℕ) (one other : View) → get_elem? views a ≡ some one → get_elem? views b ≡ some other → one.part ≡ other.part → IsOwned one.part → a ≡ b

-- that stays where a view's part stays
pub once_set : (views : List View) (id : ℕ) (old new : View) → get_elem? views id ≡ some old → old.part ≡ new.part → Once views → Once (set views id new)
once_set views id old new at_id same once a b x y ea eb e own =
    let p = was a x ea in
    let q = was b y eb in
    once a b p.0 q.0 p.1 q.1 (p.2 ∙ e ∙ sym q.2) (subst IsOwned (sym p.2) own)
  where
    was : (j : ℕ) (x : View) → get_elem? (set views id new) j ≡ some x → (u : View) × (get_elem? views j ≡ some u) × (u.part ≡ x.part)
    was j x e =
        ⊎_elim
        (λ (t : (j ≡ id) × (new ≡ x)). (old, subst (λ k. get_elem? views k ≡ some old) (sym t.0) at_id, same ∙ ap (λ u. u.part) t.1))
        (λ (t : (j ≢ id) × (get_elem? views j ≡ some x)). (x, t.1, refl))
        (at_set views id j new x e)

-- a seat that owns nothing may take any place
pub once_spent : (views : List View) (id : ℕ) (new : View) → (IsOwned new.part → ⊥) → Once views → Once (set views id new)
once_spent views id new nothing once a b x y ea eb e own =
    once a b x y (was a x own ea) (was b y (subst IsOwned e own) eb) e own
  where
    was : (j : ℕ) (x : View) → IsOwned x.part → get_elem? (set views id new) j ≡ some x → get_elem? views j ≡ some x
    was j x owns e =
        ⊎_elim
        (λ (t : (j ≡ id) × (new ≡ x)). absurd (nothing (subst (λ u. IsOwned u.part) (sym t.1) owns)))
        (λ (t : (j ≢ id) × (get_elem? views j ≡ some x)). t.1)
        (at_set views id j new x e)

at_end : (views : List View) (new view : View) (j : ℕ) → get_elem? (views ++ new ∷ []) j ≡ some view → (get_elem? views j ≡ some view) ⊎ ((j ≡ length views) × (new ≡ view))
at_end [] new view zero e = inr (refl, some-injective new view e)
at_end [] new view (suc j) e = absurd (some-ne-none view (sym e))
at_end (x ∷ xs) new view zero e = inl e
at_end (x ∷ xs) new view (suc j) e = ⊎_elim (λ t. inl t) (λ t. inr (ap suc t.0, t.1)) (at_end xs new view j e)

-- a seat beside the others, of a part that no other owns
pub once_more : (views : List View) (new : View) → ((j : ℕ) (view : View) → get_elem? views j ≡ some view → view.part ≡ new.part → IsOwned new.part → ⊥)
    → Once views → Once (views ++ new ∷ [])
once_more views new fresh once a b x y ea eb e own = by (at_end views new x a ea) (at_end views new y b eb)
  where
    by : (get_elem? views a ≡ some x) ⊎ ((a ≡ length views) × (new ≡ x)) → (get_elem? views b ≡ some y) ⊎ ((b ≡ length views) × (new ≡ y)) → a ≡ b
    by (inl p) (inl q) = once a b x y p q e own
    by (inl p) (inr q) = absurd (fresh a x p (e ∙ sym (ap (λ u. u.part) q.1)) (subst IsOwned (e ∙ sym (ap (λ u. u.part) q.1)) own))
    by (inr p) (inl q) = absurd (fresh b y q (sym e ∙ sym (ap (λ u. u.part) p.1)) (subst IsOwned (sym (ap (λ u. u.part) p.1)) own))
    by (inr p) (inr q) = p.0 ∙ sym q.0

-- each view with one more
pub each_more : (views : List View) (new : View) (F : View → Type 0) → ((j : ℕ) (view : View) → get_elem? views j ≡ some view → F view)
    → F new → (j : ℕ) (view : View) → get_elem? (views ++ new ∷ []) j ≡ some view → F view
each_more views new F others mine j view e = ⊎_elim (λ t. others j view t) (λ t. subst F t.1 mine) (at_end views new view j e)
