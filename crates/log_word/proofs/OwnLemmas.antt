-- What a seat has after a join: of its own part all as before, and else what both had seen together.
use Rattle.std.proofs.Common.{◌≡◌, ◌≤◌, ℕ, Bool, true, false, ◌||◌, refl, sym, ◌∙◌, subst, arith}
use Rattle.log_word.specs.declared.seen.Seen.{Seen}
use Rattle.log_word.specs.declared.seen.Part.{Part}
use Rattle.log_word.specs.declared.seen.Part.TheVariants.{Caller, Store, Shard}
use Rattle.log_word.specs.Lists.{IsStart, steps_of}
use Rattle.log_word.specs.Steps.{IsBeginning}
use Rattle.log_word.specs.Views.{joined}
use Rattle.log_word.specs.Passes.{IsTogether}
use Rattle.log_word.proofs.StartLemmas.{longer_of_none, longer_is_whole}
use Rattle.log_word.proofs.StepListLemmas.{steps_of_longer_each, own_left_out_is_longer, own_steps_stay}

either_none : (a : Bool) → (a || false) ≡ a
either_none true = refl
either_none false = refl

-- what is known already adds nothing
either_known : (a b : Bool) → (b ≡ true → a ≡ true) → a ≡ (a || b)
either_known true b h = refl
either_known false true h = h refl
either_known false false h = refl

-- the other has seen no more of the part than the seat that owns it
abbrev pub HasNoMore : Part → Seen → Seen → Type 0
HasNoMore Caller mine other = Unit {0}
HasNoMore Store mine other =
    IsStart other.events mine.events × (other.failures ≤ mine.failures) × (other.stopped ≡ true → mine.stopped ≡ true)
HasNoMore (Shard shard) mine other = IsStart (steps_of shard other.steps) (steps_of shard mine.steps)

pub joined_is_together : (part : Part) (mine other : Seen) → HasNoMore part mine other → IsTogether mine other (joined part mine other)
joined_is_together Caller mine other h = record { events = refl; failures = refl; stopped = refl; steps = steps_of_longer_each mine.steps other.steps }
joined_is_together Store mine other h = record {
  events = longer_of_none mine.events ∙ sym (longer_is_whole mine.events other.events h.0);
  failures = let few = h.1 in omega (arith, few);
  stopped = either_none mine.stopped ∙ either_known mine.stopped other.stopped h.2;
  steps = steps_of_longer_each mine.steps other.steps;
}
joined_is_together (Shard shard) mine other h = record {
  events = refl;
  failures = refl;
  stopped = refl;
  steps = own_left_out_is_longer shard mine.steps other.steps h;
}

-- of its own part a seat keeps what it had, whatever the other has
pub store_keeps_events : (mine other : Seen) → (joined Store mine other).events ≡ mine.events
store_keeps_events mine other = longer_of_none mine.events

pub store_keeps_failures : (mine other : Seen) → (joined Store mine other).failures ≡ mine.failures
store_keeps_failures mine other = omega arith

pub store_keeps_stopped : (mine other : Seen) → (joined Store mine other).stopped ≡ mine.stopped
store_keeps_stopped mine other = either_none mine.stopped

pub shard_keeps_steps : (shard : ℕ) (mine other : Seen) → steps_of shard (joined (Shard shard) mine other).steps ≡ steps_of shard mine.steps
shard_keeps_steps shard mine other = own_steps_stay shard mine.steps other.steps

-- where the other's is a beginning of what is seen after the join, the other had no more
pub begun_has_no_more : (part : Part) (mine other : Seen) → IsBeginning other (joined part mine other) → HasNoMore part mine other
begun_has_no_more Caller mine other h = tt
begun_has_no_more Store mine other h = (
  subst (IsStart other.events) (store_keeps_events mine other) h.events,
  (let a : other.failures ≤ (joined Store mine other).failures = h.failures in let e : (joined Store mine other).failures ≡ mine.failures = store_keeps_failures mine other in omega (arith, a, e)),
  λ e. sym (store_keeps_stopped mine other) ∙ h.stopped e,
)
begun_has_no_more (Shard shard) mine other h = subst (IsStart (steps_of shard other.steps)) (shard_keeps_steps shard mine other) (h.steps shard)
