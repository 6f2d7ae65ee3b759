-- The rule that the word and all seats keep.
use Rattle.std.specs.Prelude.{ℕ, ◌≡◌, ◌≤◌, ◌<◌, ◌%◌, ◌^◌, List, [], ◌∷◌, length}
use Rattle.std.specs.List.{AllByRecursion}
use mathlib.Core.Option.{some}
use lib.ListN.{get_elem?}
use Rattle.log_word.specs.declared.seen.Seen.{Seen}
use Rattle.log_word.specs.declared.seen.View.{View}
use Rattle.log_word.specs.declared.seen.Part.{Part}
use Rattle.log_word.specs.declared.seen.Part.TheVariants.{Caller, Store, Shard}
use Rattle.log_word.specs.Lists.{steps_of}
use Rattle.log_word.specs.Steps.{IsSound, IsBeginning}

-- What happened: all that could be seen, and how many shards have their seat.
pub record Truth : Type 0 where
  pub seen : Seen
  pub made : ℕ

-- A seat that owns a part has seen it whole: the store's seat the events, the failed calls and
-- whether the store stopped telling, a shard's seat the steps of its shard.
abbrev pub OwnsItsPart : Truth → View → Part → Type 0
OwnsItsPart truth view Caller = Unit {0}
OwnsItsPart truth view Store =
    (view.seen.events ≡ truth.seen.events) × (view.seen.failures ≡ truth.seen.failures)
    × (view.seen.stopped ≡ truth.seen.stopped) × (view.made ≡ truth.made)
OwnsItsPart truth view (Shard shard) =
    (shard < truth.made) × (steps_of shard view.seen.steps ≡ steps_of shard truth.seen.steps)

-- The part has an owner: a caller's has none.
abbrev pub IsOwned : Part → Type 0
IsOwned Caller = ⊥
IsOwned Store = Unit {0}
IsOwned (Shard shard) = Unit {0}

-- The part is a shard.
abbrev pub IsShard : Part → Type 0
IsShard Caller = ⊥
IsShard Store = ⊥
IsShard (Shard shard) = Unit {0}

-- What was kept at a join is a beginning of what is seen now.
abbrev pub HasBegun : View → Type 0
HasBegun view = AllByRecursion (λ old. IsBeginning old view.seen) view.olds

-- A view fits what happened: it has seen a beginning of it, which is sound, and its own part whole.
pub record Fits (shards : ℕ) (truth : Truth) (view : View) : Type 0 where
  pub beginning : IsBeginning view.seen truth.seen
  pub sound : IsSound shards view.seen
  pub begun : HasBegun view
  pub whole : OwnsItsPart truth view view.part

-- The rule: the word counts the store's events, modulo 2^64; a shard without a seat made no step; each
-- view fits what happened; the store has one seat, and each shard has one.
pub record Kept (shards : ℕ) (words : List ℕ) (views : List View) : Type 0 where
  pub truth : Truth
  pub word : words ≡ (length truth.seen.events % 2 ^ 64) ∷ []
  pub unmade : (shard : ℕ) → truth.made ≤ shard → steps_of shard truth.seen.steps ≡ []
  pub fits : (id : ℕ) (view : View) → get_elem? views id ≡ some view → Fits shards truth view
  pub once : (a b : ℕ) (one other : View) → get_elem? views a ≡ some one
      → get_elem? views b ≡ some other → one.part ≡ other.part → IsOwned one.part → a ≡ b
