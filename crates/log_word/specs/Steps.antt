-- What a step of a shard asks of the store's events, and what a commit asks of the shards' steps.
use Rattle.std.specs.Prelude.{ℕ, ◌≡◌, ◌≤◌, ◌==◌, ◌&&◌, Bool, true, false, List}
use Rattle.std.specs.List.{list_any, AllByRecursion}
use Rattle.rows_model.specs.declared.keys.QKey.{QKey}
use Rattle.rows_model.specs.Key.{same_key}
use Rattle.rows_model.specs.Changes.{touches}
use Rattle.rows_model.specs.Placement.{shard_of}
use Rattle.log_word.specs.declared.events.StoreEvent.{StoreEvent}
use Rattle.log_word.specs.declared.events.StoreEvent.TheVariants.{Begin, Commit, End}
use Rattle.log_word.specs.declared.events.Short.{Short}
use Rattle.log_word.specs.declared.events.ShortKind.{ShortKind}
use Rattle.log_word.specs.declared.events.ShortKind.TheVariants as kinds
use Rattle.log_word.specs.declared.seen.Seen.{Seen}
use Rattle.log_word.specs.Events.{may_write, is_over, commit_count, AreInOrder}
use Rattle.log_word.specs.Lists.{IsStart, steps_of}

-- The step grants a quarantine.
abbrev pub is_grant : ShortKind → Bool
is_grant kinds.Granted = true
is_grant other = false

-- The step releases one.
abbrev pub is_release : ShortKind → Bool
is_release kinds.Kept = true
is_release kinds.Dropped = true
is_release kinds.Put = true
is_release kinds.Shifted = true
is_release other = false

-- The step grants the session a quarantine of the key.
abbrev pub grants : QKey → ℕ → Short → Bool
grants key who step = is_grant step.kind && same_key key step.key && (step.sid.number == who)

-- The events bear the step out: a grant is of a session that began for writing, a release of one
-- that is over, and the stamp is at most the number of commits.
pub record IsBorneOut (events : List StoreEvent) (step : Short) : Type 0 where
  pub begun : is_grant step.kind ≡ true → may_write step.sid.number events ≡ true
  pub over : is_release step.kind ≡ true → is_over step.sid.number events ≡ true
  pub stamped : step.stamp ≤ commit_count events

-- The steps bear the event out: of each key that a commit touches, its session was granted a
-- quarantine.
abbrev pub IsGranted : ℕ → List (List Short) → StoreEvent → Type 0
IsGranted shards steps (Begin sid worker writes) = Unit {0}
IsGranted shards steps (Commit sid txn) =
    (key : QKey) → touches txn key ≡ true
    → list_any (grants key sid.number) (steps_of (shard_of key shards) steps) ≡ true
IsGranted shards steps (End sid) = Unit {0}

-- What is seen is sound: the events are in order, and events and steps bear one another out.
pub record IsSound (shards : ℕ) (seen : Seen) : Type 0 where
  pub in_order : AreInOrder seen.events
  pub borne_out : (shard : ℕ) → AllByRecursion (IsBorneOut seen.events) (steps_of shard seen.steps)
  pub granted : AllByRecursion (IsGranted shards seen.steps) seen.events

-- What was seen is a beginning of what is seen now.
pub record IsBeginning (old new : Seen) : Type 0 where
  pub events : IsStart old.events new.events
  pub failures : old.failures ≤ new.failures
  pub stopped : old.stopped ≡ true → new.stopped ≡ true
  pub steps : (shard : ℕ) → IsStart (steps_of shard old.steps) (steps_of shard new.steps)
