-- What follows from what a pass or a note has seen.
use Rattle.std.specs.Prelude.{ℕ, ◌≡◌, ◌≤◌, true, false, List, ◌∷◌, ◌++◌}
use Rattle.rows_model.specs.declared.keys.Sid.{Sid}
use Rattle.rows_model.specs.declared.keys.QKey.{QKey}
use Rattle.rows_model.specs.declared.changes.Change.{Change}
use Rattle.rows_model.specs.Changes.{touches}
use Rattle.rows_model.specs.Placement.{shard_of}
use Rattle.log_word.specs.declared.events.StoreEvent.{StoreEvent}
use Rattle.log_word.specs.declared.events.StoreEvent.TheVariants.{Commit}
use Rattle.log_word.specs.declared.events.Short.{Short}
use Rattle.log_word.specs.declared.seen.Seen.{Seen}
use Rattle.log_word.specs.Events.{begins, closes, has_begun, may_write, is_over, IsOpen, commit_count, AreInOrder}
use Rattle.log_word.specs.Lists.{Among, steps_of}
use Rattle.log_word.specs.Steps.{is_grant, is_release, grants, IsSound, IsBeginning}

-- A session has one Begin: no other stands before it or behind it.
abbrev pub SessionsBeginOnce : Type 0
SessionsBeginOnce =
    (who : ℕ) (event : StoreEvent) (earlier later : List StoreEvent)
    → AreInOrder (later ++ event ∷ earlier)
    → begins who event ≡ true → (has_begun who earlier ≡ false) × (has_begun who later ≡ false)

-- A session has at most one Commit or End, and it stands after the session's Begin for writing.
abbrev pub SessionsCloseOnce : Type 0
SessionsCloseOnce =
    (who : ℕ) (event : StoreEvent) (earlier later : List StoreEvent)
    → AreInOrder (later ++ event ∷ earlier)
    → closes who event ≡ true
    → IsOpen who earlier × (is_over who later ≡ false)

-- A grant that is seen is of a session that is seen to have begun for writing.
abbrev pub GrantsHaveBegun : Type 0
GrantsHaveBegun =
    (shards shard : ℕ) (seen : Seen) (step : Short) → IsSound shards seen
    → Among step (steps_of shard seen.steps)
    → is_grant step.kind ≡ true → may_write step.sid.number seen.events ≡ true

-- A release that is seen is of a session that is seen to be over.
abbrev pub ReleasesAreOver : Type 0
ReleasesAreOver =
    (shards shard : ℕ) (seen : Seen) (step : Short) → IsSound shards seen
    → Among step (steps_of shard seen.steps)
    → is_release step.kind ≡ true → is_over step.sid.number seen.events ≡ true

-- As many commits are seen as the stamp of a step that is seen.
abbrev pub StampsAreCommitted : Type 0
StampsAreCommitted =
    (shards shard : ℕ) (seen : Seen) (step : Short) → IsSound shards seen
    → Among step (steps_of shard seen.steps)
    → step.stamp ≤ commit_count seen.events

-- Of each key that a seen commit touches, a grant to its session is seen.
abbrev pub CommitsWereGranted : Type 0
CommitsWereGranted =
    (shards : ℕ) (seen : Seen) (sid : Sid) (txn : List Change) (key : QKey) → IsSound shards seen
    → Among (Commit sid txn) seen.events → touches txn key ≡ true
    → (step : Short) × Among step (steps_of (shard_of key shards) seen.steps)
    × (grants key sid.number step ≡ true)

-- What was seen at first is a beginning of what is seen at last.
abbrev pub BeginningsGoOn : Type 0
BeginningsGoOn =
    (first middle last : Seen) → IsBeginning first middle → IsBeginning middle last → IsBeginning first last
