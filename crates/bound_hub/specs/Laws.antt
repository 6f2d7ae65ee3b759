-- What the lists that a pass has seen say of a key.
use Rattle.std.specs.Prelude.{ℕ, ◌≡◌, Bool, true, false, List}
use Rattle.rows_model.specs.declared.keys.QKey.{QKey}
use Rattle.rows_model.specs.Placement.{shard_of}
use Rattle.key_shard.specs.declared.steps.Step.{Step}
use Rattle.key_shard.specs.Permit.{Permit}
use Rattle.log_word.specs.declared.events.ShortKind.TheVariants as kinds
use Rattle.log_word.specs.Events.{may_write}
use Rattle.log_word.specs.declared.seen.Seen.{Seen}
use Rattle.log_word.specs.Lists.{steps_of}
use Rattle.log_word.specs.Steps.{IsSound, IsBeginning}
use Rattle.key_freshness.specs.Marks.{marks_of}
use Rattle.key_freshness.specs.Known.{IsRuled, IsMore, IsOver}
use Rattle.bound_hub.specs.Shorts.{short, shorts_of}
use Rattle.bound_hub.specs.Knowns.{known_of}
use Rattle.bound_hub.specs.Gets.{IsLastStep}
use Rattle.bound_hub.specs.Stores.{is_open_by, IsGrantSeen}

-- Where what is seen is sound, and the steps that are seen of the key's shard are these in short, the
-- marks of the key keep its rule.
abbrev pub KeysAreRuled : Type 0
KeysAreRuled =
    (shards : ℕ) (seen : Seen) (key : QKey) (before more : List Step) → IsSound shards seen
    → steps_of (shard_of key shards) seen.steps ≡ shorts_of before more
    → IsRuled key (marks_of key more) (known_of seen.events)

-- What was known at a beginning is a beginning of what is known.
abbrev pub MoreIsKnown : Type 0
MoreIsKnown = (old new : Seen) → IsBeginning old new → IsMore (known_of old.events) (known_of new.events)

-- Where what is seen is sound, a session that has begun for writing, and isn't open by the events, is over by them.
abbrev pub ClosedAreOver : Type 0
ClosedAreOver =
    (shards : ℕ) (seen : Seen) (who : ℕ) → IsSound shards seen → may_write who seen.events ≡ true
    → is_open_by who seen.events ≡ false → IsOver (known_of seen.events) who

-- Where the step that gave a grant is the last of the key's shard that is seen, it is seen, and so it is where more is.
abbrev pub GrantsAreSeen : Type 0
GrantsAreSeen =
    (shards token : ℕ) (has : Bool) (old new : Seen) (grant : Permit)
    → IsLastStep (shard_of grant.key shards) (short kinds.Granted grant.key grant.sid token 0 has) old
    → IsBeginning old new → IsGrantSeen shards new grant
