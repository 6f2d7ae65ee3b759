-- What a sweep's pass has seen of the quarantine that was found.
use Rattle.std.specs.Prelude.{◌≡◌, true, Option}
use Rattle.rows_model.specs.declared.keys.QKey.{QKey}
use Rattle.key_shard.specs.Past.{entry, standing}
use Rattle.key_shard.specs.Shards.{past_of}
use Rattle.log_word.specs.Steps.{IsBeginning}
use Rattle.bound_hub.specs.Ties.{BoundShardView}
use Rattle.std.specs.Option.{ForSome}
use Rattle.log_word.specs.declared.seen.Seen.{Seen}
use Rattle.log_word.specs.Events.{is_over}
use Rattle.bound_hub.specs.Sweeps.{HasSeenGrant}
use Rattle.bound_desk.specs.declared.sweeps.Found.{Found}

-- The pass has seen the grant of what was found, and that its session is over, once that was ended.
pub record IsFoundSeen (seen : Seen) (found : Found) : Type 0 where
  pub granted : HasSeenGrant found.place found.due.key found.due.sid.number found.due.token seen
  pub over : found.ended ≡ true → is_over found.due.sid.number seen.events ≡ true

abbrev pub AreSeen : Seen → Option Found → Type 0
AreSeen seen found = ForSome found (IsFoundSeen seen)

-- What a shard was made with, its entries and its quarantines are as before, and what was seen of it has gone on.
pub record StaysButLeases (old new : BoundShardView) : Type 0 where
  pub terms : new.shard.terms ≡ old.shard.terms
  pub entries : (key : QKey) → entry key (past_of new.shard) ≡ entry key (past_of old.shard)
  pub quarantines : (key : QKey) → standing key (past_of new.shard) ≡ standing key (past_of old.shard)
  pub seen : IsBeginning old.seen new.seen
