-- What has to be seen before a quarantine is ended.
use Rattle.std.specs.Prelude.{ℕ, ◌≡◌, true}
use Rattle.rows_model.specs.Rows.{Tables}
use Rattle.key_shard.specs.declared.replies.How.{How}
use Rattle.key_shard.specs.declared.replies.How.TheVariants as hows
use Rattle.key_shard.specs.Permit.{Permit}
use Rattle.log_word.specs.declared.seen.Seen.{Seen}
use Rattle.log_word.specs.Events.{is_over}
use Rattle.key_freshness.specs.Known.{IsAmong}
use Rattle.bound_hub.specs.Knowns.{ended_of}
use Rattle.bound_hub.specs.Writes.{MayShift}

-- A pass that has seen this may have the quarantine of a grant ended so: with the value kept where the
-- session was ended without a commit, with the value dropped where the session is over, and with the value
-- shifted where the session committed so.
abbrev pub MayRelease : Tables → ℕ → ℕ → Permit → How → Seen → Type 0
MayRelease opening shards number grant hows.Keep seen = IsAmong grant.sid.number (ended_of seen.events)
MayRelease opening shards number grant hows.Drop seen = is_over grant.sid.number seen.events ≡ true
MayRelease opening shards number grant (hows.Shift stamp) seen =
    MayShift opening shards number grant.key grant.sid.number grant.token stamp seen
