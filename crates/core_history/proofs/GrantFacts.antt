-- What holds of leases, quarantines and grants after any moves, whatever the keeper says.
use Rattle.std.specs.Prelude.{ℕ, ◌≡◌, ◌<◌, ◌≤◌, true, false, All, count_by, Some, slice_get}
use Rattle.std.specs.List.{list_any}
use Rattle.rows_model.specs.declared.keys.QKey.{QKey}
use Rattle.rows_model.specs.declared.keys.Sid.{Sid}
use Rattle.rows_model.specs.Placement.{shard_of}
use Rattle.key_shard.specs.Permit.{Permit, same_permit}
use Rattle.key_shard.specs.declared.replies.Got.TheVariants as got
use Rattle.lease_table.specs.declared.records.Mode.TheVariants.{Refresh}
use Rattle.lease_table.specs.declared.records.Quar.{Quar}
use Rattle.key_shard.specs.Answers.{IsLegalPast}
use Rattle.key_shard.specs.Past.{quar_of}
use Rattle.expiry_sweeper.specs.declared.replies.SweepWanted.TheVariants as sweep
use Rattle.session_client.specs.Wants.{Given, given}
use Rattle.sql_keeper.specs.Fresh.{quarantines}
use Rattle.session_client.specs.declared.plans.Shape.{Shape}
use Rattle.session_client.specs.declared.replies.Reply.{Reply}
use Rattle.session_client.specs.declared.replies.Reply.TheVariants as Reply
use Rattle.session_client.specs.declared.replies.Wanted.{Wanted}
use Rattle.session_client.specs.declared.replies.Wanted.TheVariants as wanted
use Rattle.core_history.specs.Events.{steps_of, heard_by}
use Rattle.core_history.specs.Machine.{World, terms_of, wanted_of, swept_next, is_open, out_of}
use Rattle.core_history.specs.Facts.{Found, found_at, steps_on, AreApart, IsOrdered}
use Rattle.core_history.specs.Freshness.{AreQuarantined}

-- a lease that a reply gives has a token below this one
abbrev pub IsDrawnBelow : ℕ → Reply → Type 0
IsDrawnBelow next (Reply.Got (got.Lease token)) = token < next
IsDrawnBelow next other = Unit {0}

-- the request is to release this grant, to raise it or to renew it
abbrev pub IsReleaseOf : Permit → Wanted → Type 0
IsReleaseOf grant (wanted.Dar other) = other ≡ grant
IsReleaseOf grant (wanted.Sar other value stamp) = other ≡ grant
IsReleaseOf grant (wanted.Apply other stamp) = other ≡ grant
IsReleaseOf grant (wanted.Abort other) = other ≡ grant
IsReleaseOf grant (wanted.Raise other) = other ≡ grant
IsReleaseOf grant (wanted.Renew other) = other ≡ grant
IsReleaseOf grant other = ⊥

pub record GrantFacts (shape : Shape) (world : World) : Type 0 where
  -- each history is legal
  pub legal : (place : ℕ) → IsLegalPast (terms_of shape place) (steps_of place world.past)
  -- quarantines stand apart from readers
  pub apart : (key : QKey) → AreApart (steps_on shape world key) key
  -- a session is granted each key at most once
  pub once : (key : QKey) (who : Sid) → count_by (quarantines key who) (steps_on shape world key) ≤ 1
  -- quarantines end after their session has
  pub order : (place : ℕ) → place < shape.shards → All (IsOrdered shape world) (steps_of place world.past)
  -- each commit was quarantined on every key when it was made
  pub quarantined : AreQuarantined shape world.past
  -- a grant that is to be released, raised or renewed is out
  pub out : (who : Sid) (grant : Permit) → IsReleaseOf grant (wanted_of world who)
      → list_any (same_permit grant) (out_of shape (shard_of grant.key shape.shards) world.past) ≡ true
  -- the old value that a session keeps for a quarantine to refresh is what that quarantine found
  pub kept : (key : QKey) (quar : Quar) (found : Found) → quar_of key quar.token (steps_on shape world key) ≡ Some quar
      → found_at key quar.token world.past ≡ Some found
      → (place : ℕ) (one : Given) → slice_get (given (heard_by quar.sid.number world.past)) place ≡ Some one
      → one.permit.key ≡ key → one.permit.token ≡ quar.token → quar.mode ≡ Refresh → one.old ≡ found.entry
  -- whose quarantine the sweeper is to drop may commit no more
  pub swept : (key : QKey) (token : ℕ) (quar : Quar) → swept_next shape world ≡ sweep.Drop key token
      → quar_of key token (steps_on shape world key) ≡ Some quar → is_open world quar.sid ≡ false
