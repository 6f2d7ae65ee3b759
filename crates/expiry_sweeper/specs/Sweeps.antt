-- What a sweeper wants next, read off what it was told, the latest first.
use Rattle.std.specs.Prelude.{ℕ, ◌≡◌, ◌<◌, ◌%◌, Bool, true, false, List, [], ◌∷◌, count_by, Option, Some, None}
use Rattle.lease_table.specs.declared.records.Due.{Due}
use Rattle.expiry_sweeper.specs.declared.replies.SweepReply.{SweepReply}
use Rattle.expiry_sweeper.specs.declared.replies.SweepReply.TheVariants as SweepReply
use Rattle.expiry_sweeper.specs.declared.replies.SweepWanted.{SweepWanted}
use Rattle.expiry_sweeper.specs.declared.replies.SweepWanted.TheVariants as wanted

-- Whether a reply says that a shard has no quarantine that is past its deadline.
abbrev pub is_none_found : SweepReply → Bool
is_none_found (SweepReply.NoneFound at) = true
is_none_found other = false

-- The shard that is being swept: a sweeper goes on to the next one as often as none was found, and to shard 0 after the last.
abbrev pub shard_at : ℕ → List SweepReply → ℕ
shard_at shards replies = count_by is_none_found replies % shards

-- What is wanted once a session was ended: to drop the key on which its quarantine was found just before.
abbrev pub drop_found : ℕ → List SweepReply → SweepWanted
drop_found shards (SweepReply.Found at due ∷ replies) = wanted.Drop due.key due.token
drop_found shards replies = wanted.Scan (shard_at shards replies)

-- What a sweeper of so many shards wants: to end the session of what was found, then to
-- drop the key, and then to scan the same shard again; where none was found, to scan the next.
abbrev pub sweep_wants : ℕ → List SweepReply → SweepWanted
sweep_wants shards [] = wanted.Scan 0
sweep_wants shards (SweepReply.Found at due ∷ replies) = wanted.End due.sid
sweep_wants shards (SweepReply.Ended closed ∷ replies) = drop_found shards replies
sweep_wants shards (SweepReply.Dropped rel ∷ replies) = wanted.Scan (shard_at shards replies)
sweep_wants shards (SweepReply.NoneFound at ∷ replies) = wanted.Scan (shard_at shards (SweepReply.NoneFound at ∷ replies))

-- What a scan of a shard tells: the first quarantine that is due, or that there is none.
abbrev pub scan_reply : ℕ → Option Due → SweepReply
scan_reply shard (Some due) = SweepReply.Found shard due
scan_reply shard None = SweepReply.NoneFound shard

-- The reply belongs to what is wanted: a scan tells of that shard, and an end of that session.
abbrev pub BelongsTo : SweepWanted → SweepReply → Type 0
BelongsTo (wanted.Scan shard) (SweepReply.Found at due) = at ≡ shard
BelongsTo (wanted.Scan shard) (SweepReply.NoneFound at) = at ≡ shard
BelongsTo (wanted.End sid) (SweepReply.Ended closed) = closed.sid ≡ sid
BelongsTo (wanted.Drop key token) (SweepReply.Dropped rel) = Unit {0}
BelongsTo request reply = ⊥

-- Each reply belongs to what was wanted after those before it.
abbrev pub AreAnswers : ℕ → List SweepReply → Type 0
AreAnswers shards [] = Unit {0}
AreAnswers shards (reply ∷ before) = BelongsTo (sweep_wants shards before) reply × AreAnswers shards before

-- A scan that is wanted is of one of the shards.
abbrev pub IsWithin : ℕ → SweepWanted → Type 0
IsWithin shards (wanted.Scan shard) = shard < shards
IsWithin shards (wanted.End sid) = Unit {0}
IsWithin shards (wanted.Drop key token) = Unit {0}
