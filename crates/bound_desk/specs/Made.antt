-- What is made of a request that hands in a grant, on the shard of its key: the shard's own step, where the grant is out
-- there.
use Rattle.std.specs.Prelude.{◌≡◌, true, Option, Some, None}
use Rattle.rows_model.specs.declared.keys.Sid.{Sid}
use Rattle.rows_model.specs.Delta.{is_count}
use Rattle.lease_table.specs.declared.records.Mode.TheVariants.{Invalidate, Refresh, Delta}
use Rattle.key_shard.specs.declared.replies.How.{How}
use Rattle.key_shard.specs.declared.replies.How.TheVariants as hows
use Rattle.key_shard.specs.declared.replies.Rel.{Rel}
use Rattle.key_shard.specs.Answers.{raise_step, release_step, replace_step}
use Rattle.key_shard.specs.Permit.{Permit}
use Rattle.key_shard.specs.Replies.{ShowsRaise, ShowsRelease}
use Rattle.key_shard.specs.Shards.{is_out, past_of, ShardView}
use Rattle.session_client.specs.declared.replies.Reply.{Reply}
use Rattle.session_client.specs.declared.replies.Wanted.{Wanted}
use Rattle.session_client.specs.declared.replies.Wanted.TheVariants as wanted

-- A release of a grant that is out is answered as its step shows.
abbrev pub TellsRelease : ShardView → Permit → How → Rel → Type 0
TellsRelease shard grant how answer = is_out shard grant ≡ true → ShowsRelease (release_step (past_of shard) grant how) answer

-- So is each request that hands in a grant to be spent or raised, in the mode that it wants. A value is kept of the session
-- that has quit.
abbrev pub IsMade : Option Sid → ShardView → Wanted → Reply → Type 0
IsMade quit shard (wanted.Dar grant) (Reply.Rel answer) = TellsRelease shard grant hows.Drop answer
IsMade quit shard (wanted.Sar grant None stamp) (Reply.Rel answer) = TellsRelease shard grant hows.Drop answer
IsMade quit shard (wanted.Sar grant (Some value) stamp) (Reply.Rel answer) =
    grant.mode ≡ Refresh → is_out shard grant ≡ true → ShowsRelease (replace_step shard.terms (past_of shard) grant value stamp) answer
IsMade quit shard (wanted.Apply grant stamp) (Reply.Rel answer) =
    grant.mode ≡ Delta → is_count grant.key ≡ true → TellsRelease shard grant (hows.Shift stamp) answer
IsMade quit shard (wanted.Abort grant) (Reply.Rel answer) = quit ≡ Some grant.sid → TellsRelease shard grant hows.Keep answer
IsMade quit shard (wanted.Raise grant) (Reply.Raise answer) =
    grant.mode ≡ Invalidate → is_out shard grant ≡ true → ShowsRaise (past_of shard) grant (raise_step (past_of shard) grant) answer
IsMade quit shard request reply = Unit {0}
