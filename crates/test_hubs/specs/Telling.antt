-- What the desk of the tests that tells its record replies.
use Rattle.std.specs.Prelude.{[], None}
use Rattle.key_shard.specs.declared.replies.Got.TheVariants as got
use Rattle.key_shard.specs.declared.replies.QAnswer.TheVariants as quarantine
use Rattle.key_shard.specs.declared.replies.SetAnswer.TheVariants as set
use Rattle.session_client.specs.declared.replies.Reply.{Reply}
use Rattle.session_client.specs.declared.replies.Reply.TheVariants as Reply
use Rattle.session_client.specs.declared.replies.Wanted.{Wanted}
use Rattle.session_client.specs.declared.replies.Wanted.TheVariants as wanted

-- A lease is given, an answer is empty and is stored, a quarantine is held already, and a transaction is the first commit. Other requests have no reply.
abbrev pub reply_to : Wanted → Reply
reply_to (wanted.Get key floor) = Reply.Got (got.Lease 1)
reply_to (wanted.Ask key) = Reply.Answer (record { key = key; value = []; stamp = 0 })
reply_to (wanted.Set key token value stamp) = Reply.Set (set.Stored None)
reply_to (wanted.QaReg key) = Reply.Quar quarantine.Held
reply_to (wanted.QaRead key) = Reply.Quar quarantine.Held
reply_to (wanted.Delta key by) = Reply.Quar quarantine.Held
reply_to (wanted.Commit txn grants) = Reply.Committed 1 txn grants
reply_to other = Reply.Nothing
