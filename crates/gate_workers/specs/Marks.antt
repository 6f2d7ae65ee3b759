-- Requests and replies in their bare forms, and what is left of a session's calls in them.
use Rattle.std.specs.Prelude.{List, [], ◌∷◌, ◌++◌}
use Rattle.key_shard.specs.declared.replies.Got.TheVariants as got
use Rattle.key_shard.specs.declared.replies.SetAnswer.TheVariants as set
use Rattle.key_shard.specs.declared.replies.QAnswer.TheVariants as quarantine
use Rattle.key_shard.specs.declared.replies.Raising.TheVariants as raising
use Rattle.session_client.specs.Desks.{Exchange, Began, Asked}
use Rattle.session_client.specs.declared.replies.Wanted.{Wanted}
use Rattle.session_client.specs.declared.replies.Reply.{Reply}
use Rattle.session_client.specs.declared.replies.Reply.TheVariants as Reply
use Rattle.executor.specs.Requests.{request_of}
use Rattle.gate_workers.specs.declared.marks.Mark.{Mark}
use Rattle.gate_workers.specs.declared.marks.Response.{Response}
use Rattle.gate_workers.specs.declared.marks.Response.TheVariants as response

-- A reply without values, the transaction and grants. Of a grant that is given the token is left.
abbrev pub response_of : Reply → Response
response_of (Reply.Got (got.Hit value stamp)) = response.Hit stamp
response_of (Reply.Got (got.Lease token)) = response.Lease token
response_of (Reply.Got (got.Again standing)) = response.Again standing
response_of (Reply.Got got.Own) = response.Own
response_of (Reply.Answer answer) = response.Answer answer.stamp
response_of (Reply.Set (set.Stored evicted)) = response.Stored evicted
response_of (Reply.Set set.Void) = response.Void
response_of (Reply.Quar (quarantine.Granted grant old)) = response.Granted grant.token
response_of (Reply.Quar quarantine.Held) = response.Held
response_of (Reply.Quar (quarantine.Refused holder held)) = response.Refused holder held
response_of (Reply.Raise (raising.Raised grant old)) = response.Raised grant.token
response_of (Reply.Raise (raising.Shared grant holder)) = response.Shared holder
response_of (Reply.Raise raising.Gone) = response.RaiseGone
response_of (Reply.RaiseBack grant) = response.RaiseBack
response_of (Reply.Renew grant answer) = response.Renew answer
response_of (Reply.Staged value txn) = response.Staged
response_of (Reply.NotStaged fault txn) = response.NotStaged fault
response_of (Reply.Committed number txn grants) = response.Committed number
response_of (Reply.NotCommitted fault txn grants) = response.NotCommitted fault
response_of (Reply.End was) = response.End was
response_of (Reply.Rel answer) = response.Rel answer
response_of (Reply.SarBack grant) = response.SarBack
response_of (Reply.Fault fault) = response.Fault fault
response_of Reply.Nothing = response.Nothing

-- The mark of a request and its reply.
abbrev pub mark_of : Wanted → Reply → Mark
mark_of request reply = record { asked = request_of request; response = response_of reply }

-- The marks of these calls, which are told the latest first, in their order: one for each request.
abbrev pub marks_of : List Exchange → List Mark
marks_of [] = []
marks_of (Began writes who ∷ calls) = marks_of calls
marks_of (Asked who request reply ∷ calls) = marks_of calls ++ mark_of request reply ∷ []
