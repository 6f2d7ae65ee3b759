-- What a command that isn't refused asks of the desk, and what its client is told of the desk's reply.
use Rattle.std.specs.Prelude.{ℕ, ◌++◌, List, [], ◌∷◌, Option, Some, None}
use Rattle.std.specs.Option.{option_map, unwrap_or}
use Rattle.rows_model.specs.declared.keys.QKey.{QKey}
use Rattle.key_shard.specs.Permit.{Permit}
use Rattle.key_shard.specs.declared.steps.Blocker.TheVariants as stands
use Rattle.key_shard.specs.declared.replies.Got.{Got}
use Rattle.key_shard.specs.declared.replies.Got.TheVariants as got
use Rattle.key_shard.specs.declared.replies.SetAnswer.{SetAnswer}
use Rattle.key_shard.specs.declared.replies.SetAnswer.TheVariants as set
use Rattle.key_shard.specs.declared.replies.QAnswer.{QAnswer}
use Rattle.key_shard.specs.declared.replies.QAnswer.TheVariants as quarantine
use Rattle.key_shard.specs.declared.replies.Rel.{Rel}
use Rattle.key_shard.specs.declared.replies.Rel.TheVariants as rel
use Rattle.sql_keeper.specs.declared.faults.AfterFault.{AfterFault}
use Rattle.sql_keeper.specs.declared.faults.AfterFault.TheVariants as after
use Rattle.sql_keeper.specs.declared.faults.CommitFault.{CommitFault}
use Rattle.sql_keeper.specs.declared.faults.CommitFault.TheVariants as commit
use Rattle.session_client.specs.declared.replies.Fault.{Fault}
use Rattle.session_client.specs.declared.replies.Fault.TheVariants as faults
use Rattle.session_client.specs.declared.replies.Reply.{Reply}
use Rattle.session_client.specs.declared.replies.Reply.TheVariants as desk
use Rattle.session_client.specs.declared.replies.Wanted.{Wanted}
use Rattle.session_client.specs.declared.replies.Wanted.TheVariants as wanted
use Rattle.mc_text.specs.declared.commands.Command.{Command}
use Rattle.mc_text.specs.declared.commands.Command.TheVariants.{IqGet, Ask, Stage, IqSet, QaReg, QaRead, IqDelta, Sql, Dar, Sar}
use Rattle.mc_text.specs.declared.commands.Command.TheVariants.{IqCommit}
use Rattle.mc_text.specs.declared.replies.LineReply.{LineReply}
use Rattle.mc_text.specs.declared.replies.LineReply.TheVariants as LineReply
use Rattle.conn_server.specs.declared.clients.Client.{Client}
use Rattle.conn_server.specs.declared.clients.Present.{Present}
use Rattle.conn_server.specs.declared.clients.Stage.TheVariants as stages
use Rattle.conn_server.specs.Clients.{commit_of, grant_on, grants_but}

-- the stamp of what a committed session puts: the number of its commit
abbrev pub stamp_of : Option Present → ℕ
stamp_of present = unwrap_or (commit_of present) 0

-- the request of a command that makes one: a lookup, a quarantine, a commit or a release; a lease is set for the present session
abbrev pub request : Client → Command → Option Wanted
request client (IqGet (Some key) sid floor) = Some (wanted.Get key floor)
request client (Ask (Some key) sid) = Some (wanted.Ask key)
request client (Stage (Some key) sid txn) = Some (wanted.Staged key txn)
request client (IqSet (Some key) flags exptime bytes token stamp block) = Some (wanted.Set key token block stamp)
request client (QaReg (Some key) sid) = Some (wanted.QaReg key)
request client (QaRead (Some key) sid) = Some (wanted.QaRead key)
request client (IqDelta (Some key) sid by) = Some (wanted.Delta key by)
request client (Sql sid txn) = Some (wanted.Commit txn client.grants)
request client (Dar (Some key) sid) = option_map (λ grant. wanted.Dar grant) (grant_on key client.grants.items)
request client (Sar (Some key) flags exptime bytes sid block) =
    option_map (λ grant. wanted.Sar grant (Some block) (stamp_of client.present)) (grant_on key client.grants.items)
request client (IqCommit (Some key) sid) =
    option_map (λ grant. wanted.Apply grant (stamp_of client.present)) (grant_on key client.grants.items)
request client other = None

-- what the client is told of a request that wasn't made
abbrev pub fault_reply : Fault → LineReply
fault_reply faults.Spent = LineReply.Spent
fault_reply faults.Keep = LineReply.Store
fault_reply faults.Memory = LineReply.Memory

-- of a get
abbrev pub got_reply : QKey → Got → LineReply
got_reply key (got.Hit value stamp) = LineReply.Stamped key stamp value
got_reply key (got.Lease token) = LineReply.Lease token
got_reply key (got.Again stands.I) = LineReply.AgainI
got_reply key (got.Again stands.Q) = LineReply.AgainQ
got_reply key got.Own = LineReply.Own

-- of a set
abbrev pub set_reply : SetAnswer → LineReply
set_reply (set.Stored evicted) = LineReply.Stored
set_reply set.Void = LineReply.NotStored

-- of a store's answer after a transaction that it doesn't give
abbrev pub after_reply : AfterFault → LineReply
after_reply (after.Rejected index) = LineReply.Rejected index
after_reply after.Failed = LineReply.Store
after_reply after.Memory = LineReply.Memory

-- of a commit that isn't made
abbrev pub commit_reply : CommitFault → LineReply
commit_reply commit.Ended = LineReply.Ended
commit_reply (commit.Uncovered key) = LineReply.Uncovered key
commit_reply (commit.LogFull count) = LineReply.Full
commit_reply commit.Memory = LineReply.Memory
commit_reply (commit.Rejected index) = LineReply.Rejected index
commit_reply commit.KeepFault = LineReply.Store

-- of a grant: its token; and to refresh, the value that the key has
abbrev pub granted_reply : Command → Permit → Option (List ℕ × ℕ) → LineReply
granted_reply (QaRead key sid) grant (Some (value, stamp)) = LineReply.GrantedStamped grant.token grant.key stamp value
granted_reply (QaRead key sid) grant None = LineReply.GrantedNone grant.token
granted_reply other grant old = LineReply.Granted grant.token

-- of a quarantine
abbrev pub quarantine_reply : Command → QAnswer → LineReply
quarantine_reply said (quarantine.Granted grant old) = granted_reply said grant old
quarantine_reply said quarantine.Held = LineReply.Held
quarantine_reply said (quarantine.Refused holder mode) = LineReply.Refused holder mode

-- of a release: a value was dropped or put, or the quarantine stood no longer
abbrev pub release_reply : Command → Rel → LineReply
release_reply said rel.Gone = LineReply.NotFound
release_reply (Dar key sid) (rel.Released evicted) = LineReply.Deleted
release_reply other (rel.Released evicted) = LineReply.Stored

-- what the client is told of the desk's reply to its command
abbrev pub told_of : Command → Reply → LineReply
told_of (IqGet (Some key) sid floor) (desk.Got answer) = got_reply key answer
told_of (Ask (Some key) sid) (desk.Answer answer) = LineReply.Stamped key answer.stamp answer.value
told_of (Stage (Some key) sid txn) (desk.Staged value changes) = LineReply.Unstamped key value
told_of (Stage (Some key) sid txn) (desk.NotStaged fault changes) = after_reply fault
told_of said (desk.Set answer) = set_reply answer
told_of said (desk.Quar answer) = quarantine_reply said answer
told_of said (desk.Committed number txn grants) = LineReply.Committed number
told_of said (desk.NotCommitted fault txn grants) = commit_reply fault
told_of said (desk.Rel answer) = release_reply said answer
told_of said (desk.SarBack grant) = LineReply.Memory
told_of said (desk.Fault fault) = fault_reply fault
told_of said other = LineReply.Error

-- the client with these grants
abbrev pub with_grants : Client → List Permit → Client
with_grants client grants =
    record { present = client.present; grants = record { items = grants; room = client.grants.room } }

-- the grants after an answer to a quarantine: one that is given stands last
abbrev pub grants_after : List Permit → QAnswer → List Permit
grants_after grants (quarantine.Granted grant old) = grants ++ grant ∷ []
grants_after grants other = grants

-- the grants after a reply to a quarantine
abbrev pub grants_heard : List Permit → Reply → List Permit
grants_heard grants (desk.Quar answer) = grants_after grants answer
grants_heard grants other = grants

-- the present session has committed
abbrev pub commits : ℕ → Option Present → Option Present
commits number present = option_map (λ old. record { sid = old.sid; stage = stages.Committed number }) present

-- the grants without the one that a command released
abbrev pub grants_left : Command → List Permit → List Permit
grants_left (Dar (Some key) sid) grants = grants_but key grants
grants_left (Sar (Some key) flags exptime bytes sid block) grants = grants_but key grants
grants_left (IqCommit (Some key) sid) grants = grants_but key grants
grants_left other grants = grants

-- the client after the desk's reply to its command; a grant that comes back for want of memory is still held, in its place
abbrev pub client_after : Client → Command → Reply → Client
client_after client said (desk.Quar answer) = with_grants client (grants_after client.grants.items answer)
client_after client said (desk.Committed number txn grants) =
    record { present = commits number client.present; grants = grants }
client_after client said (desk.NotCommitted fault txn grants) = record { present = client.present; grants = grants }
client_after client said (desk.Rel answer) = with_grants client (grants_left said client.grants.items)
client_after client said other = client
