-- What is printed: one line an event, and a last line that counts.
use Rattle.std.specs.Prelude.{ℕ, ◌+◌, Bool, true, false, if◌then◌else◌, List, [], ◌∷◌, ◌++◌, flat_map, reverse, length, count_by, Option}
use Rattle.std.specs.Prelude.{Some, None, codes, decimal}
use Rattle.std.specs.Fmt.{signed_decimal}
use Rattle.std.specs.List.{join_with_byte}
use Rattle.rows_model.specs.declared.keys.QKey.{QKey}
use Rattle.rows_model.specs.declared.keys.Sid.{Sid}
use Rattle.rows_model.specs.Key.{key_text}
use Rattle.lease_table.specs.declared.records.Mode.{Mode}
use Rattle.lease_table.specs.declared.records.Mode.TheVariants.{Invalidate, Refresh, Delta}
use Rattle.key_shard.specs.declared.steps.Blocker.{Blocker}
use Rattle.key_shard.specs.declared.steps.Blocker.TheVariants as stands
use Rattle.key_shard.specs.declared.replies.Got.{Got}
use Rattle.key_shard.specs.declared.replies.Got.TheVariants as got
use Rattle.key_shard.specs.declared.replies.SetAnswer.{SetAnswer}
use Rattle.key_shard.specs.declared.replies.SetAnswer.TheVariants as set
use Rattle.key_shard.specs.declared.replies.QAnswer.{QAnswer}
use Rattle.key_shard.specs.declared.replies.QAnswer.TheVariants as quarantine
use Rattle.key_shard.specs.declared.replies.Rel.{Rel}
use Rattle.key_shard.specs.declared.replies.Rel.TheVariants as rel
use Rattle.key_shard.specs.declared.replies.Raising.{Raising}
use Rattle.key_shard.specs.declared.replies.Raising.TheVariants as raising
use Rattle.key_shard.specs.declared.replies.Renewal.{Renewal}
use Rattle.key_shard.specs.declared.replies.Renewal.TheVariants as renewal
use Rattle.key_shard.specs.declared.steps.Step.{Step}
use Rattle.key_shard.specs.declared.steps.Step.TheVariants as step
use Rattle.sql_keeper.specs.declared.faults.AfterFault.{AfterFault}
use Rattle.sql_keeper.specs.declared.faults.AfterFault.TheVariants as after
use Rattle.sql_keeper.specs.declared.faults.CommitFault.{CommitFault}
use Rattle.sql_keeper.specs.declared.faults.CommitFault.TheVariants as faults
use Rattle.sql_keeper.specs.declared.stores.Commit.{Commit}
use Rattle.session_client.specs.declared.replies.Fault.{Fault}
use Rattle.session_client.specs.declared.replies.Fault.TheVariants as causes
use Rattle.session_client.specs.declared.replies.Reply.{Reply}
use Rattle.session_client.specs.declared.replies.Reply.TheVariants as Reply
use Rattle.session_client.specs.declared.replies.Wanted.{Wanted}
use Rattle.executor.specs.Requests.{request_of}
use Rattle.executor.specs.declared.requests.Request.{Request}
use Rattle.executor.specs.declared.requests.Request.TheVariants as request
use Rattle.expiry_sweeper.specs.declared.replies.SweepReply.{SweepReply}
use Rattle.expiry_sweeper.specs.declared.replies.SweepReply.TheVariants as sweeps
use Rattle.expiry_sweeper.specs.declared.replies.SweepWanted.{SweepWanted}
use Rattle.expiry_sweeper.specs.declared.replies.SweepWanted.TheVariants as sweep
use Rattle.core_history.specs.Events.{Event, Stepped, Called, Ticked, Swept}

-- Words with a space between, and the line's end.
abbrev pub line : List (List ℕ) → List ℕ
line words = join_with_byte 32 words ++ 10 ∷ []

-- A value as it is printed: as it is, or a dot for an empty one.
abbrev pub printed_value : List ℕ → List ℕ
printed_value [] = codes "."
printed_value (byte ∷ bytes) = byte ∷ bytes

-- The words that print a request: what it is, and the key that it is on, if it is on one. A session that is done wants nothing.
abbrev pub request_words : Request → List (List ℕ)
request_words (request.Get key floor) = codes "get" ∷ key_text key ∷ []
request_words (request.Ask key) = codes "ask" ∷ key_text key ∷ []
request_words (request.Staged key) = codes "staged" ∷ key_text key ∷ []
request_words (request.Set key token stamp) = codes "set" ∷ key_text key ∷ []
request_words (request.QaReg key) = codes "qareg" ∷ key_text key ∷ []
request_words (request.QaRead key) = codes "qaread" ∷ key_text key ∷ []
request_words (request.Delta key by) = codes "delta" ∷ key_text key ∷ signed_decimal by ∷ []
request_words request.Commit = codes "commit" ∷ []
request_words request.End = codes "end" ∷ []
request_words (request.Dar key token) = codes "dar" ∷ key_text key ∷ []
request_words (request.Sar key token stamp) = codes "sar" ∷ key_text key ∷ []
request_words (request.Apply key token stamp) = codes "apply" ∷ key_text key ∷ []
request_words (request.Abort key token) = codes "abort" ∷ key_text key ∷ []
request_words (request.Raise key token) = codes "raise" ∷ key_text key ∷ []
request_words (request.Renew key token) = codes "renew" ∷ key_text key ∷ []
request_words request.Nothing = codes "done" ∷ []

abbrev pub stands_word : Blocker → List ℕ
stands_word stands.I = codes "I"
stands_word stands.Q = codes "Q"

abbrev pub mode_word : Mode → List ℕ
mode_word Invalidate = codes "invalidate"
mode_word Refresh = codes "refresh"
mode_word Delta = codes "delta"

-- The key that made room, if one did.
abbrev pub evicts_words : Option QKey → List (List ℕ)
evicts_words None = []
evicts_words (Some key) = codes "EVICTS" ∷ key_text key ∷ []

-- The words that print the answer to a get.
abbrev pub got_words : Got → List (List ℕ)
got_words (got.Hit value stamp) = codes "HIT" ∷ decimal stamp ∷ printed_value value ∷ []
got_words (got.Lease token) = codes "LEASE" ∷ decimal token ∷ []
got_words (got.Again standing) = codes "AGAIN" ∷ stands_word standing ∷ []
got_words got.Own = codes "OWN" ∷ []

-- The words that print the answer to a set.
abbrev pub set_words : SetAnswer → List (List ℕ)
set_words (set.Stored evicted) = codes "STORED" ∷ evicts_words evicted
set_words set.Void = codes "VOID" ∷ []

-- A value with its stamp, or that there is none.
abbrev pub old_words : Option (List ℕ × ℕ) → List (List ℕ)
old_words None = codes "NONE" ∷ []
old_words (Some old) = decimal old.1 ∷ printed_value old.0 ∷ []

-- The old value that came along with a grant to refresh. No other grant brings one.
abbrev pub brought_words : Mode → Option (List ℕ × ℕ) → List (List ℕ)
brought_words Invalidate old = []
brought_words Refresh old = old_words old
brought_words Delta old = []

-- The words that print the answer to a quarantine.
abbrev pub quarantine_words : QAnswer → List (List ℕ)
quarantine_words (quarantine.Granted grant old) =
    codes "GRANTED" ∷ decimal grant.token ∷ brought_words grant.mode old
quarantine_words quarantine.Held = codes "HELD" ∷ []
quarantine_words (quarantine.Refused holder mode) =
    codes "REFUSED" ∷ decimal holder.number ∷ mode_word mode ∷ []

-- The words that print why a transaction was not committed. A run doesn't go on without memory.
abbrev pub commit_fault_words : CommitFault → List (List ℕ)
commit_fault_words faults.Ended = codes "ENDED" ∷ []
commit_fault_words (faults.Uncovered key) = codes "UNCOVERED" ∷ key_text key ∷ []
commit_fault_words (faults.LogFull count) = codes "FULL" ∷ decimal count ∷ []
commit_fault_words faults.Memory = []
commit_fault_words (faults.Rejected index) = codes "REJECTED" ∷ decimal index ∷ []
commit_fault_words faults.KeepFault = codes "FAULT" ∷ []

-- The words that print why there is no answer after a transaction.
abbrev pub staged_fault_words : AfterFault → List (List ℕ)
staged_fault_words (after.Rejected index) = codes "REJECTED" ∷ decimal index ∷ []
staged_fault_words after.Failed = codes "FAULT" ∷ []
staged_fault_words after.Memory = []

-- The words that print whether a session was open.
abbrev pub open_words : Bool → List (List ℕ)
open_words true = codes "YES" ∷ []
open_words false = codes "NO" ∷ []

-- The words that print the answer to a release.
abbrev pub release_words : Rel → List (List ℕ)
release_words (rel.Released evicted) = codes "RELEASED" ∷ evicts_words evicted
release_words rel.Gone = codes "GONE" ∷ []

-- The words that print the answer to a raise: the entry that it found, or who has a quarantine beside it.
abbrev pub raising_words : Raising → List (List ℕ)
raising_words (raising.Raised grant old) = codes "RAISED" ∷ old_words old
raising_words (raising.Shared grant holder) = codes "SHARED" ∷ decimal holder.number ∷ []
raising_words raising.Gone = codes "GONE" ∷ []

-- The words that print the answer to a renewal. A run doesn't go on without memory.
abbrev pub renewal_words : Option Renewal → List (List ℕ)
renewal_words (Some (renewal.Renewed deadline)) = codes "RENEWED" ∷ decimal deadline ∷ []
renewal_words (Some renewal.Gone) = codes "GONE" ∷ []
renewal_words None = []

-- The words that print why a request was not made. A run doesn't go on without memory, and no shard of it is out of tokens.
abbrev pub fault_words : Fault → List (List ℕ)
fault_words causes.Spent = []
fault_words causes.Keep = codes "FAULT" ∷ []
fault_words causes.Memory = []

-- The words that print what a session was told.
abbrev pub reply_words : Reply → List (List ℕ)
reply_words (Reply.Got got) = got_words got
reply_words (Reply.Answer answer) = decimal answer.stamp ∷ printed_value answer.value ∷ []
reply_words (Reply.Staged value txn) = printed_value value ∷ []
reply_words (Reply.NotStaged fault txn) = staged_fault_words fault
reply_words (Reply.Set answer) = set_words answer
reply_words (Reply.Quar answer) = quarantine_words answer
reply_words (Reply.Committed number txn grants) = codes "COMMITTED" ∷ decimal number ∷ []
reply_words (Reply.NotCommitted fault txn grants) = commit_fault_words fault
reply_words (Reply.End was) = open_words was
reply_words (Reply.Rel answer) = release_words answer
reply_words (Reply.SarBack grant) = []
reply_words (Reply.Raise answer) = raising_words answer
reply_words (Reply.RaiseBack grant) = []
reply_words (Reply.Renew grant answer) = renewal_words answer
reply_words (Reply.Fault fault) = fault_words fault
reply_words Reply.Nothing = []

-- The words that print a step of the sweeper's.
abbrev pub sweep_words : SweepWanted → List (List ℕ)
sweep_words (sweep.Scan shard) = codes "scan" ∷ decimal shard ∷ []
sweep_words (sweep.End who) = codes "end" ∷ decimal who.number ∷ []
sweep_words (sweep.Drop key token) = codes "drop" ∷ key_text key ∷ []

-- The words that print what the sweeper was told.
abbrev pub swept_words : SweepReply → List (List ℕ)
swept_words (sweeps.Found at due) = codes "FOUND" ∷ key_text due.key ∷ decimal due.sid.number ∷ []
swept_words (sweeps.NoneFound at) = codes "NONE" ∷ []
swept_words (sweeps.Ended closed) = open_words closed.was
swept_words (sweeps.Dropped answer) = release_words answer

-- The words of a session's turn: its number, its request, and what it was told.
abbrev pub turn_words : Sid → Wanted → Reply → List (List ℕ)
turn_words who request reply = decimal who.number ∷ request_words (request_of request) ++ reply_words reply

-- The words of an event.
abbrev pub event_words : Event → List (List ℕ)
event_words (Stepped shard who request step reply) = turn_words who request reply
event_words (Called who request reply) = turn_words who request reply
event_words (Ticked now) = codes "tick" ∷ decimal now ∷ []
event_words (Swept shard request made reply) = codes "sweep" ∷ sweep_words request ++ swept_words reply

-- The line of an event.
unfoldable pub line_of : Event → List ℕ
line_of event = line (event_words event)

-- The lines of the events, the earliest first.
unfoldable pub lines_of : List Event → List ℕ
lines_of past = flat_map line_of (reverse past)

-- Whether a reply tells that the store's keeper failed. It is printed as FAULT.
abbrev pub tells_fault : Reply → Bool
tells_fault (Reply.Fault causes.Keep) = true
tells_fault (Reply.NotStaged after.Failed txn) = true
tells_fault (Reply.NotCommitted faults.KeepFault txn grants) = true
tells_fault other = false

-- Whether the line of an event says FAULT.
abbrev pub is_fault : Event → Bool
is_fault (Stepped shard who request step reply) = tells_fault reply
is_fault (Called who request reply) = tells_fault reply
is_fault (Ticked now) = false
is_fault (Swept shard request made reply) = false

-- The turns that were answered FAULT, by their numbers, which count from 1: the lowest first.
abbrev pub fault_turns : List Event → List ℕ
fault_turns [] = []
fault_turns (event ∷ past) = fault_turns past ++ (if is_fault event then (length past + 1) ∷ [] else [])

abbrev pub is_hit : Step → Bool
is_hit (step.Hit key sid floor value stamp) = true
is_hit other = false

abbrev pub is_stored : Step → Bool
is_stored (step.Stored key token now value stamp evicted) = true
is_stored other = false

abbrev pub is_again : Step → Bool
is_again (step.Again key sid floor now standing) = true
is_again other = false

-- How many steps of all histories pass a test.
abbrev pub count_in : (Step → Bool) → List (List Step) → ℕ
count_in test histories = count_by test (flat_map (λ history. history) histories)

-- The last line: how many transactions were committed, and how many hits, stored values and Agains the histories have.
unfoldable pub end_line : List Commit → List (List Step) → List ℕ
end_line log histories =
    line (codes "end" ∷ codes "commits" ∷ decimal (length log) ∷ codes "hits" ∷ decimal (count_in is_hit histories)
    ∷ codes "stores" ∷ decimal (count_in is_stored histories) ∷ codes "agains" ∷ decimal (count_in is_again histories) ∷ [])
