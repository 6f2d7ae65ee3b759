-- Which replies belong to a request.
use Rattle.std.specs.Prelude.{ℕ, ◌≡◌, ◌≤◌, List, Option, Some, None, Result, Ok, Err}
use Rattle.rows_model.specs.declared.keys.QKey.{QKey}
use Rattle.rows_model.specs.declared.keys.Sid.{Sid}
use Rattle.lease_table.specs.declared.records.Mode.{Mode}
use Rattle.lease_table.specs.declared.records.Mode.TheVariants.{Invalidate, Refresh, Delta}
use Rattle.key_shard.specs.Permit.{Permit}
use Rattle.key_shard.specs.declared.replies.Got.{Got}
use Rattle.key_shard.specs.declared.replies.Got.TheVariants as got
use Rattle.key_shard.specs.declared.replies.QAnswer.{QAnswer}
use Rattle.key_shard.specs.declared.replies.QAnswer.TheVariants as quarantine
use Rattle.key_shard.specs.declared.replies.Raising.{Raising}
use Rattle.key_shard.specs.declared.replies.Raising.TheVariants as raising
use Rattle.session_client.specs.Grants.{GrantsView}
use Rattle.session_client.specs.declared.replies.Fault.{Fault}
use Rattle.session_client.specs.declared.replies.Fault.TheVariants as faults
use Rattle.session_client.specs.declared.replies.Reply.{Reply}
use Rattle.session_client.specs.declared.replies.Reply.TheVariants as Reply
use Rattle.session_client.specs.declared.replies.Wanted.{Wanted}
use Rattle.session_client.specs.declared.replies.Wanted.TheVariants as wanted

-- A shard that draws a token may have none left, or memory may run out.
abbrev pub IsShardFault : Fault → Type 0
IsShardFault faults.Spent = Unit {0}
IsShardFault faults.Memory = Unit {0}
IsShardFault faults.Keep = ⊥

-- The store's keeper may fail, or memory may run out.
abbrev pub IsStoreFault : Fault → Type 0
IsStoreFault faults.Keep = Unit {0}
IsStoreFault faults.Memory = Unit {0}
IsStoreFault faults.Spent = ⊥

-- An answer to a get: the stamp of an entry is at least the floor that was asked for.
abbrev pub IsGotOf : ℕ → Got → Type 0
IsGotOf floor (got.Hit value stamp) = floor ≤ stamp
IsGotOf floor other = Unit {0}

-- A grant of the key, to this session, in this mode.
pub record IsGrantOf (who : Sid) (key : QKey) (mode : Mode) (grant : Permit) : Type 0 where
  pub of_key : grant.key ≡ key
  pub of_session : grant.sid ≡ who
  pub in_mode : grant.mode ≡ mode

-- An old value comes along with a grant to refresh alone.
abbrev pub FitsOld : Mode → Option (List ℕ × ℕ) → Type 0
FitsOld Invalidate old = old ≡ None
FitsOld Refresh old = Unit {0}
FitsOld Delta old = old ≡ None

-- An answer to a quarantine in this mode.
abbrev pub IsQuarantineOf : Sid → QKey → Mode → QAnswer → Type 0
IsQuarantineOf who key mode (quarantine.Granted grant old) = IsGrantOf who key mode grant × FitsOld mode old
IsQuarantineOf who key mode quarantine.Held = Unit {0}
IsQuarantineOf who key mode (quarantine.Refused holder held) = Unit {0}

-- The grant of a quarantine that was raised: its shard, its key, its session and its token stay, and it is to refresh.
pub record IsRaised (lent back : Permit) : Type 0 where
  pub same_shard : back.shard ≡ lent.shard
  pub same_key : back.key ≡ lent.key
  pub same_session : back.sid ≡ lent.sid
  pub same_token : back.token ≡ lent.token
  pub refreshes : back.mode ≡ Refresh

-- An answer to a raise of this grant, which comes back where it isn't raised and its quarantine stands.
abbrev pub IsRaiseOf : Permit → Raising → Type 0
IsRaiseOf lent (raising.Raised grant old) = IsRaised lent grant
IsRaiseOf lent (raising.Shared grant holder) = grant ≡ lent
IsRaiseOf lent raising.Gone = Unit {0}

-- The same grants come back, with no less room.
pub record AreBack (lent back : GrantsView) : Type 0 where
  pub same : back.items ≡ lent.items
  pub roomy : lent.room ≤ back.room

-- The reply belongs to the request of this session.
abbrev pub Belongs : Sid → Wanted → Reply → Type 0
Belongs who (wanted.Get key floor) (Reply.Got answer) = IsGotOf floor answer
Belongs who (wanted.Get key floor) (Reply.Fault fault) = IsShardFault fault
Belongs who (wanted.Ask key) (Reply.Answer answer) = answer.key ≡ key
Belongs who (wanted.Ask key) (Reply.Fault fault) = IsStoreFault fault
Belongs who (wanted.Set key token value stamp) (Reply.Set answer) = Unit {0}
Belongs who (wanted.Set key token value stamp) (Reply.Fault fault) = fault ≡ faults.Memory
Belongs who (wanted.Staged key txn) (Reply.Staged value changes) = changes ≡ txn
Belongs who (wanted.Staged key txn) (Reply.NotStaged fault changes) = changes ≡ txn
Belongs who (wanted.QaReg key) (Reply.Quar answer) = IsQuarantineOf who key Invalidate answer
Belongs who (wanted.QaReg key) (Reply.Fault fault) = IsShardFault fault
Belongs who (wanted.QaRead key) (Reply.Quar answer) = IsQuarantineOf who key Refresh answer
Belongs who (wanted.QaRead key) (Reply.Fault fault) = IsShardFault fault
Belongs who (wanted.Delta key by) (Reply.Quar answer) = IsQuarantineOf who key Delta answer
Belongs who (wanted.Delta key by) (Reply.Fault fault) = IsShardFault fault
Belongs who (wanted.Raise grant) (Reply.Raise answer) = IsRaiseOf grant answer
Belongs who (wanted.Raise grant) (Reply.RaiseBack back) = back ≡ grant
Belongs who (wanted.Renew grant) (Reply.Renew back answer) = back ≡ grant
Belongs who (wanted.Commit txn grants) (Reply.Committed number changes back) =
    (changes ≡ txn) × AreBack grants back
Belongs who (wanted.Commit txn grants) (Reply.NotCommitted fault changes back) =
    (changes ≡ txn) × AreBack grants back
Belongs who wanted.End (Reply.End was) = Unit {0}
Belongs who (wanted.Dar grant) (Reply.Rel answer) = Unit {0}
Belongs who (wanted.Sar grant value stamp) (Reply.Rel answer) = Unit {0}
Belongs who (wanted.Sar grant (Some value) stamp) (Reply.SarBack back) = back ≡ grant
Belongs who (wanted.Apply grant stamp) (Reply.Rel answer) = Unit {0}
Belongs who (wanted.Abort grant) (Reply.Rel answer) = Unit {0}
Belongs who wanted.Nothing Reply.Nothing = Unit {0}
Belongs who request reply = ⊥

-- The reply to a get that is told by its answer alone, or by its fault.
abbrev pub get_reply : Result Got Fault → Reply
get_reply (Ok answer) = Reply.Got answer
get_reply (Err fault) = Reply.Fault fault
