-- What is said of a session that quits, to who answers it.
use Rattle.std.specs.Prelude.{◌≡◌, false, List, [], ◌∷◌}
use Rattle.rows_model.specs.declared.keys.QKey.{QKey}
use Rattle.rows_model.specs.declared.keys.Sid.{Sid}
use Rattle.lease_table.specs.declared.records.Mode.{Mode}
use Rattle.key_shard.specs.declared.steps.Step.{Step}
use Rattle.key_shard.specs.Past.{entry}
use Rattle.session_client.specs.declared.plans.Plan.{Plan}
use Rattle.session_client.specs.declared.plans.Plan.TheVariants.{Quit}
use Rattle.session_client.specs.declared.replies.Reply.{Reply}
use Rattle.session_client.specs.declared.replies.Reply.TheVariants as Reply
use Rattle.session_client.specs.declared.replies.Wanted.{Wanted}
use Rattle.session_client.specs.declared.replies.Wanted.TheVariants as wanted
use Rattle.session_client.specs.declared.sessions.Session.{Session}
use Rattle.session_client.specs.Belongs.{Belongs, IsShardFault, IsQuarantineOf}
use Rattle.session_client.specs.Follows.{plan_of, sid_of, IsReady, Follows}
use Rattle.session_client.specs.Wants.{wants}

-- The plan is to quarantine the keys of a transaction and then to quit.
abbrev pub IsQuit : Plan → Type 0
IsQuit (Quit mode txn) = Unit {0}
IsQuit other = ⊥

-- A request of one that gives up: a quarantine, the end of one that leaves the value, to be ended
-- at the store, or nothing. It gets, sets, drops, puts and shifts no value, and commits nothing.
abbrev pub IsGivingUp : Wanted → Type 0
IsGivingUp (wanted.QaReg key) = Unit {0}
IsGivingUp (wanted.QaRead key) = Unit {0}
IsGivingUp (wanted.Delta key by) = Unit {0}
IsGivingUp wanted.End = Unit {0}
IsGivingUp (wanted.Abort grant) = Unit {0}
IsGivingUp wanted.Nothing = Unit {0}
IsGivingUp other = ⊥

-- Each reply, the latest first, belongs to what a session of this plan wanted after those before it.
abbrev pub AreReplies : Sid → Plan → List Reply → Type 0
AreReplies who plan [] = Unit {0}
AreReplies who plan (reply ∷ heard) = Belongs who (wants plan false heard) reply × AreReplies who plan heard

-- The session is ready, and what it heard so far were replies to what it wanted.
pub record IsUnderWay (session : Session) : Type 0 where
  pub ready : IsReady session
  pub heard : List Reply
  pub replies : AreReplies (sid_of session) (plan_of session) heard
  pub follows : Follows session false heard

-- The reply to a quarantine of the key by this session in this mode: its answer, or a fault of a shard.
abbrev pub IsQuarantineReply : Sid → QKey → Mode → Reply → Type 0
IsQuarantineReply who key mode (Reply.Quar answer) = IsQuarantineOf who key mode answer
IsQuarantineReply who key mode (Reply.Fault fault) = IsShardFault fault
IsQuarantineReply who key mode other = ⊥

-- Each entry is as before.
abbrev pub HasSameEntries : List Step → List Step → Type 0
HasSameEntries before after = (key : QKey) → entry key after ≡ entry key before
