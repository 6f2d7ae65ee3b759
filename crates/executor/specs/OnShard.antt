-- What a request makes of the shard that it is on, and what its session is told.
use Rattle.std.specs.Prelude.{ℕ, ◌≡◌, ◌-◌, ◌^◌, Bool, ◌==◌, ◌&&◌, IsTrue, MatchBool, Some, None}
use Rattle.std.specs.Bool.{IsFalse}
use Rattle.rows_model.specs.declared.keys.Sid.{Sid}
use Rattle.key_shard.specs.Answers.{IsAtHome, get_step, set_step, raise_step, renew_step}
use Rattle.key_shard.specs.Past.{Terms, draws, next_token}
use Rattle.key_shard.specs.Permit.{Permit}
use Rattle.key_shard.specs.Replies.{ShowsGot, ShowsSet, ShowsQuarantine, ShowsRelease, ShowsRaise, ShowsRenewal}
use Rattle.key_shard.specs.Shards.{ShardView, past_of, is_out, stepped, returned, after_raise}
use Rattle.key_shard.specs.declared.replies.Raising.{Raising}
use Rattle.key_shard.specs.declared.replies.Raising.TheVariants as raisings
use Rattle.key_shard.specs.declared.replies.Renewal.{Renewal}
use Rattle.key_shard.specs.declared.replies.Renewal.TheVariants as renewals
use Rattle.key_shard.specs.declared.replies.Rel.{Rel}
use Rattle.key_shard.specs.declared.replies.Rel.TheVariants as rels
use Rattle.key_shard.specs.declared.replies.ShardFault.{ShardFault}
use Rattle.key_shard.specs.declared.replies.ShardFault.TheVariants as causes
use Rattle.key_shard.specs.declared.steps.Step.{Step}
use Rattle.session_client.specs.declared.replies.Fault.{Fault}
use Rattle.session_client.specs.declared.replies.Fault.TheVariants as faults
use Rattle.session_client.specs.declared.replies.Reply.{Reply}
use Rattle.session_client.specs.declared.replies.Reply.TheVariants as Reply
use Rattle.session_client.specs.declared.replies.Wanted.{Wanted}
use Rattle.session_client.specs.declared.replies.Wanted.TheVariants as wanted
use Rattle.write_ops.specs.Releases.{qa_step, read_step, delta_step, dar_step, abort_step, sar_step, apply_step}

-- The request is one that a shard makes, and its key is this shard's.
abbrev pub IsFor : Terms → Wanted → Type 0
IsFor terms (wanted.Get key floor) = IsAtHome terms key
IsFor terms (wanted.Set key token value stamp) = IsAtHome terms key
IsFor terms (wanted.QaReg key) = IsAtHome terms key
IsFor terms (wanted.QaRead key) = IsAtHome terms key
IsFor terms (wanted.Delta key by) = IsAtHome terms key
IsFor terms (wanted.Dar grant) = IsAtHome terms grant.key
IsFor terms (wanted.Sar grant value stamp) = IsAtHome terms grant.key
IsFor terms (wanted.Apply grant stamp) = IsAtHome terms grant.key
IsFor terms (wanted.Abort grant) = IsAtHome terms grant.key
IsFor terms (wanted.Raise grant) = IsAtHome terms grant.key
IsFor terms (wanted.Renew grant) = IsAtHome terms grant.key
IsFor terms other = ⊥

-- Whether the step would take the last number there is as its token.
abbrev pub is_spent : ShardView → Step → Bool
is_spent shard step = draws step && (next_token shard.terms (past_of shard) == 2 ^ 64 - 1)

-- Why a request that may draw a token was not made: there is no token left, or else memory ran out.
abbrev pub IsFaultOf : ShardView → Step → Fault → Type 0
IsFaultOf shard step faults.Spent = IsTrue (is_spent shard step)
IsFaultOf shard step faults.Memory = IsFalse (is_spent shard step)
IsFaultOf shard step faults.Keep = ⊥

-- What a session is told of a shard's refusal.
abbrev pub fault_of : ShardFault → Fault
fault_of (causes.Spent next) = faults.Spent
fault_of causes.Memory = faults.Memory
fault_of (causes.Stranger shard) = faults.Memory

-- A get was answered as its step shows, and the shard stands after that step, its steps in memory given up first where that was
-- due; or it was not made, and the shard is as before.
abbrev pub TellsGot : ShardView → Step → ShardView → Reply → Type 0
TellsGot old step new (Reply.Got got) = (new ≡ stepped old step) × ShowsGot step got × IsFalse (is_spent old step)
TellsGot old step new (Reply.Fault fault) = (new ≡ old) × IsFaultOf old step fault
TellsGot old step new other = ⊥

-- So was a quarantine.
abbrev pub TellsQuarantine : ShardView → Step → ShardView → Reply → Type 0
TellsQuarantine old step new (Reply.Quar answer) =
    (new ≡ stepped old step) × ShowsQuarantine old.terms (past_of old) step answer × IsFalse (is_spent old step)
TellsQuarantine old step new (Reply.Fault fault) = (new ≡ old) × IsFaultOf old step fault
TellsQuarantine old step new other = ⊥

-- So was a set, which draws no token: it is not made for want of memory alone.
abbrev pub TellsSet : ShardView → Step → ShardView → Reply → Type 0
TellsSet old step new (Reply.Set answer) = (new ≡ stepped old step) × ShowsSet step answer
TellsSet old step new (Reply.Fault fault) = (new ≡ old) × (fault ≡ faults.Memory)
TellsSet old step new other = ⊥

-- A grant that is out was returned, as its step shows, and the shard stands after that step. One that isn't out is Gone, and the shard is as before.
abbrev pub Returns : ShardView → Permit → Step → ShardView → Rel → Type 0
Returns old grant step new answer =
    MatchBool (is_out old grant) ((new ≡ returned old grant step) × ShowsRelease step answer)
    ((new ≡ old) × (answer ≡ rels.Gone))

-- A release was made so.
abbrev pub TellsRelease : ShardView → Permit → Step → ShardView → Reply → Type 0
TellsRelease old grant step new (Reply.Rel answer) = Returns old grant step new answer
TellsRelease old grant step new other = ⊥

-- So was a release with a new value; or memory ran out, the grant comes back, and the shard is as before.
abbrev pub TellsPut : ShardView → Permit → Step → ShardView → Reply → Type 0
TellsPut old grant step new (Reply.Rel answer) = Returns old grant step new answer
TellsPut old grant step new (Reply.SarBack back) = (new ≡ old) × (back ≡ grant)
TellsPut old grant step new other = ⊥

-- A grant that is out was raised, or not, as its step shows, and the shard stands after that step. One that isn't out is Gone, and the shard is as before.
abbrev pub Raises : ShardView → Permit → Step → ShardView → Raising → Type 0
Raises old grant step new answer =
    MatchBool (is_out old grant) ((new ≡ after_raise old grant step) × ShowsRaise (past_of old) grant step answer)
    ((new ≡ old) × (answer ≡ raisings.Gone))

-- A raise was made so; or memory ran out, the grant comes back, and the shard is as before.
abbrev pub TellsRaise : ShardView → Permit → Step → ShardView → Reply → Type 0
TellsRaise old grant step new (Reply.Raise answer) = Raises old grant step new answer
TellsRaise old grant step new (Reply.RaiseBack back) = (new ≡ old) × (back ≡ grant)
TellsRaise old grant step new other = ⊥

-- The quarantine of a grant that is out was renewed, or not, as its step shows, and the shard stands after that step. One that isn't out is Gone, and the shard is as before.
abbrev pub Renews : ShardView → Permit → Step → ShardView → Renewal → Type 0
Renews old grant step new answer =
    MatchBool (is_out old grant) ((new ≡ stepped old step) × ShowsRenewal step answer)
    ((new ≡ old) × (answer ≡ renewals.Gone))

-- A renewal was made so, or memory ran out and the shard is as before. The grant comes back in any case.
abbrev pub TellsRenewal : ShardView → Permit → Step → ShardView → Reply → Type 0
TellsRenewal old grant step new (Reply.Renew back (Some answer)) = (back ≡ grant) × Renews old grant step new answer
TellsRenewal old grant step new (Reply.Renew back None) = (back ≡ grant) × (new ≡ old)
TellsRenewal old grant step new other = ⊥

-- What a session's request at this time makes of a shard, and what the session is told.
abbrev pub MakesOnShard : ShardView → Sid → Wanted → ℕ → ShardView → Reply → Type 0
MakesOnShard old who (wanted.Get key floor) now new reply =
    TellsGot old (get_step old.terms (past_of old) key who floor now) new reply
MakesOnShard old who (wanted.Set key token value stamp) now new reply =
    TellsSet old (set_step old.terms (past_of old) key token value stamp now) new reply
MakesOnShard old who (wanted.QaReg key) now new reply = TellsQuarantine old (qa_step old key who now) new reply
MakesOnShard old who (wanted.QaRead key) now new reply = TellsQuarantine old (read_step old key who now) new reply
MakesOnShard old who (wanted.Delta key by) now new reply =
    TellsQuarantine old (delta_step old key who by now) new reply
MakesOnShard old who (wanted.Dar grant) now new reply = TellsRelease old grant (dar_step old grant) new reply
MakesOnShard old who (wanted.Sar grant None stamp) now new reply =
    TellsRelease old grant (dar_step old grant) new reply
MakesOnShard old who (wanted.Sar grant (Some value) stamp) now new reply =
    TellsPut old grant (sar_step old grant (Some value) stamp) new reply
MakesOnShard old who (wanted.Apply grant stamp) now new reply =
    TellsRelease old grant (apply_step old grant stamp) new reply
MakesOnShard old who (wanted.Abort grant) now new reply =
    TellsRelease old grant (abort_step old grant) new reply
MakesOnShard old who (wanted.Raise grant) now new reply =
    TellsRaise old grant (raise_step (past_of old) grant) new reply
MakesOnShard old who (wanted.Renew grant) now new reply =
    TellsRenewal old grant (renew_step old.terms (past_of old) grant now) new reply
MakesOnShard old who other now new reply = ⊥
