-- What a desk tells: lists that only grow, by one member at a time. The latest member is in front.
use Rattle.std.specs.Prelude.{ℕ, zero, suc, ◌≡◌, ◌≢◌, ◌==◌, ◌+◌, ◌⊎◌, Bool, true, IsTrue, List, [], ◌∷◌, All, Option, Some, None}
use Rattle.std.specs.List.{list_any}
use Rattle.std.specs.Option.{ForSome}
use Rattle.rows_model.specs.declared.keys.Sid.{Sid}
use Rattle.rows_model.specs.Delta.{is_count}
use Rattle.lease_table.specs.declared.records.Mode.TheVariants as mode
use Rattle.session_client.specs.declared.replies.Fault.{Fault}
use Rattle.session_client.specs.declared.replies.Fault.TheVariants as fault
use Rattle.session_client.specs.declared.replies.Reply.{Reply}
use Rattle.session_client.specs.declared.replies.Reply.TheVariants as Reply
use Rattle.session_client.specs.declared.replies.Wanted.{Wanted}
use Rattle.session_client.specs.declared.replies.Wanted.TheVariants as wanted

-- A list with one more member. One that isn't told stays untold.
abbrev pub with_member : {X : Type 0} → X → Option (List X) → Option (List X)
with_member member (Some members) = Some (member ∷ members)
with_member member None = None

-- One more than a count. One that isn't told stays untold.
abbrev pub one_more : Option ℕ → Option ℕ
one_more (Some count) = Some (count + 1)
one_more None = None

-- The member is not in the list, where that is told.
abbrev pub IsNew : {X : Type 0} → X → Option (List X) → Type 0
IsNew member listed = ForSome listed (λ members. All (λ other. other ≢ member) members)

-- The first so many sessions, numbered from 1.
abbrev pub sids_to : ℕ → List Sid
sids_to zero = []
sids_to (suc count) = record { number = suc count } ∷ sids_to count

-- A request that a desk can make: a delta is of a count, a new value goes with a grant to refresh, and a shift with a grant of a delta.
-- A grant to be raised is to invalidate.
abbrev pub IsProper : Wanted → Type 0
IsProper (wanted.Delta key by) = is_count key ≡ true
IsProper (wanted.Sar grant (Some value) stamp) = grant.mode ≡ mode.Refresh
IsProper (wanted.Apply grant stamp) = grant.mode ≡ mode.Delta
IsProper (wanted.Raise grant) = grant.mode ≡ mode.Invalidate
IsProper other = Unit {0}

-- A call that a desk answered: a session began, to write or to read, with this number; or a session's request was given this reply.
pub data Exchange : Type 0 where
  Began : (writes : Bool) (who : Sid) → Exchange
  Asked : (who : Sid) (request : Wanted) (reply : Reply) → Exchange

-- The session is in the list, which is told.
abbrev pub IsIn : Sid → Option (List Sid) → Type 0
IsIn who (Some members) = IsTrue (list_any (λ other. other.number == who.number) members)
IsIn who None = ⊥

-- Each session of the first list, where that is told, is in the second.
abbrev pub AreIn : Option (List Sid) → Option (List Sid) → Type 0
AreIn some others = ForSome some (λ sids. All (λ who. IsIn who others) sids)

-- A desk that tells whose steps it has seen tells which session it began last, and whether that may write.
abbrev pub IsLatest : Sid → Bool → Option (List Sid) → Option (Sid × Bool) → Type 0
IsLatest who writes seen latest = ForSome seen (λ _. latest ≡ Some (who, writes))

-- A request that a session may begin with: a get, or a quarantine of one that may write.
abbrev pub IsFirst : Bool → Wanted → Type 0
IsFirst writes (wanted.Get key floor) = Unit {0}
IsFirst true (wanted.QaReg key) = Unit {0}
IsFirst true (wanted.QaRead key) = Unit {0}
IsFirst true (wanted.Delta key by) = Unit {0}
IsFirst writes other = ⊥

-- Such a request of the session that the desk began last doesn't fail at the keeper; and a step has named the session
-- afterwards, unless it was answered with a fault.
abbrev pub BeginsSeen : Option (Sid × Bool) → Sid → Wanted → Reply → Option (List Sid) → Type 0
BeginsSeen latest who request reply seen = ForSome latest (λ first. first.0 ≡ who → IsFirst first.1 request
    → (reply ≢ Reply.Fault fault.Keep) × (((cause : Fault) × (reply ≡ Reply.Fault cause)) ⊎ IsIn who seen))
