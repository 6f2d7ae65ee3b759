-- What a desk was asked and what it replied, and what its pass has seen of that. Calls are listed with the latest first.
use Rattle.std.specs.Prelude.{ℕ, ◌≡◌, ◌==◌, Bool, true, false, List, [], ◌∷◌, map, Option, Some, None, Result}
use Rattle.std.specs.List.{IsDistinct}
use Rattle.std.specs.Option.{ForSome}
use Rattle.rows_model.specs.declared.keys.QKey.{QKey}
use Rattle.rows_model.specs.declared.keys.Sid.{Sid}
use Rattle.rows_model.specs.Placement.{shard_of}
use Rattle.key_shard.specs.declared.replies.Got.{Got}
use Rattle.key_shard.specs.declared.replies.ShardFault.TheVariants as faults
use Rattle.key_shard.specs.declared.steps.Step.{Step}
use Rattle.key_shard.specs.Past.{Terms}
use Rattle.session_client.specs.Belongs.{get_reply}
use Rattle.session_client.specs.declared.replies.Fault.{Fault}
use Rattle.session_client.specs.declared.replies.Fault.TheVariants as fault
use Rattle.session_client.specs.declared.replies.Reply.{Reply}
use Rattle.session_client.specs.declared.replies.Wanted.{Wanted}
use Rattle.session_client.specs.declared.replies.Wanted.TheVariants as wanted
use Rattle.session_client.specs.Desks.{Exchange, Began, Asked, IsFirst}
use Rattle.log_word.specs.declared.events.Short.{Short}
use Rattle.log_word.specs.declared.events.ShortKind.{ShortKind}
use Rattle.log_word.specs.declared.events.ShortKind.TheVariants as kinds
use Rattle.log_word.specs.declared.events.StoreEvent.TheVariants.{Begin}
use Rattle.log_word.specs.declared.seen.Seen.{Seen}
use Rattle.log_word.specs.Lists.{Among, steps_of}
use Rattle.bound_hub.specs.Spent.{SeesSpent}
use Rattle.desk_book.specs.Books.{Book, first_book}
use Rattle.bound_desk.specs.declared.records.Look.{Look}

-- The calls of which a record is made: the begin of each session, and each request with its reply.
abbrev pub began_calls : List (Sid × Bool) → List Exchange
began_calls begins = map (λ (one : Sid × Bool). Began one.1 one.0) begins

abbrev pub asked_calls : Reply → List (Sid × Wanted) → List Exchange
asked_calls reply requests = map (λ (one : Sid × Wanted). Asked one.0 one.1 reply) requests

-- So is each get with its answer.
abbrev pub looked_calls : List (Look × Result Got Fault) → List Exchange
looked_calls looks = map (λ (one : Look × Result Got Fault). Asked one.0.who (wanted.Get one.0.key one.0.floor) (get_reply one.1)) looks

-- Whether a step of this kind names its session: one that follows a set doesn't.
abbrev pub has_session : ShortKind → Bool
has_session kinds.Stored = false
has_session kinds.Void = false
has_session other = true

-- A step of the key's shard is seen, one of so many, that names the session.
pub record IsNamed (shards : ℕ) (who : Sid) (seen : Seen) : Type 0 where
  pub step : Short
  pub among : Among step (steps_of (shard_of step.key shards) seen.steps)
  pub kind : has_session step.kind ≡ true
  pub named : step.sid ≡ who

-- What the first request of a session leaves, by its reply: a step that names the session. There is none where memory ran
-- out, or where the key's shard had no token left, and then that is seen.
abbrev pub ShowsFirst : (ℕ → Terms) → (ℕ → List Step) → ℕ → Sid → Reply → Seen → Type 0
ShowsFirst terms before shards who (Reply.Fault fault.Memory) seen = Unit {0}
ShowsFirst terms before shards who (Reply.Fault fault.Keep) seen = ⊥
ShowsFirst terms before shards who (Reply.Fault fault.Spent) seen =
    (key : QKey) × SeesSpent terms before (shard_of key shards) seen (faults.Spent 0)
ShowsFirst terms before shards who other seen = IsNamed shards who seen

-- The session that the last of these calls began, and whether it may write. Another call began none.
abbrev pub latest_in : List Exchange → Option (Sid × Bool)
latest_in (Began writes who ∷ calls) = Some (who, writes)
latest_in calls = None

-- The sessions that these calls began.
abbrev pub began_in : List Exchange → List Sid
began_in [] = []
began_in (Began writes who ∷ calls) = who ∷ began_in calls
began_in (Asked who request reply ∷ calls) = began_in calls

-- What is seen of a call: the Begin of a session, by the worker's desk, and what a session's first request leaves.
abbrev pub IsCallSeen : (ℕ → Terms) → (ℕ → List Step) → ℕ → ℕ → Option (Sid × Bool) → Exchange → Seen → Type 0
IsCallSeen terms before shards worker latest (Began writes who) seen = Among (Begin who worker writes) seen.events
IsCallSeen terms before shards worker latest (Asked who request reply) seen =
    ForSome latest (λ first. first.0 ≡ who → IsFirst first.1 request → ShowsFirst terms before shards who reply seen)

-- So it is of each of these calls.
abbrev pub AreCallsSeen : (ℕ → Terms) → (ℕ → List Step) → ℕ → ℕ → List Exchange → Seen → Type 0
AreCallsSeen terms before shards worker [] seen = Unit {0}
AreCallsSeen terms before shards worker (call ∷ calls) seen =
    IsCallSeen terms before shards worker (latest_in calls) call seen × AreCallsSeen terms before shards worker calls seen

-- And no two of the sessions that they began have the same number.
pub record IsRecordSeen (terms : ℕ → Terms) (before : ℕ → List Step) (shards worker : ℕ) (calls : List Exchange) (seen : Seen) : Type 0 where
  pub each : AreCallsSeen terms before shards worker calls seen
  pub once : IsDistinct (λ (one other : Sid). one.number == other.number) (began_in calls)

-- Where a desk's last call began a session, its book is that of a session that was told nothing yet.
abbrev pub IsFreshBook : List Exchange → Book → Type 0
IsFreshBook calls book = ForSome (latest_in calls) (λ first. book ≡ first_book first.0 first.1)
