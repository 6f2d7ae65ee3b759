-- What a request that is made does to shards and store.
use Rattle.std.specs.Prelude.{ℕ, Bool, true, false, ◌≡◌, ◌-◌, List, ◌∷◌, Result, MatchResult, length, Some, None, slice_get, slice_set, OnOk, IsTrue, ◌⊎◌}
use Rattle.std.specs.Bool.{IsFalse}
use Rattle.rows_model.specs.declared.keys.Sid.{Sid}
use Rattle.rows_model.specs.declared.refusals.Memory.{Memory}
use Rattle.rows_model.specs.Placement.{shard_of}
use Rattle.key_shard.specs.Permit.{Permit}
use Rattle.key_shard.specs.Shards.{ShardView, is_out}
use Rattle.sql_keeper.specs.Stores.{StoreView}
use Rattle.session_client.specs.declared.plans.Shape.{Shape}
use Rattle.session_client.specs.declared.replies.Reply.{Reply}
use Rattle.session_client.specs.declared.replies.Reply.TheVariants as Reply
use Rattle.sql_keeper.specs.declared.faults.AfterFault.TheVariants as staged
use Rattle.sql_keeper.specs.declared.faults.CommitFault.TheVariants as faults
use Rattle.session_client.specs.declared.replies.Fault.TheVariants as causes
use Rattle.session_client.specs.declared.replies.Wanted.{Wanted}
use Rattle.session_client.specs.declared.replies.Wanted.TheVariants as wanted
use Rattle.session_client.specs.declared.sessions.Session.{Session}
use Rattle.session_client.specs.Follows.{plan_of, sid_of, IsReady, Follows}
use Rattle.session_client.specs.Wants.{wants}
use Rattle.core_history.specs.declared.turn_lines.TurnLine.{TurnLine}
use Rattle.core_history.specs.Cores.{Origin, HasShards, HasStore, HasPhases}
use Rattle.core_history.specs.Events.{Event, now_of, reply_in}
use Rattle.core_history.specs.Machine.{World, Said, Failed, event_of}
use Rattle.core_history.specs.TurnLines.{IsLineOf}

-- The grant is out at the shard of its key.
abbrev pub IsGrantOut : List ShardView → Permit → Type 0
IsGrantOut shards grant =
    (shard : ShardView) → slice_get shards (shard_of grant.key (length shards)) ≡ Some shard → IsTrue (is_out shard grant)

-- A grant that is to be released, raised or renewed is out.
abbrev pub IsOutWhereReleased : List ShardView → Wanted → Type 0
IsOutWhereReleased shards (wanted.Dar grant) = IsGrantOut shards grant
IsOutWhereReleased shards (wanted.Sar grant value stamp) = IsGrantOut shards grant
IsOutWhereReleased shards (wanted.Apply grant stamp) = IsGrantOut shards grant
IsOutWhereReleased shards (wanted.Abort grant) = IsGrantOut shards grant
IsOutWhereReleased shards (wanted.Raise grant) = IsGrantOut shards grant
IsOutWhereReleased shards (wanted.Renew grant) = IsGrantOut shards grant
IsOutWhereReleased shards other = Unit {0}

-- Whether a reply tells that memory ran out.
abbrev pub tells_memory : Reply → Bool
tells_memory (Reply.Fault causes.Memory) = true
tells_memory (Reply.NotStaged staged.Memory txn) = true
tells_memory (Reply.NotCommitted faults.Memory txn grants) = true
tells_memory (Reply.SarBack grant) = true
tells_memory (Reply.RaiseBack grant) = true
tells_memory (Reply.Renew grant None) = true
tells_memory other = false

-- A turn ends where its reply tells that memory ran out, and goes on with any other reply.
abbrev pub GoesOn : Reply → Result Reply Memory → Type 0
GoesOn reply result = MatchResult result (λ kept. (kept ≡ reply) × IsFalse (tells_memory reply)) (λ _. IsTrue (tells_memory reply))

-- The session of this number waits for its turn: it was told what came of its last request. A grant that it
-- wants to release, raise or renew is out.
pub record IsWaiting (shards : List ShardView) (who : Sid) (session : Session) : Type 0 where
  pub ready : IsReady session
  pub sid : sid_of session ≡ who
  pub heard : List Reply
  pub follows : Follows session false heard
  pub released : IsOutWhereReleased shards (wants (plan_of session) false heard)

-- The store stands after the events of this world, and has its sessions open as the machine does.
abbrev pub IsStoreAfter : StoreView → Origin → World → Type 0
IsStoreAfter store origin world = HasStore store origin world.past × HasPhases store.ledger.sessions world

-- So do the shards.
abbrev pub AreAfter : List ShardView → StoreView → Origin → World → Type 0
AreAfter shards store origin world = HasShards shards origin.shape world.past × IsStoreAfter store origin world

-- The world after an event.
abbrev pub after : World → Event → World
after world event = record { plans = world.plans; past = event ∷ world.past }

-- A request on a shard was made: the shards stand after its event, whose reply this is. For want of memory they stand as before. The keeper is not asked.
abbrev pub MakesStep : Shape → World → Sid → Wanted → List ShardView → Result Reply Memory → Type 0
MakesStep shape world who request shards result =
    MatchResult result (λ reply. (reply ≡ reply_in (event_of shape world who request Failed))
    × HasShards shards shape (event_of shape world who request Failed ∷ world.past))
    (λ _. HasShards shards shape world.past)

-- A request at the store was made, for some word of the keeper: the store stands after its event, whose reply this is. For want of memory it stands as before.
abbrev pub MakesCall : Origin → World → Sid → Wanted → StoreView → Result Reply Memory → Type 0
MakesCall origin world who request store result =
    MatchResult result (λ reply. (said : Said) × (reply ≡ reply_in (event_of origin.shape world who request said))
    × IsStoreAfter store origin (after world (event_of origin.shape world who request said)))
    (λ _. IsStoreAfter store origin world)

-- A request was made, for some word of the keeper: shards and store stand after its event, whose reply this is. For want of memory they stand as before.
abbrev pub Makes : Origin → World → Sid → Wanted → List ShardView → StoreView → Result Reply Memory → Type 0
Makes origin world who request shards store result =
    MatchResult result (λ reply. (said : Said) × (reply ≡ reply_in (event_of origin.shape world who request said))
    × AreAfter shards store origin (after world (event_of origin.shape world who request said)))
    (λ _. AreAfter shards store origin world)

-- A turn was taken in which this was wanted: shards, store and session stand after its
-- event, whose line was told. For want of memory the event may have been made or not.
abbrev pub TakesTurn : Origin → World → Sid → Wanted → List Reply → List ShardView → StoreView → Session → Result TurnLine Memory → Type 0
TakesTurn origin world who request heard shards store session result =
    MatchResult result (λ printed. (said : Said) × IsLineOf (event_of origin.shape world who request said) printed
    × AreAfter shards store origin (after world (event_of origin.shape world who request said))
    × Follows session false (reply_in (event_of origin.shape world who request said) ∷ heard))
    (λ _. AreAfter shards store origin world ⊎ ((said : Said) × AreAfter shards store origin (after world (event_of origin.shape world who request said))))

-- A turn of one of these sessions was taken at this time: it alone has changed, and not its plan and number, and it took its turn.
abbrev pub TakesOne : List ShardView → StoreView → List Session → Sid → ℕ → List ShardView → StoreView → List Session → Result TurnLine Memory → Type 0
TakesOne shards store sessions who now shards_new store_new sessions_new result =
    (session : Session) → slice_get sessions (who.number - 1) ≡ Some session
    → (new : Session) × (sessions_new ≡ slice_set sessions (who.number - 1) new)
    × (plan_of new ≡ plan_of session) × (sid_of new ≡ sid_of session) × OnOk result (IsReady new)
    × ((origin : Origin) (world : World) (heard : List Reply) → AreAfter shards store origin world → now ≡ now_of world.past → Follows session false heard
    → TakesTurn origin world who (wants (plan_of session) false heard) heard shards_new store_new new result)
