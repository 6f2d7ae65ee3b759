-- A request that was made on a shard leaves the store, and one at the store leaves the shards.
use Rattle.std.proofs.Common.{◌≡◌, ◌∷◌, List, Some, None, Result, Ok, Err, refl}
use Rattle.rows_model.specs.declared.keys.QKey.{QKey}
use Rattle.rows_model.specs.declared.keys.Sid.{Sid}
use Rattle.rows_model.specs.declared.refusals.Memory.{Memory}
use Rattle.rows_model.specs.Placement.{shard_of}
use Rattle.key_shard.specs.declared.steps.Step.{Step}
use Rattle.key_shard.specs.Shards.{ShardView}
use Rattle.sql_keeper.specs.Stores.{StoreView}
use Rattle.session_client.specs.declared.plans.Shape.{Shape}
use Rattle.session_client.specs.declared.replies.Reply.{Reply}
use Rattle.session_client.specs.declared.replies.Reply.TheVariants as Reply
use Rattle.session_client.specs.declared.replies.Wanted.{Wanted}
use Rattle.session_client.specs.declared.replies.Wanted.TheVariants as wanted
use Rattle.executor.specs.Requests.{key_of}
use Rattle.core_history.specs.Cores.{Origin, HasShards}
use Rattle.core_history.specs.Events.{Stepped, steps_of}
use Rattle.core_history.specs.Machine.{World, Said, Failed, event_of, terms_of, step_reply}
use Rattle.core_history.specs.Requests.{IsStoreAfter, MakesStep, MakesCall, Makes}
use Rattle.core_history.proofs.OpenLemmas.{phases_same}
use Rattle.core_history.proofs.StoreEvents.{IsQuiet, quiet_shown, store_quiet}
use Rattle.core_history.proofs.ShardsLemmas.{shards_called}

-- a turn that tells what a step shows on the shard of a key is quiet
quiet_at : (shape : Shape) (world : World) (who : Sid) (request : Wanted) (key : QKey) (made s : Step)
    → IsQuiet (Stepped (shard_of key shape.shards) who request made
    (step_reply (terms_of shape (shard_of key shape.shards)) (steps_of (shard_of key shape.shards) world.past) s))
quiet_at shape world who request key made s =
    let home = shard_of key shape.shards in
    quiet_shown home who request made (terms_of shape home) (steps_of home world.past) s

-- a request on a shard is quiet
pub quiet_request : (shape : Shape) (world : World) (who : Sid) (request : Wanted) (key : QKey) → key_of request ≡ Some key
    → IsQuiet (event_of shape world who request Failed)
quiet_request shape world who (wanted.Get asked floor) key on = quiet_at shape world who _ asked _ _
quiet_request shape world who (wanted.Set asked token value stamp) key on = quiet_at shape world who _ asked _ _
quiet_request shape world who (wanted.QaReg asked) key on = quiet_at shape world who _ asked _ _
quiet_request shape world who (wanted.QaRead asked) key on = quiet_at shape world who _ asked _ _
quiet_request shape world who (wanted.Delta asked by) key on = quiet_at shape world who _ asked _ _
quiet_request shape world who (wanted.Dar grant) key on = quiet_at shape world who _ grant.key _ _
quiet_request shape world who (wanted.Sar grant value stamp) key on = quiet_at shape world who _ grant.key _ _
quiet_request shape world who (wanted.Apply grant stamp) key on = quiet_at shape world who _ grant.key _ _
quiet_request shape world who (wanted.Abort grant) key on = quiet_at shape world who _ grant.key _ _
quiet_request shape world who (wanted.Raise grant) key on = record { commits = refl; ends = refl; fault = refl; truth = λ rows. tt }
quiet_request shape world who (wanted.Renew grant) key on = record { commits = refl; ends = refl; fault = refl; truth = λ rows. tt }
quiet_request shape world who other key on = absurd cc

-- a request at the store leaves the shards
same_shards : (shards : List ShardView) (shape : Shape) (world : World) (who : Sid) (request : Wanted) (said : Said)
    → key_of request ≡ None → HasShards shards shape world.past → HasShards shards shape (event_of shape world who request said ∷ world.past)
same_shards shards shape world who (wanted.Ask key) said at has = shards_called shards shape world.past who (wanted.Ask key) _ has
same_shards shards shape world who (wanted.Staged key txn) said at has = shards_called shards shape world.past who (wanted.Staged key txn) _ has
same_shards shards shape world who (wanted.Commit txn grants) said at has = shards_called shards shape world.past who (wanted.Commit txn grants) _ has
same_shards shards shape world who wanted.End said at has = shards_called shards shape world.past who wanted.End _ has
same_shards shards shape world who wanted.Nothing said at has = shards_called shards shape world.past who wanted.Nothing _ has
same_shards shards shape world who other said at has = absurd cc

pub makes_step : (origin : Origin) (world : World) (who : Sid) (request : Wanted) (key : QKey) (shards : List ShardView) (store : StoreView)
    (result : Result Reply Memory) → key_of request ≡ Some key → IsStoreAfter store origin world →
    MakesStep origin.shape world who request shards result → Makes origin world who request shards store result
makes_step origin world who request key shards store (Ok reply) on stands made =
    let event = event_of origin.shape world who request Failed in
    let quiet = quiet_request origin.shape world who request key on in (
      Failed,
      made.0,
      (made.1, (store_quiet store origin world.past event stands.0 quiet, phases_same store.ledger.sessions world event stands.1 quiet.commits quiet.ends)),
    )
makes_step origin world who request key shards store (Err memory) on stands made = (made, stands)

pub makes_call : (origin : Origin) (world : World) (who : Sid) (request : Wanted) (shards : List ShardView) (store : StoreView) (result : Result Reply Memory)
    → key_of request ≡ None → HasShards shards origin.shape world.past →
    MakesCall origin world who request store result → Makes origin world who request shards store result
makes_call origin world who request shards store (Ok reply) at has made =
    (made.0, made.1, (same_shards shards origin.shape world who request made.0 at has, made.2))
makes_call origin world who request shards store (Err memory) at has made = (has, made)
