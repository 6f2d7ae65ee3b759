-- What a step of the sweeper's does to shards, store and sweeper.
use Rattle.std.specs.Prelude.{◌≡◌, ◌≤◌, List, [], ◌∷◌, Result, IfOk}
use Rattle.rows_model.specs.declared.refusals.Memory.{Memory}
use Rattle.key_shard.specs.Shards.{ShardView}
use Rattle.expiry_sweeper.specs.declared.replies.SweepReply.{SweepReply}
use Rattle.expiry_sweeper.specs.declared.replies.SweepWanted.{SweepWanted}
use Rattle.expiry_sweeper.specs.declared.replies.SweepWanted.TheVariants as sweep
use Rattle.expiry_sweeper.specs.declared.sweepers.Sweeper.{Sweeper}
use Rattle.sql_keeper.specs.Stores.{StoreView}
use Rattle.session_client.specs.declared.plans.Shape.{Shape}
use Rattle.core_history.specs.declared.turn_lines.TurnLine.{TurnLine}
use Rattle.core_history.specs.Cores.{Origin, HasShards, HasSweeper}
use Rattle.core_history.specs.Events.{swept_in}
use Rattle.core_history.specs.Machine.{World, sweep_of, swept_next}
use Rattle.core_history.specs.Requests.{AreAfter, IsStoreAfter, after}
use Rattle.core_history.specs.TurnLines.{IsLineOf}

-- A session that is to be ended has a number, which count from 1.
abbrev pub IsNumbered : SweepWanted → Type 0
IsNumbered (sweep.Scan shard) = Unit {0}
IsNumbered (sweep.End who) = 1 ≤ who.number
IsNumbered (sweep.Drop key token) = Unit {0}

-- This is what the event of a request of the sweeper's tells it.
abbrev pub IsSweepReply : Shape → World → SweepWanted → SweepReply → Type 0
IsSweepReply shape world request reply = swept_in (sweep_of shape world request) ≡ reply ∷ []

-- A request of the sweeper's was made on a shard: the shards stand after its event, which tells this.
abbrev pub SweepsShards : Shape → World → SweepWanted → List ShardView → SweepReply → Type 0
SweepsShards shape world request shards reply =
    IsSweepReply shape world request reply × HasShards shards shape (sweep_of shape world request ∷ world.past)

-- One was made at the store: the store stands after its event, which tells this.
abbrev pub SweepsStore : Origin → World → SweepWanted → StoreView → SweepReply → Type 0
SweepsStore origin world request store reply =
    IsSweepReply origin.shape world request reply × IsStoreAfter store origin (after world (sweep_of origin.shape world request))

-- A request of the sweeper's was made: shards and store stand after its event, which tells this.
abbrev pub Sweeps : Origin → World → SweepWanted → List ShardView → StoreView → SweepReply → Type 0
Sweeps origin world request shards store reply =
    IsSweepReply origin.shape world request reply × AreAfter shards store origin (after world (sweep_of origin.shape world request))

-- The sweeper took its next step: shards, store and sweeper stand after its event, whose line was told unless memory ran out.
abbrev pub TakesSweep : Origin → World → List ShardView → StoreView → Sweeper → Result TurnLine Memory → Type 0
TakesSweep origin world shards store sweeper result =
    AreAfter shards store origin (after world (sweep_of origin.shape world (swept_next origin.shape world)))
    × HasSweeper sweeper origin.shape (sweep_of origin.shape world (swept_next origin.shape world) ∷ world.past)
    × IfOk result (IsLineOf (sweep_of origin.shape world (swept_next origin.shape world)))
