-- The keeper may go to another thread.
use denote.RattleType.{RattleType}
use denote.Param.Send.{IsSend, sendable}
use Rattle.std.proofs.Crossing.{crosses}
use Rattle.http_server.proofs.log.Log.TheSendSync as log
use Rattle.sqlite_trees.specs.declared.store.Store as store
use Rattle.memory_disk.specs.contracts.stored.StoreDisk as StoreDisk
use Rattle.memory_disk.specs.contracts.stored.StoreDiskDisk.TheImpl as StoreDiskDisk
use Rattle.sqlite_keeper.specs.contracts.base.Base as Base
use Rattle.sqlite_keeper.specs.contracts.keeper.SqliteKeeper as SqliteKeeper
use Rattle.sqlite_keeper.proofs.StoreCrosses.{disk_send, store_send}
use Rattle.sqlite_keeper.proofs.ConnectionCrosses.{connection_send}

module _ (S : RattleType) (g : store.Ghosts S.Denot) where
  base_send : IsSend S → IsSend (Base.the_field S g).row
  base_send s = let below = connection_send S g s in search (sendable, crosses, log.the_send) depth 100

pub keeper_send : IsSend (SqliteKeeper.the_field).row
keeper_send =
    let disk = disk_send in
    let below = store_send StoreDisk.the_row StoreDiskDisk.ghosts disk in
    search (sendable, crosses, base_send) depth 100
