-- The store of a database over a disk may go to another thread where the disk may. A `search` that goes down through
-- all parts at once runs out of steps, so each part has its fact, as what holds it has it.
use denote.RattleType.{RattleType}
use denote.Param.Send.{IsSend, sendable}
use Rattle.std.proofs.Crossing.{crosses}
use Rattle.sqlite_disk.specs.declared.Disk as disk
use Rattle.memory_disk.specs.contracts.MemoryDisk as MemoryDisk
use Rattle.memory_disk.specs.contracts.stored.StoreDisk as StoreDisk
use Rattle.sqlite_std_file.specs.contracts.host.Host as Host
use Rattle.sqlite_wal.specs.contracts.log.Log as Log
use Rattle.sqlite_pager.specs.contracts.pager.Pager as Pager
use Rattle.sqlite_pool.specs.contracts.backing.Backing as Backing
use Rattle.sqlite_pool.specs.contracts.pool.Pool as Pool
use Rattle.sqlite_value.specs.contracts.row.Row as Row
use Rattle.sqlite_btree.specs.contracts.scratch.Scratch as Scratch
use Rattle.sqlite_btree.specs.contracts.batch.Batch as Batch
use Rattle.sqlite_store.specs.contracts.catalog.Wanted as Wanted
use Rattle.sqlite_store.specs.contracts.saved.Listed as Listed
use Rattle.sqlite_store.specs.contracts.saved.Saved as Saved
use Rattle.sqlite_store.specs.contracts.cursor.Cursor as Cursor
use Rattle.sqlite_store.specs.contracts.limits.Limits as Limits
use Rattle.sqlite_store.specs.contracts.store.FileStore as FileStore

memory_send : IsSend (MemoryDisk.the_field).row
memory_send = search (sendable, crosses) depth 40

host_send : IsSend (Host.the_field).row
host_send = search (sendable, crosses) depth 40

pub disk_send : IsSend StoreDisk.the_row
disk_send = search (sendable, crosses, memory_send, host_send) depth 40

row_send : IsSend (Row.the_field).row
row_send = search (sendable, crosses) depth 40

scratch_send : IsSend (Scratch.the_field).row
scratch_send = search (sendable, crosses) depth 40

batch_send : IsSend (Batch.the_field).row
batch_send = search (sendable, crosses) depth 40

wanted_send : IsSend (Wanted.the_field).row
wanted_send = search (sendable, crosses, row_send) depth 40

listed_send : IsSend (Listed.the_field).row
listed_send = search (sendable, crosses, wanted_send) depth 40

saved_send : IsSend (Saved.the_field).row
saved_send = search (sendable, crosses, wanted_send, listed_send) depth 40

cursor_send : IsSend (Cursor.the_field).row
cursor_send = search (sendable, crosses, batch_send) depth 40 fits 10000

limits_send : IsSend (Limits.the_field).row
limits_send = search (sendable, crosses) depth 40

module _ (D : RattleType) (g : disk.Ghosts D.Denot) where
  log_send : IsSend D → IsSend (Log.the_field D g).row
  log_send s = search (sendable, crosses) depth 40

  pager_send : IsSend D → IsSend (Pager.the_field D g).row
  pager_send s = let below = log_send s in search (sendable, crosses) depth 40

  backing_send : IsSend D → IsSend (Backing.the_field D g).row
  backing_send s = let below = pager_send s in search (sendable, crosses) depth 40

  pool_send : IsSend D → IsSend (Pool.the_field D g).row
  pool_send s = let below = backing_send s in search (sendable, crosses) depth 40

  pub store_send : IsSend D → IsSend (FileStore.the_row D g)
  store_send s = let below = pool_send s in search (sendable, crosses, wanted_send, saved_send, cursor_send, scratch_send, limits_send) depth 40 fits 10000
