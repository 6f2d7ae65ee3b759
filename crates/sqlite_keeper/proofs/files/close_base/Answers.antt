use Rattle.std.proofs.Common.{◌≡◌, ◌∙◌, refl}
use Rattle.memory_disk.specs.contracts.stored.StoreDiskDisk.TheImpl as StoreDiskDisk
use Rattle.sqlite_pool.specs.Pool.{state}
use Rattle.sqlite_keeper.proofs.CloseLemmas.{moved_whole}
use Rattle.sqlite_keeper.proofs.files.close_base.Goals as goal

pub returns-clause-whole : goal.returns-clause-whole
unfolding state
returns-clause-whole c =
    let found = c.in_ok-log.field-0 in
    let log_is = c.in_ok-log.log-is in
    let db_is = c.in_ok-log.db-is in
    let log_same = c.in_ok-log-2.ensures.same in
    let db_same = c.in_ok-db.ensures.same in
    let log : c.in_ok-log-2.log.copy.bytes.items ≡ found.log.copy.bytes.items = cc in
    let db : c.in_ok-db.db.copy.bytes.items ≡ found.db.copy.bytes.items = cc in
    moved_whole StoreDiskDisk.ghosts c.args.base found (record { log = c.in_ok-log-2.log; db = c.in_ok-db.db }) log db
    (λ image left. (left.0 ∙ log, left.1 ∙ db)) (c.in_ok-log.ensures.whole (λ store. refl) refl)
