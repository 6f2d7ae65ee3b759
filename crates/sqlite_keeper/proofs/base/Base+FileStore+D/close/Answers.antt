use Rattle.std.proofs.Common.{◌≡◌, true, subst, arith}
use Rattle.rows_model.specs.Rows.{Tables}
use Rattle.sqlite_store.specs.contracts.store.FileStoreStore.TheImpl as FileStoreStore
use Rattle.sqlite_keeper.specs.Bases.{seen_in}
use Rattle.sqlite_keeper.specs.Closings.{AreWhole}
use Rattle.sqlite_keeper.proofs.CloseLemmas.{copied_whole}
use Rattle.sqlite_keeper.proofs.base.Base+FileStore+D.close.Goals as goal

pub returns-in-Ok-clause-whole : goal.returns-in-Ok-clause-whole
returns-in-Ok-clause-whole g c = λ never clean.
    let seen = seen_in (FileStoreStore.ghosts g.row.D g.D.Disk g.D.Disk-dict) c.self.inside.last.items in
    let files = c.in-Ok.files in
    let idle : c.is_autocommit.result ≡ true = grind arith in
    let settled = c.is_autocommit.ensures.settled idle in
    subst (λ (rows : Tables). AreWhole g.D.Disk rows files) c.self.view_is
    (copied_whole g.D.Disk c.self.inside.tally seen c.self.inside.conn files (c.self.invariant never) settled (c.in-Ok.ensures.copied clean))
