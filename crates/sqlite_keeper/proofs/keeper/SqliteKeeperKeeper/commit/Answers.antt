use Rattle.std.proofs.Common.{◌≡◌, Some, refl, subst, rules}
use Rattle.rows_model.specs.Rows.{Tables}
use Rattle.sql_keeper.specs.Keepers.{Commits}
use Rattle.sqlite_pool.specs.Pool.{state}
use Rattle.sqlite_keeper.proofs.keeper.SqliteKeeperKeeper.commit.Goals as goal

pub returns-clause-tells : goal.returns-clause-tells
unfolding state
returns-clause-tells c known_rows e =
    let some : c.args.self.now.base ≡ Some c.unwrap.result.now = search rules in
    let is : c.commit-outcome.new.self ≡ known_rows = cc in
    let made = c.commit-outcome.ensures.tells (λ store. refl) in
    (c.unwrap.result.now, some, subst (λ (rows : Tables). Commits c.args.txn.now c.unwrap.result.now rows c.commit-outcome.result) is made)
