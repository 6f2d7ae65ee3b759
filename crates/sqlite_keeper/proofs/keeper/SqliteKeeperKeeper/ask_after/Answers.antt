use Rattle.std.proofs.Common.{◌≡◌, ◌∙◌, Option, Some, ap, refl, subst, rules}
use Rattle.rows_model.specs.Rows.{Tables}
use Rattle.sql_keeper.specs.Keepers.{AnswersAfter}
use Rattle.sqlite_pool.specs.Pool.{state}
use Rattle.sqlite_keeper.proofs.keeper.SqliteKeeperKeeper.ask_after.Goals as goal

pub returns-clause-tells : goal.returns-clause-tells
unfolding state
returns-clause-tells c known_rows e =
    let some : c.args.self.now.base ≡ Some c.unwrap.result.now = search rules in
    let same = c.ask_after-outcome.ensures.same in
    let is : c.unwrap.result.now ≡ known_rows = cc in
    let answered = c.ask_after-outcome.ensures.tells (λ store. refl) in (
      some ∙ ap (λ (t : Tables). (let found : Option Tables = Some t in found)) is,
      subst (λ (rows : Tables). AnswersAfter c.args.txn.now c.args.key.now rows c.ask_after-outcome.result) is answered,
    )
