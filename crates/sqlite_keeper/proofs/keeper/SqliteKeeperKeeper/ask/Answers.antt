use Rattle.std.proofs.Common.{◌≡◌, ◌∙◌, IfOk, Option, Some, ap, refl, subst, rules}
use Rattle.rows_model.specs.Rows.{Tables}
use Rattle.rows_model.specs.Query.{answer}
use Rattle.sqlite_pool.specs.Pool.{state}
use Rattle.sqlite_keeper.proofs.keeper.SqliteKeeperKeeper.ask.Goals as goal

pub returns-clause-tells : goal.returns-clause-tells
unfolding state
returns-clause-tells c known_rows e =
    let some : c.args.self.now.base ≡ Some c.unwrap.result.now = search rules in
    let same = c.ask-outcome.ensures.same in
    let is : c.unwrap.result.now ≡ known_rows = cc in
    let answered = c.ask-outcome.ensures.tells (λ store. refl) in (
      some ∙ ap (λ (t : Tables). (let found : Option Tables = Some t in found)) is,
      subst (λ (rows : Tables). IfOk c.ask-outcome.result (λ value. value ≡ answer c.args.key.now rows)) is answered,
    )
