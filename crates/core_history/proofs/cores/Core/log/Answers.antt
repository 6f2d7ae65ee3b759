use Rattle.std.proofs.Common.{◌≡◌, ap, subst}
use Rattle.std.specs.Prelude.{IsTrue}
use Rattle.sql_keeper.specs.Log.{keeps_log}
use Rattle.core_history.specs.Cores.{CoreView}
use Rattle.core_history.proofs.cores.Core.log.Goals as goal

pub returns : goal.returns
returns g c =
    let P : CoreView → Type 0 = λ v. IsTrue (keeps_log v.store.ledger.cap) → c.log.result.now ≡ v.store.ledger.log in
    record { items = λ origin moves kept. subst P c.self.view_is c.log.ensures.items (ap keeps_log kept.store.cap) }
