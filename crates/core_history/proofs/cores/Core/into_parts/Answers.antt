use Rattle.std.proofs.Common.{◌≡◌, subst}
use Rattle.std.specs.Option.{ForSome}
use Rattle.sql_keeper.specs.Log.{rows_after}
use Rattle.core_history.specs.Cores.{CoreView}
use Rattle.core_history.proofs.SoundLemmas.{sound}
use Rattle.core_history.proofs.cores.Core.into_parts.Goals as goal

pub returns-clause-sound : goal.returns-clause-sound
returns-clause-sound g c origin moves kept =
    let P : CoreView → Type 0 = λ v. ForSome v.store.known_rows (λ known. known ≡ rows_after v.store.ledger.opening v.store.ledger.log) in
    sound c.args.self origin moves kept (subst P c.self.view_is c.into_parts-keeper.ensures.told)
