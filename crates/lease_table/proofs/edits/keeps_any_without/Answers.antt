use Rattle.std.proofs.Common.{rules, not}
use Rattle.std.proofs.lemmas.Fn.{filter_same}
use Rattle.lease_table.specs.Leases.{has_token}
use Rattle.lease_table.proofs.edits.keeps_any_without.Goals as goal

pub returns-in-Quarantines-clause-quars : goal.returns-in-Quarantines-clause-quars
returns-in-Quarantines-clause-quars c =
    rw c.in-Quarantines.is (filter_same _ (λ q. not (has_token c.args.token q)) _ (λ x b f' k. search rules) _ _ c.retain.ensures.filtered)
