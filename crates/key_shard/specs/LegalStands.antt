-- What stands on a key after a legal past: quarantines beside one another, or a lease to read.
use Rattle.std.specs.Prelude.{◌≡◌, ◌<◌, List, [], ◌∷◌, None, ◌⊎◌}
use Rattle.std.specs.List.{AllByRecursion}
use Rattle.rows_model.specs.declared.keys.QKey.{QKey}
use Rattle.lease_table.specs.declared.records.Quar.{Quar}
use Rattle.lease_table.specs.Leases.{StandBeside}
use Rattle.key_shard.specs.declared.steps.Step.{Step}
use Rattle.key_shard.specs.Past.{Terms, standing, recorded, next_token}
use Rattle.key_shard.specs.Answers.{IsLegalPast}

-- Each quarantine stands beside each later one.
abbrev pub AllStandBeside : List Quar → Type 0
AllStandBeside [] = Unit {0}
AllStandBeside (quar ∷ quars) = AllByRecursion (StandBeside quar) quars × AllStandBeside quars

-- What stands on a key: tokens that were drawn, quarantines beside one another, and no lease to read beside a quarantine.
pub record StandsWell (terms : Terms) (past : List Step) (key : QKey) : Type 0 where
  pub below : AllByRecursion (λ quar. quar.token < next_token terms past) (standing key past)
  pub beside : AllStandBeside (standing key past)
  pub apart : (recorded key past ≡ None) ⊎ (standing key past ≡ [])

-- After each legal past each key stands well.
abbrev pub LegalStandsWell : Type 0
LegalStandsWell = (terms : Terms) (past : List Step) → IsLegalPast terms past → (key : QKey) → StandsWell terms past key
