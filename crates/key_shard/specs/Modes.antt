-- How a quarantine may end, by its mode: with a new value one to refresh alone, and with a shift one to shift alone, by its own number.
use Rattle.std.specs.Prelude.{ℕ, ◌≡◌, List, ◌∷◌, ◌++◌, Some}
use Rattle.rows_model.specs.declared.keys.QKey.{QKey}
use Rattle.rows_model.specs.declared.keys.Sid.{Sid}
use Rattle.lease_table.specs.declared.records.Mode.TheVariants as modes
use Rattle.lease_table.specs.declared.records.Quar.{Quar}
use Rattle.key_shard.specs.declared.steps.Ended.{Ended}
use Rattle.key_shard.specs.declared.steps.Ended.TheVariants as ended
use Rattle.key_shard.specs.declared.steps.Step.{Step}
use Rattle.key_shard.specs.declared.steps.Step.TheVariants.{Released}
use Rattle.key_shard.specs.Past.{Terms, quar_of}
use Rattle.key_shard.specs.Answers.{Answers, IsLegalPast}

-- A quarantine may end so: with a new value it is to refresh, and with a shift it is to shift, by this number.
abbrev pub MayEnd : Quar → Ended → Type 0
MayEnd quar ended.Keep = Unit {0}
MayEnd quar ended.Drop = Unit {0}
MayEnd quar (ended.Put value stamp evicted) = quar.mode ≡ modes.Refresh
MayEnd quar (ended.Shift by stamp) = (quar.mode ≡ modes.Delta) × (by ≡ quar.shift)

-- The quarantine of this token stands on the key, is the session's, and may end so.
abbrev pub StandsToEnd : List Step → QKey → Sid → ℕ → Ended → Type 0
StandsToEnd past key sid token how =
    (quar : Quar) × (quar_of key token past ≡ Some quar) × (quar.sid ≡ sid) × MayEnd quar how

-- A step that answers a request and ends a quarantine ends one that stands, as its mode has it.
abbrev pub AnswersEndByMode : Type 0
AnswersEndByMode =
    (terms : Terms) (past : List Step) (key : QKey) (sid : Sid) (token : ℕ) (how : Ended)
    → Answers terms past (Released key sid token how) → StandsToEnd past key sid token how

-- So does each step of a legal past that ends a quarantine.
abbrev pub LegalEndsByMode : Type 0
LegalEndsByMode =
    (terms : Terms) (later past : List Step) (key : QKey) (sid : Sid) (token : ℕ) (how : Ended)
    → IsLegalPast terms (later ++ Released key sid token how ∷ past) → StandsToEnd past key sid token how
