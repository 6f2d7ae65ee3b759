-- What has to be seen before the quarantine of a session is ended by a sweeper.
use Rattle.std.specs.Prelude.{ℕ, ◌≡◌, ◌==◌, ◌&&◌, Bool, true}
use Rattle.std.specs.List.{list_any}
use Rattle.rows_model.specs.declared.keys.QKey.{QKey}
use Rattle.log_word.specs.declared.events.Short.{Short}
use Rattle.log_word.specs.declared.seen.Seen.{Seen}
use Rattle.log_word.specs.Lists.{steps_of}
use Rattle.log_word.specs.Steps.{grants}

-- The step grants the session a quarantine of the key, under this token.
abbrev pub grants_as : QKey → ℕ → ℕ → Short → Bool
grants_as key who token step = grants key who step && (step.token == token)

-- A pass that has seen this has seen that grant, among the steps of the shard of this number.
abbrev pub HasSeenGrant : ℕ → QKey → ℕ → ℕ → Seen → Type 0
HasSeenGrant number key who token seen = list_any (grants_as key who token) (steps_of number seen.steps) ≡ true
