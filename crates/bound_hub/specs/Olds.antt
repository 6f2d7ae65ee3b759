-- The old value that comes along with a quarantine.
use Rattle.std.specs.Prelude.{ℕ, List, Option, None, Some}
use Rattle.rows_model.specs.declared.keys.QKey.{QKey}
use Rattle.rows_model.specs.Rows.{Tables}
use Rattle.key_shard.specs.declared.replies.QAnswer.{QAnswer}
use Rattle.key_shard.specs.declared.replies.QAnswer.TheVariants as quarantine
use Rattle.key_shard.specs.declared.replies.Raising.{Raising}
use Rattle.key_shard.specs.declared.replies.Raising.TheVariants as raising
use Rattle.key_shard.specs.declared.steps.Step.{Step}
use Rattle.log_word.specs.declared.seen.Seen.{Seen}
use Rattle.bound_hub.specs.Gets.{IsSeenHeld}

-- An old value, if there is one, is held by what is seen, and right unless it is seen that the store has
-- stopped telling its rows.
abbrev pub IsOldHeld : Tables → List Step → ℕ → Seen → QKey → Option (List ℕ × ℕ) → Type 0
IsOldHeld opening before number seen key None = Unit {0}
IsOldHeld opening before number seen key (Some old) = IsSeenHeld opening before number seen key old.0 old.1

-- So is the old value of a quarantine that is granted.
abbrev pub IsGrantHeld : Tables → List Step → ℕ → Seen → QKey → QAnswer → Type 0
IsGrantHeld opening before number seen key (quarantine.Granted grant old) = IsOldHeld opening before number seen key old
IsGrantHeld opening before number seen key other = Unit {0}

-- And that of one that is raised.
abbrev pub IsRaiseHeld : Tables → List Step → ℕ → Seen → QKey → Raising → Type 0
IsRaiseHeld opening before number seen key (raising.Raised grant old) = IsOldHeld opening before number seen key old
IsRaiseHeld opening before number seen key other = Unit {0}
