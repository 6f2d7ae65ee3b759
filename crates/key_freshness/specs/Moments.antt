-- Moments of a key: a lease was given, or a quarantine granted that stands alone.
use Rattle.std.specs.Prelude.{ℕ, ◌≡◌, ◌⊎◌, List, ◌++◌, Option, None, Some}
use Rattle.rows_model.specs.declared.keys.QKey.{QKey}
use Rattle.key_freshness.specs.Marks.{Mark, Granted, Ended, Has}
use Rattle.key_freshness.specs.Known.{Known, IsRuled}

-- The session is the one that a moment is of: nobody for a lease, the session that quarantines alone else.
abbrev pub IsMine : Option ℕ → ℕ → Type 0
IsMine None who = ⊥
IsMine (Some mine) who = who ≡ mine

-- A moment: the rule holds, and each quarantine that was granted is that session's or has ended.
pub record IsMoment (key : QKey) (mine : Option ℕ) (marks : List Mark) (known : Known) : Type 0 where
  pub ruled : IsRuled key marks known
  pub settled : (who token : ℕ) → Has (Granted who token) marks → IsMine mine who ⊎ Has (Ended who token) marks

-- Since the moment: the marks begin with the old ones, and whoever was granted a quarantine since is that session.
pub record IsSince (mine : Option ℕ) (old new : List Mark) : Type 0 where
  pub more : List Mark
  pub goes_on : new ≡ more ++ old
  pub only : (who token : ℕ) → Has (Granted who token) more → IsMine mine who
