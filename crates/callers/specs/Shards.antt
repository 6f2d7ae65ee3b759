-- What is said of a shard to who calls it.
use Rattle.std.specs.Prelude.{ℕ, ◌≡◌, ◌≤◌, List, All}
use Rattle.rows_model.specs.declared.keys.QKey.{QKey}
use Rattle.rows_model.specs.declared.keys.Sid.{Sid}
use Rattle.lease_table.specs.Leases.{is_current}
use Rattle.key_shard.specs.declared.replies.Got.{Got}
use Rattle.key_shard.specs.declared.replies.Got.TheVariants as got
use Rattle.key_shard.specs.declared.replies.SetAnswer.{SetAnswer}
use Rattle.key_shard.specs.declared.replies.SetAnswer.TheVariants as set
use Rattle.key_shard.specs.declared.steps.Step.{Step}
use Rattle.key_shard.specs.declared.steps.Step.TheVariants.{Hit}
use Rattle.key_shard.specs.Past.{Terms, entry, order, standing, recorded, seen_by}
use Rattle.key_shard.specs.Answers.{Legal}

-- A hit has a stamp of at least this floor.
abbrev pub IsAtLeast : ℕ → Got → Type 0
IsAtLeast floor (got.Hit value stamp) = floor ≤ stamp
IsAtLeast floor other = Unit {0}

-- A step that is a hit has a stamp of at least its floor.
abbrev pub MeetsItsFloor : Step → Type 0
MeetsItsFloor (Hit key sid floor value stamp) = floor ≤ stamp
MeetsItsFloor other = Unit {0}

-- Each hit of a legal history has a stamp of at least its floor.
abbrev pub HitsMeetTheirFloors : Type 0
HitsMeetTheirFloors = (terms : Terms) (history : List Step) → Legal terms history → All MeetsItsFloor history

-- A shard shows the same after more steps as before: each entry, their order by use, and the quarantines. From this time on each session sees the
-- same on each key, and the same tokens of leases to read stand.
pub record ShowsTheSame (now : ℕ) (before after : List Step) : Type 0 where
  pub entries : (key : QKey) → entry key after ≡ entry key before
  pub by_use : order after ≡ order before
  pub quarantines : (key : QKey) → standing key after ≡ standing key before
  pub seen : (key : QKey) (who : Sid) (later : ℕ) → now ≤ later → seen_by key who later after ≡ seen_by key who later before
  pub leases : (key : QKey) (token later : ℕ) → now ≤ later → is_current token later (recorded key after) ≡ is_current token later (recorded key before)

-- The answer is that nothing was stored.
abbrev pub IsVoid : SetAnswer → Type 0
IsVoid answer = answer ≡ set.Void
