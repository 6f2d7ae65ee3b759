-- What the faults of rows, of a keeper and of a store have to do with one another.
use Rattle.std.specs.Prelude.{ℕ, ◌≡◌, ◌+◌, ◌-◌, ◌^◌, ◌≤◌, ◌⊎◌, Bool, true, false, Option, Result, Ok, Err}
use Rattle.std.specs.Option.{ForSome}
use Rattle.iq_outside.specs.Outside.{Rose}
use Rattle.rows_model.specs.declared.refusals.ApplyFault.{ApplyFault}
use Rattle.rows_model.specs.declared.refusals.ApplyFault.TheVariants as causes
use Rattle.sql_keeper.specs.declared.faults.KeepFault.{KeepFault}
use Rattle.sql_keeper.specs.declared.faults.KeepFault.TheVariants as keep
use Rattle.sql_keeper.specs.declared.faults.AfterFault.{AfterFault}
use Rattle.sql_keeper.specs.declared.faults.AfterFault.TheVariants as staged
use Rattle.sql_keeper.specs.declared.faults.CommitFault.{CommitFault}
use Rattle.sql_keeper.specs.declared.faults.CommitFault.TheVariants as faults

-- why a keeper doesn't make a transaction that its rows don't take
abbrev pub after_apply : ApplyFault → AfterFault
after_apply (causes.Rejected index) = staged.Rejected index
after_apply causes.Memory = staged.Memory

-- why a store doesn't commit a transaction that its keeper doesn't make
abbrev pub after_keeper : AfterFault → CommitFault
after_keeper (staged.Rejected index) = faults.Rejected index
after_keeper staged.Failed = faults.KeepFault
after_keeper staged.Memory = faults.Memory

-- whether a fault is that of a keeper that failed
abbrev pub has_failed : KeepFault → Bool
has_failed keep.Failed = true
has_failed keep.Memory = false

-- whether the keeper failed, by what it answered
abbrev pub keep_failed : {A : Type 0} → Result A KeepFault → Bool
keep_failed (Ok answer) = false
keep_failed (Err fault) = has_failed fault

-- whether the keeper failed, by what it answered on the rows after a transaction
abbrev pub staged_failed : {A : Type 0} → Result A AfterFault → Bool
staged_failed (Ok answer) = false
staged_failed (Err (staged.Rejected index)) = false
staged_failed (Err staged.Failed) = true
staged_failed (Err staged.Memory) = false

-- whether a fault of a commit is that of a keeper that failed
abbrev pub is_failure : CommitFault → Bool
is_failure faults.Ended = false
is_failure (faults.Uncovered key) = false
is_failure (faults.LogFull count) = false
is_failure faults.Memory = false
is_failure (faults.Rejected index) = false
is_failure faults.KeepFault = true

-- what a call makes of a count of faults: where it failed the count rose, up to the end of its type, and else it is as before
abbrev pub Counts : Bool → ℕ → ℕ → Type 0
Counts true before after = Rose before after × (after ≤ 2 ^ 64 - 1)
Counts false before after = after ≡ before

-- So many calls failed since the count of faults was at the start: it rose by no fewer,
-- unless it is at the end of its type. Where no call failed it is as it was.
pub record HaveFailed (start failed faults : ℕ) : Type 0 where
  pub few : (start + failed ≤ faults) ⊎ (faults ≡ 2 ^ 64 - 1)
  pub none : failed ≡ 0 → faults ≡ start

-- so many calls failed since the count of faults was at this number, where one is named
abbrev pub FailedSince : Option ℕ → ℕ → ℕ → Type 0
FailedSince first failed faults = ForSome first (λ start. HaveFailed start failed faults)
