-- What has to be seen before a value is set on a key.
use Rattle.std.specs.Prelude.{ℕ, ◌≡◌, ◌⊎◌, ◌≤◌, Bool, true, false, List, length}
use Rattle.rows_model.specs.declared.keys.QKey.{QKey}
use Rattle.rows_model.specs.Rows.{Tables}
use Rattle.log_word.specs.declared.events.Short.{Short}
use Rattle.log_word.specs.declared.events.ShortKind.{ShortKind}
use Rattle.log_word.specs.declared.events.ShortKind.TheVariants as kinds
use Rattle.log_word.specs.declared.seen.Seen.{Seen}
use Rattle.log_word.specs.Steps.{IsSound, IsBeginning}
use Rattle.key_freshness.specs.Held.{IsRight}
use Rattle.bound_hub.specs.Knowns.{commits_of}
use Rattle.bound_hub.specs.Facts.{answer_after}
use Rattle.bound_hub.specs.Gets.{IsLastStep}

-- The step gives a lease to read.
abbrev pub is_lease : ShortKind → Bool
is_lease kinds.Lease = true
is_lease other = false

-- The step gives a lease to read this key, under this token.
pub record IsLeaseOn (key : QKey) (token : ℕ) (step : Short) : Type 0 where
  pub kind : is_lease step.kind ≡ true
  pub on : step.key ≡ key
  pub under : step.token ≡ token

-- A pass that has seen this had seen a lease to read the key, under this token: it was the last step of the
-- shard of this number that had been seen then. The value was asked for since: its stamp is at least the
-- number of commits that had been seen then, and at most that of those that are seen now. And it is the key's
-- answer after as many commits as its stamp says, unless it is seen that the store has stopped telling its
-- rows.
pub record WasAsked (opening : Tables) (shards number : ℕ) (key : QKey) (token : ℕ) (value : List ℕ) (stamp : ℕ) (seen : Seen) : Type 0 where
  pub earlier : Seen
  pub sound : IsSound shards earlier
  pub begins : IsBeginning earlier seen
  pub step : Short
  pub last : IsLastStep number step earlier
  pub lease : IsLeaseOn key token step
  pub late : length (commits_of earlier.events) ≤ stamp
  pub within : stamp ≤ length (commits_of seen.events)
  pub right : seen.stopped ≡ false → IsRight (answer_after opening key) (commits_of seen.events) value stamp

-- A value may be set under token 0, which is no lease's, or where it was asked for under its token.
abbrev pub MaySet : Tables → ℕ → ℕ → QKey → ℕ → List ℕ → ℕ → Seen → Type 0
MaySet opening shards number key token value stamp seen =
    (token ≡ 0) ⊎ WasAsked opening shards number key token value stamp seen
