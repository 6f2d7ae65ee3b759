-- What a writer's verbs ask of a shard, and what their releases leave of it.
use Rattle.std.specs.Prelude.{ℕ, ◌≡◌, ℤ, pos, not, if◌then◌else◌, filter, List, Option, Some, None, IsSome, Result, Ok, Err, option_and_then}
use Rattle.std.specs.Bool.{IsFalse}
use Rattle.rows_model.specs.declared.keys.QKey.{QKey}
use Rattle.rows_model.specs.declared.keys.Sid.{Sid}
use Rattle.rows_model.specs.Key.{same_key}
use Rattle.lease_table.specs.declared.records.Mode.TheVariants as modes
use Rattle.lease_table.specs.Leases.{has_token}
use Rattle.key_shard.specs.declared.replies.How.TheVariants as hows
use Rattle.key_shard.specs.declared.replies.Rel.{Rel}
use Rattle.key_shard.specs.declared.replies.Rel.TheVariants as rels
use Rattle.key_shard.specs.declared.replies.ShardFault.{ShardFault}
use Rattle.key_shard.specs.declared.replies.ShardFault.TheVariants as faults
use Rattle.key_shard.specs.declared.steps.Step.{Step}
use Rattle.key_shard.specs.Permit.{Permit}
use Rattle.key_shard.specs.Past.{entry, entry_shifted, is_evicted, quar_of, recorded, standing}
use Rattle.key_shard.specs.Answers.{quarantine_step, release_step, replace_step}
use Rattle.key_shard.specs.Shards.{ShardView, past_of}
use Rattle.write_ops.specs.declared.delta.DeltaFault.{DeltaFault}
use Rattle.write_ops.specs.declared.delta.DeltaFault.TheVariants as deltas

-- The step of a quarantine to invalidate.
abbrev pub qa_step : ShardView → QKey → Sid → ℕ → Step
qa_step shard key sid now = quarantine_step shard.terms (past_of shard) key sid modes.Invalidate (pos 0) now

-- The step of a release that drops the value, and of one that leaves it.
abbrev pub dar_step : ShardView → Permit → Step
dar_step shard permit = release_step (past_of shard) permit hows.Drop

abbrev pub abort_step : ShardView → Permit → Step
abort_step shard permit = release_step (past_of shard) permit hows.Keep

-- The step of a quarantine to refresh.
abbrev pub read_step : ShardView → QKey → Sid → ℕ → Step
read_step shard key sid now = quarantine_step shard.terms (past_of shard) key sid modes.Refresh (pos 0) now

-- The step of a release with a new value, or of one that drops the value where there is no new one.
abbrev pub sar_step : ShardView → Permit → Option (List ℕ) → ℕ → Step
sar_step shard permit (Some value) stamp = replace_step shard.terms (past_of shard) permit value stamp
sar_step shard permit None stamp = dar_step shard permit

-- The step of a quarantine to shift a count by this number.
abbrev pub delta_step : ShardView → QKey → Sid → ℤ → ℕ → Step
delta_step shard key sid by now = quarantine_step shard.terms (past_of shard) key sid modes.Delta by now

-- The step of a release that shifts the count, and gives it this stamp.
abbrev pub apply_step : ShardView → Permit → ℕ → Step
apply_step shard permit stamp = release_step (past_of shard) permit (hows.Shift stamp)

-- Where the shard refuses, the result is its refusal; where it doesn't, the result is an answer, unless memory ran out.
abbrev pub RefusesDelta : {X : Type 0} → Option ShardFault → Result X DeltaFault → Type 0
RefusesDelta (Some fault) result = result ≡ Err (deltas.Shard fault)
RefusesDelta None (Ok answer) = Unit {0}
RefusesDelta None (Err (deltas.Shard faults.Memory)) = Unit {0}
RefusesDelta None (Err (deltas.Shard (faults.Stranger shard))) = ⊥
RefusesDelta None (Err (deltas.Shard (faults.Spent next))) = ⊥
RefusesDelta None (Err deltas.NotCount) = ⊥

-- A key has the I lease and the quarantines that it had before, and the entry, unless it is the one that made room.
pub record SameOn (evicted : Option QKey) (key : QKey) (old new : List Step) : Type 0 where
  pub same_entry : entry key new ≡ (if is_evicted key evicted then None else entry key old)
  pub same_lease : recorded key new ≡ recorded key old
  pub same_standing : standing key new ≡ standing key old

-- A quarantine stood and stands no longer; the others on its key and the I lease are as before, the
-- key has this entry now, and each other key is as before, but for the entry of the one that made room.
pub record EndedWith (found : Option (List ℕ × ℕ)) (evicted : Option QKey) (permit : Permit) (old new : List Step) : Type 0 where
  pub stood : IsSome (quar_of permit.key permit.token old)
  pub ended : quar_of permit.key permit.token new ≡ None
  pub has_entry : entry permit.key new ≡ found
  pub same_lease : recorded permit.key new ≡ recorded permit.key old
  pub others_stand : standing permit.key new ≡ filter (λ quar. not (has_token permit.token quar)) (standing permit.key old)
  pub elsewhere : (other : QKey) → IsFalse (same_key other permit.key) → SameOn evicted other old new

-- A quarantine stood no longer, and each key is as before.
pub record WasGone (permit : Permit) (old new : List Step) : Type 0 where
  pub stood_not : quar_of permit.key permit.token old ≡ None
  pub everywhere : (key : QKey) → SameOn None key old new

-- What a release leaves, by its answer: Released where its quarantine ended with this entry of the key, and no key made room; Gone where it stood no longer.
abbrev pub LeavesEntry : Option (List ℕ × ℕ) → Permit → List Step → List Step → Rel → Type 0
LeavesEntry found permit old new (rels.Released evicted) = (evicted ≡ None) × EndedWith found None permit old new
LeavesEntry found permit old new rels.Gone = WasGone permit old new

-- Where its quarantine ended the key has no entry.
abbrev pub LeavesNone : Permit → List Step → List Step → Rel → Type 0
LeavesNone permit old new rel = LeavesEntry None permit old new rel

-- Where its quarantine ended the key has the entry that it had before.
abbrev pub LeavesValue : Permit → List Step → List Step → Rel → Type 0
LeavesValue permit old new rel = LeavesEntry (entry permit.key old) permit old new rel

-- Where its quarantine ended the key has this new value with this stamp, and the answer names who made room.
abbrev pub LeavesPut : List ℕ → ℕ → Permit → List Step → List Step → Rel → Type 0
LeavesPut value stamp permit old new (rels.Released evicted) = EndedWith (Some (value, stamp)) evicted permit old new
LeavesPut value stamp permit old new rels.Gone = WasGone permit old new

-- Where its quarantine ended the key has the new value, or no entry where there is no new value.
abbrev pub LeavesNew : Option (List ℕ) → ℕ → Permit → List Step → List Step → Rel → Type 0
LeavesNew (Some value) stamp permit old new rel = LeavesPut value stamp permit old new rel
LeavesNew None stamp permit old new rel = LeavesNone permit old new rel

-- The entry of a permit's key, shifted by the shift of the quarantine of its token, with this stamp:
-- none where no such quarantine stands, where there is no entry, and where its value is no number.
abbrev pub shifted_entry : ℕ → Permit → List Step → Option (List ℕ × ℕ)
shifted_entry stamp permit past =
    option_and_then (λ quar. entry_shifted quar.shift stamp (entry permit.key past)) (quar_of permit.key permit.token past)

-- Where its quarantine ended the key has the entry that it had, shifted by the quarantine's own shift, with this stamp.
abbrev pub LeavesShifted : ℕ → Permit → List Step → List Step → Rel → Type 0
LeavesShifted stamp permit old new rel = LeavesEntry (shifted_entry stamp permit old) permit old new rel
