-- What contracts see of a shard, what becomes of it, and when it refuses.
use Rattle.std.specs.Prelude.{ℕ, ◌≡◌, ◌-◌, ◌^◌, Bool, not, ◌==◌, ◌&&◌, if◌then◌else◌, List, [], ◌∷◌, ◌++◌, map, filter, reverse, Option, Some, None, Result, Ok, Err}
use Rattle.std.specs.List.{list_any}
use Rattle.rows_model.specs.declared.keys.QKey.{QKey}
use Rattle.rows_model.specs.Key.{same_key}
use Rattle.rows_model.specs.Placement.{shard_of}
use Rattle.key_shard.specs.Permit.{Permit, same_permit}
use Rattle.key_shard.specs.declared.steps.Step.{Step}
use Rattle.lease_table.specs.declared.records.Mode.TheVariants as modes
use Rattle.key_shard.specs.declared.steps.Step.TheVariants.{Granted, Raised, Gone}
use Rattle.key_shard.specs.declared.replies.ShardFault.{ShardFault}
use Rattle.key_shard.specs.declared.replies.ShardFault.TheVariants as faults
use Rattle.key_shard.specs.Past.{Terms, draws, next_token}

-- a shard: what it is made with, its history, the earliest step first, and the grants that are out
pub record ShardView : Type 0 where
  pub terms : Terms
  pub history : List Step
  pub out : List Permit

-- its past: its steps, the latest first
abbrev pub past_of : ShardView → List Step
past_of shard = reverse shard.history

-- its steps in memory, the earliest first
abbrev pub kept_of : ShardView → List Step
kept_of shard = if shard.terms.rolls then [] else shard.history

-- whether a grant is out
abbrev pub is_out : ShardView → Permit → Bool
is_out shard permit = list_any (same_permit permit) shard.out

-- the grants that are out, less one
abbrev pub without_permit : Permit → List Permit → List Permit
without_permit permit out = filter (λ other. not (same_permit permit other)) out

-- a grant that is out, once the one of this key and token is raised
abbrev pub raised_permit : QKey → ℕ → Permit → Permit
raised_permit key token permit =
    if same_key key permit.key && (permit.token == token) then
    record { shard = permit.shard; key = permit.key; sid = permit.sid; mode = modes.Refresh; token = permit.token }
    else permit

-- the grants that are out after a step: a granted quarantine's is, and a raised one's is to refresh
abbrev pub out_after : Terms → Step → List Permit → List Permit
out_after terms (Granted key sid mode shift now token deadline) out =
    out ++ record { shard = terms.no; key = key; sid = sid; mode = mode; token = token } ∷ []
out_after terms (Raised key sid token) out = map (raised_permit key token) out
out_after terms step out = out

-- the shard after a step
abbrev pub stepped : ShardView → Step → ShardView
stepped shard step = record {
  terms = shard.terms;
  history = shard.history ++ step ∷ [];
  out = out_after shard.terms step shard.out;
}

-- the shard after the step that ends a grant
abbrev pub returned : ShardView → Permit → Step → ShardView
returned shard permit step = record {
  terms = shard.terms;
  history = shard.history ++ step ∷ [];
  out = without_permit permit shard.out;
}

-- the shard after a raise: where the quarantine was gone its grant is spent
abbrev pub after_raise : ShardView → Permit → Step → ShardView
after_raise shard permit (Gone key sid token) = returned shard permit (Gone key sid token)
after_raise shard permit step = stepped shard step

-- The shard after a sweep: after its step, where it has one.
abbrev pub swept : ShardView → Option Step → ShardView
swept shard (Some step) = stepped shard step
swept shard None = shard

-- why the shard refuses this step on this key, if it does: the key is another shard's, or the next token would be the last number
abbrev pub spent_at : ℕ → Step → Option ShardFault
spent_at next step = if draws step && (next == 2 ^ 64 - 1) then Some (faults.Spent next) else None

abbrev pub refusal : ShardView → QKey → Step → Option ShardFault
refusal shard key step =
    if shard_of key shard.terms.count == shard.terms.no then spent_at (next_token shard.terms (past_of shard)) step
    else Some (faults.Stranger (shard_of key shard.terms.count))

-- the result is that refusal; without one it is an answer, unless memory ran out
abbrev pub Refuses : {X : Type 0} → Option ShardFault → Result X ShardFault → Type 0
Refuses (Some fault) result = result ≡ Err fault
Refuses None (Ok answer) = Unit {0}
Refuses None (Err faults.Memory) = Unit {0}
Refuses None (Err (faults.Stranger shard)) = ⊥
Refuses None (Err (faults.Spent next)) = ⊥
