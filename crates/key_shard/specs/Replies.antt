-- What a step shows to who asked.
use Rattle.std.specs.Prelude.{ℕ, ◌≡◌, List, Option, Some, None}
use Rattle.lease_table.specs.declared.records.Mode.{Mode}
use Rattle.lease_table.specs.declared.records.Mode.TheVariants.{Invalidate, Refresh, Delta}
use Rattle.key_shard.specs.declared.steps.Step.{Step}
use Rattle.key_shard.specs.declared.steps.Step.TheVariants.{Hit, Lease, Again, Own, Stored, Void, Granted, Held, Refused, Released, Gone, Raised, Shared, Renewed}
use Rattle.key_shard.specs.declared.replies.Got.{Got}
use Rattle.key_shard.specs.declared.replies.Got.TheVariants as got
use Rattle.key_shard.specs.declared.replies.SetAnswer.{SetAnswer}
use Rattle.key_shard.specs.declared.replies.SetAnswer.TheVariants as set
use Rattle.key_shard.specs.declared.replies.QAnswer.{QAnswer}
use Rattle.key_shard.specs.declared.replies.QAnswer.TheVariants as quarantine
use Rattle.key_shard.specs.declared.replies.Rel.{Rel}
use Rattle.key_shard.specs.declared.replies.Rel.TheVariants as rel
use Rattle.key_shard.specs.declared.replies.Raising.{Raising}
use Rattle.key_shard.specs.declared.replies.Raising.TheVariants as raising
use Rattle.key_shard.specs.declared.replies.Renewal.{Renewal}
use Rattle.key_shard.specs.declared.replies.Renewal.TheVariants as renewal
use Rattle.key_shard.specs.Permit.{Permit}
use Rattle.key_shard.specs.Shards.{raised_permit}
use Rattle.key_shard.specs.Past.{Terms, entry, evicted_by}

-- the answer to a get is the one that its step shows
abbrev pub ShowsGot : Step → Got → Type 0
ShowsGot (Hit key sid floor value stamp) answer = answer ≡ got.Hit value stamp
ShowsGot (Lease key sid floor now token deadline) answer = answer ≡ got.Lease token
ShowsGot (Again key sid floor now standing) answer = answer ≡ got.Again standing
ShowsGot (Own key sid) answer = answer ≡ got.Own
ShowsGot step answer = ⊥

-- the answer to a set is the one that its step shows
abbrev pub ShowsSet : Step → SetAnswer → Type 0
ShowsSet (Stored key token now value stamp evicted) answer = answer ≡ set.Stored evicted
ShowsSet (Void key token now) answer = answer ≡ set.Void
ShowsSet step answer = ⊥

-- the old value that comes along with a grant: in mode Refresh the entry
abbrev pub old_value : Mode → Option (List ℕ × ℕ) → Option (List ℕ × ℕ)
old_value Refresh found = found
old_value Invalidate found = None
old_value Delta found = None

-- the answer to a quarantine is the one that its step shows, with a grant of this shard
abbrev pub ShowsQuarantine : Terms → List Step → Step → QAnswer → Type 0
ShowsQuarantine terms past (Granted key sid mode shift now token deadline) answer =
    answer ≡ quarantine.Granted (record { shard = terms.no; key = key; sid = sid; mode = mode; token = token }) (old_value mode (entry key past))
ShowsQuarantine terms past (Held key sid mode) answer = answer ≡ quarantine.Held
ShowsQuarantine terms past (Refused key sid mode holder held) answer = answer ≡ quarantine.Refused holder held
ShowsQuarantine terms past step answer = ⊥

-- the answer to a release is the one that its step shows
abbrev pub ShowsRelease : Step → Rel → Type 0
ShowsRelease (Released key sid token how) answer = answer ≡ rel.Released (evicted_by how)
ShowsRelease (Gone key sid token) answer = answer ≡ rel.Gone
ShowsRelease step answer = ⊥

-- the answer to a raise is the one that its step shows, with the grant as it is then, and with the entry where it is raised
abbrev pub ShowsRaise : List Step → Permit → Step → Raising → Type 0
ShowsRaise past permit (Raised key sid token) answer =
    answer ≡ raising.Raised (raised_permit permit.key permit.token permit) (entry key past)
ShowsRaise past permit (Shared key sid token holder) answer = answer ≡ raising.Shared permit holder
ShowsRaise past permit (Gone key sid token) answer = answer ≡ raising.Gone
ShowsRaise past permit step answer = ⊥

-- the answer to a renewal is the one that its step shows
abbrev pub ShowsRenewal : Step → Renewal → Type 0
ShowsRenewal (Renewed key sid token now deadline) answer = answer ≡ renewal.Renewed deadline
ShowsRenewal (Gone key sid token) answer = answer ≡ renewal.Gone
ShowsRenewal step answer = ⊥

-- The answer to a sweep: Released where its step ends a quarantine, for which no key makes room, and else Gone.
abbrev pub sweep_answer : Option Step → Rel
sweep_answer (Some step) = rel.Released None
sweep_answer None = rel.Gone
