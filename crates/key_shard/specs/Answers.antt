-- The one step that a request gives after a past, and which histories are legal.
use Rattle.std.specs.Prelude.{ℕ, ◌≡◌, ℤ, pos, IsTrue, nat_le, if◌then◌else◌, List, [], ◌∷◌, reverse, Option, Some, None, option_map}
use Rattle.std.specs.List.{list_any}
use Rattle.rows_model.specs.declared.keys.QKey.{QKey}
use Rattle.rows_model.specs.declared.keys.Sid.{Sid}
use Rattle.rows_model.specs.Placement.{shard_of}
use Rattle.case_tables.specs.Compatibility.{verdict, read, quarantine}
use Rattle.case_tables.specs.declared.grids.Verdict.{Verdict}
use Rattle.case_tables.specs.declared.grids.Verdict.TheVariants as verdicts
use Rattle.lease_table.specs.declared.records.Mode.{Mode}
use Rattle.lease_table.specs.declared.records.Mode.TheVariants as modes
use Rattle.lease_table.specs.declared.records.Quar.{Quar}
use Rattle.lease_table.specs.Leases.{way_of, is_current, first, others_in, raise_in}
use Rattle.key_shard.specs.declared.steps.Blocker.{Blocker}
use Rattle.key_shard.specs.declared.steps.Blocker.TheVariants.{I, Q}
use Rattle.key_shard.specs.declared.steps.Ended.{Ended}
use Rattle.key_shard.specs.declared.steps.Ended.TheVariants as ended
use Rattle.key_shard.specs.declared.steps.Step.{Step}
use Rattle.key_shard.specs.declared.steps.Step.TheVariants.{Hit, Lease, Again, Own, Stored, Void, Granted, Held, Refused, Released, Gone, Raised, Shared, Renewed}
use Rattle.key_shard.specs.declared.replies.How.{How}
use Rattle.key_shard.specs.declared.replies.How.TheVariants as how
use Rattle.key_shard.specs.Permit.{Permit}
use Rattle.key_shard.specs.Past.{Terms, standing, recorded, own_of, seen_by, holder_of, quar_of, entry, evicts, next_token, deadline_at, grants}

-- What is told of the lease in the way: a quarantine where one stands.
abbrev pub stands_of : List Quar → Blocker
stands_of [] = I
stands_of (quar ∷ quars) = Q

-- A miss by the verdict on its request to read: Give gives a lease, and Wait is answered Again. No other verdict is one on a miss.
abbrev pub miss_by : Terms → List Step → QKey → Sid → ℕ → ℕ → Verdict → Step
miss_by terms past key who floor now verdicts.Give =
    Lease key who floor now (next_token terms past) (deadline_at terms now)
miss_by terms past key who floor now verdicts.Wait = Again key who floor now (stands_of (standing key past))
miss_by terms past key who floor now verdicts.Own = Own key who
miss_by terms past key who floor now verdicts.Void = Own key who
miss_by terms past key who floor now verdicts.Join = Own key who
miss_by terms past key who floor now verdicts.Same = Own key who
miss_by terms past key who floor now verdicts.Refuse = Own key who
miss_by terms past key who floor now verdicts.Raise = Own key who
miss_by terms past key who floor now verdicts.Gone = Own key who

abbrev pub miss_step : Terms → List Step → QKey → Sid → ℕ → ℕ → Step
miss_step terms past key who floor now =
    miss_by terms past key who floor now (verdict (seen_by key who now past) read)

-- An entry whose stamp is at least the floor is a hit.
abbrev pub found_step : Terms → List Step → QKey → Sid → ℕ → ℕ → Option (List ℕ × ℕ) → Step
found_step terms past key who floor now None = miss_step terms past key who floor now
found_step terms past key who floor now (Some found) =
    if nat_le floor found.1 then Hit key who floor found.0 found.1 else miss_step terms past key who floor now

-- The step of a get: a session that has quarantined the key is told so, whatever the entry is.
abbrev pub get_by : Terms → List Step → QKey → Sid → ℕ → ℕ → Option Quar → Step
get_by terms past key who floor now (Some own) = Own key who
get_by terms past key who floor now None = found_step terms past key who floor now (entry key past)

abbrev pub get_step : Terms → List Step → QKey → Sid → ℕ → ℕ → Step
get_step terms past key who floor now = get_by terms past key who floor now (own_of key who past)

-- The step of a set: a value is stored exactly where its token's lease is recorded and not past its deadline.
abbrev pub set_step : Terms → List Step → QKey → ℕ → List ℕ → ℕ → ℕ → Step
set_step terms past key token value stamp now =
    if is_current token now (recorded key past) then Stored key token now value stamp (evicts terms key past)
    else Void key token now

-- A refusal names who holds the key.
abbrev pub refused_step : QKey → Sid → Mode → Option Quar → Step
refused_step key who mode (Some holder) = Refused key who mode holder.sid holder.mode
refused_step key who mode None = Held key who mode

-- A quarantine that is granted.
abbrev pub granted_step : Terms → List Step → QKey → Sid → Mode → ℤ → ℕ → Step
granted_step terms past key who mode shift now =
    Granted key who mode shift now (next_token terms past) (deadline_at terms now)

-- The step of a quarantine, by the verdict on it. Wait, Own, Raise and Gone are none on a quarantine.
abbrev pub quarantine_by : Terms → List Step → QKey → Sid → Mode → ℤ → ℕ → Verdict → Step
quarantine_by terms past key who mode shift now verdicts.Give = granted_step terms past key who mode shift now
quarantine_by terms past key who mode shift now verdicts.Void = granted_step terms past key who mode shift now
quarantine_by terms past key who mode shift now verdicts.Join = granted_step terms past key who mode shift now
quarantine_by terms past key who mode shift now verdicts.Same = Held key who mode
quarantine_by terms past key who mode shift now verdicts.Refuse =
    refused_step key who mode (holder_of key who past)
quarantine_by terms past key who mode shift now verdicts.Wait = Held key who mode
quarantine_by terms past key who mode shift now verdicts.Own = Held key who mode
quarantine_by terms past key who mode shift now verdicts.Raise = Held key who mode
quarantine_by terms past key who mode shift now verdicts.Gone = Held key who mode

abbrev pub quarantine_step : Terms → List Step → QKey → Sid → Mode → ℤ → ℕ → Step
quarantine_step terms past key who mode shift now =
    quarantine_by terms past key who mode shift now (verdict (seen_by key who now past) (quarantine (way_of mode)))

-- How a quarantine ends that is released this way: a shift is the quarantine's own.
abbrev pub ended_as : Quar → How → Ended
ended_as quar how.Keep = ended.Keep
ended_as quar how.Drop = ended.Drop
ended_as quar (how.Shift stamp) = ended.Shift quar.shift stamp

-- The step of a release: the quarantine ends where it stands, and is gone where it was granted and stands no longer.
abbrev pub release_by : Permit → How → Option Quar → Step
release_by permit how (Some quar) = Released permit.key quar.sid permit.token (ended_as quar how)
release_by permit how None = Gone permit.key permit.sid permit.token

abbrev pub release_step : List Step → Permit → How → Step
release_step past permit how = release_by permit how (quar_of permit.key permit.token past)

-- The step of a replace.
abbrev pub replace_by : Terms → List Step → Permit → List ℕ → ℕ → Option Quar → Step
replace_by terms past permit value stamp (Some quar) =
    Released permit.key quar.sid permit.token (ended.Put value stamp (evicts terms permit.key past))
replace_by terms past permit value stamp None = Gone permit.key permit.sid permit.token

abbrev pub replace_step : Terms → List Step → Permit → List ℕ → ℕ → Step
replace_step terms past permit value stamp =
    replace_by terms past permit value stamp (quar_of permit.key permit.token past)

-- The step of a sweep: the quarantine of the token ends with Drop, where one stands on the key, and else there is none.
abbrev pub sweep_step : List Step → QKey → ℕ → Option Step
sweep_step past key token = option_map (λ quar. Released key quar.sid token ended.Drop) (quar_of key token past)

-- That a quarantine isn't raised, since another session's stands beside it. Of more than one, the one of least token is named.
abbrev pub shared_step : Permit → Option Quar → Step
shared_step permit (Some other) = Shared permit.key permit.sid permit.token other.sid
shared_step permit None = Gone permit.key permit.sid permit.token

-- The step of a raise, by the verdict on it. No verdict but these three is one on a raise.
abbrev pub raise_by : Permit → Option Quar → Verdict → Step
raise_by permit other verdicts.Raise = Raised permit.key permit.sid permit.token
raise_by permit other verdicts.Refuse = shared_step permit other
raise_by permit other verdicts.Gone = Gone permit.key permit.sid permit.token
raise_by permit other verdicts.Give = Gone permit.key permit.sid permit.token
raise_by permit other verdicts.Void = Gone permit.key permit.sid permit.token
raise_by permit other verdicts.Join = Gone permit.key permit.sid permit.token
raise_by permit other verdicts.Wait = Gone permit.key permit.sid permit.token
raise_by permit other verdicts.Same = Gone permit.key permit.sid permit.token
raise_by permit other verdicts.Own = Gone permit.key permit.sid permit.token

-- It goes by the quarantines on the key.
abbrev pub raise_among : Permit → List Quar → Step
raise_among permit quars =
    raise_by permit (first (others_in permit.sid quars)) (raise_in permit.sid permit.token quars)

abbrev pub raise_step : List Step → Permit → Step
raise_step past permit = raise_among permit (standing permit.key past)

-- The step of a renewal: the quarantine of the permit's token has a new deadline, where it stands.
abbrev pub renew_by : Terms → Permit → ℕ → Option Quar → Step
renew_by terms permit now (Some quar) = Renewed permit.key permit.sid permit.token now (deadline_at terms now)
renew_by terms permit now None = Gone permit.key permit.sid permit.token

abbrev pub renew_step : Terms → List Step → Permit → ℕ → Step
renew_step terms past permit now = renew_by terms permit now (quar_of permit.key permit.token past)

-- What is asked of a shard.
pub data Request : Type 0 where
  Get : (key : QKey) (who : Sid) (floor now : ℕ) → Request
  Set : (key : QKey) (token : ℕ) (value : List ℕ) (stamp now : ℕ) → Request
  Quarantine : (key : QKey) (who : Sid) (mode : Mode) (shift : ℤ) (now : ℕ) → Request
  Release : (permit : Permit) (how : How) → Request
  Replace : (permit : Permit) (value : List ℕ) (stamp : ℕ) → Request
  Raise : (permit : Permit) → Request
  Renew : (permit : Permit) (now : ℕ) → Request

-- The key that a request is on.
abbrev pub key_of : Request → QKey
key_of (Get key who floor now) = key
key_of (Set key token value stamp now) = key
key_of (Quarantine key who mode shift now) = key
key_of (Release permit how) = permit.key
key_of (Replace permit value stamp) = permit.key
key_of (Raise permit) = permit.key
key_of (Renew permit now) = permit.key

-- The quarantine of which a permit speaks was granted.
abbrev pub WasGranted : List Step → Permit → Type 0
WasGranted past permit = IsTrue (list_any (grants permit) past)

-- A shift is released of a delta alone.
abbrev pub FitsMode : Mode → How → Type 0
FitsMode mode how.Keep = Unit {0}
FitsMode mode how.Drop = Unit {0}
FitsMode mode (how.Shift stamp) = mode ≡ modes.Delta

-- A shift other than 0 comes with a delta alone.
abbrev pub FitsShift : Mode → ℤ → Type 0
FitsShift modes.Delta shift = Unit {0}
FitsShift modes.Invalidate shift = shift ≡ pos 0
FitsShift modes.Refresh shift = shift ≡ pos 0

-- A quarantine that stands is the one of which a permit speaks: it is of that session, in that mode.
pub record IsOf (permit : Permit) (quar : Quar) : Type 0 where
  pub sid : quar.sid ≡ permit.sid
  pub mode : quar.mode ≡ permit.mode

-- What a release owes, by the quarantine of its token: where that stands, it is the permit's, and may end so; where none does, it was granted once.
abbrev pub OwesRelease : List Step → Permit → How → Option Quar → Type 0
OwesRelease past permit how (Some quar) = IsOf permit quar × FitsMode quar.mode how
OwesRelease past permit how None = WasGranted past permit

-- What a replace owes likewise: a quarantine that stands is to refresh.
abbrev pub OwesReplace : List Step → Permit → Option Quar → Type 0
OwesReplace past permit (Some quar) = IsOf permit quar × (quar.mode ≡ modes.Refresh)
OwesReplace past permit None = WasGranted past permit

-- What a raise owes: a quarantine that stands is to invalidate.
abbrev pub OwesRaise : List Step → Permit → Option Quar → Type 0
OwesRaise past permit (Some quar) = IsOf permit quar × (quar.mode ≡ modes.Invalidate)
OwesRaise past permit None = WasGranted past permit

-- What a renewal owes: one that stands is the permit's.
abbrev pub OwesRenew : List Step → Permit → Option Quar → Type 0
OwesRenew past permit (Some quar) = IsOf permit quar
OwesRenew past permit None = WasGranted past permit

-- What a request owes: a shift is a delta's, and what is released, replaced, raised or renewed stands as the permit says, or was granted.
abbrev pub IsOwed : List Step → Request → Type 0
IsOwed past (Get key who floor now) = Unit {0}
IsOwed past (Set key token value stamp now) = Unit {0}
IsOwed past (Quarantine key who mode shift now) = FitsShift mode shift
IsOwed past (Release permit how) = OwesRelease past permit how (quar_of permit.key permit.token past)
IsOwed past (Replace permit value stamp) = OwesReplace past permit (quar_of permit.key permit.token past)
IsOwed past (Raise permit) = OwesRaise past permit (quar_of permit.key permit.token past)
IsOwed past (Renew permit now) = OwesRenew past permit (quar_of permit.key permit.token past)

-- The key is this shard's.
abbrev pub IsAtHome : Terms → QKey → Type 0
IsAtHome terms key = shard_of key terms.count ≡ terms.no

-- The one step that a request gives.
abbrev pub step_of : Terms → List Step → Request → Step
step_of terms past (Get key who floor now) = get_step terms past key who floor now
step_of terms past (Set key token value stamp now) = set_step terms past key token value stamp now
step_of terms past (Quarantine key who mode shift now) = quarantine_step terms past key who mode shift now
step_of terms past (Release permit how) = release_step past permit how
step_of terms past (Replace permit value stamp) = replace_step terms past permit value stamp
step_of terms past (Raise permit) = raise_step past permit
step_of terms past (Renew permit now) = renew_step terms past permit now

-- The step is the answer to a request that could be made.
pub record Answers (terms : Terms) (past : List Step) (step : Step) : Type 0 where
  pub request : Request
  pub at_home : IsAtHome terms (key_of request)
  pub owed : IsOwed past request
  pub answer : step ≡ step_of terms past request

-- Each step of the past answers its own request after the steps before it.
abbrev pub IsLegalPast : Terms → List Step → Type 0
IsLegalPast terms [] = Unit {0}
IsLegalPast terms (step ∷ past) = Answers terms past step × IsLegalPast terms past

-- A history, the earliest step first, in which each step answers its own request.
abbrev pub Legal : Terms → List Step → Type 0
Legal terms history = IsLegalPast terms (reverse history)
