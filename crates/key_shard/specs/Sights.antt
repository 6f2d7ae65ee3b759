-- What a request's step rests on: what is seen of its key, the order of the entries and the next token.
use Rattle.std.specs.Prelude.{ℕ, ◌≡◌, ℤ, nat_le, nat_lt, if◌then◌else◌, List, length, find, is_some, Option, Some, None}
use Rattle.rows_model.specs.declared.keys.QKey.{QKey}
use Rattle.rows_model.specs.declared.keys.Sid.{Sid}
use Rattle.case_tables.specs.Compatibility.{Holding, verdict, read, quarantine}
use Rattle.case_tables.specs.declared.grids.Verdict.{Verdict}
use Rattle.case_tables.specs.declared.grids.Verdict.TheVariants as verdicts
use Rattle.lease_table.specs.declared.records.Mode.{Mode}
use Rattle.lease_table.specs.declared.records.Quar.{Quar}
use Rattle.lease_table.specs.declared.records.ReadLease.{ReadLease}
use Rattle.lease_table.specs.Leases.{way_of, is_current, has_token, own_in, holder_in, holding_of}
use Rattle.key_shard.specs.declared.steps.Ended.TheVariants as ended
use Rattle.key_shard.specs.declared.steps.Step.{Step}
use Rattle.key_shard.specs.declared.steps.Step.TheVariants.{Hit, Lease, Again, Own, Stored, Void, Granted, Held, Released, Gone}
use Rattle.key_shard.specs.Permit.{Permit}
use Rattle.key_shard.specs.Past.{Terms, standing, recorded, entry, order, last_key, next_token, deadline_at}
use Rattle.key_shard.specs.Answers.{stands_of, refused_step, release_by, raise_among, renew_by}
use Rattle.key_shard.specs.Answers.{Request, Get, Set, Quarantine, Release, Replace, Raise, Renew, key_of, step_of}

-- what is seen of a key: its quarantines, its lease to read, its entry; and the order of the entries, and the next token
pub record Sight : Type 0 where
  pub quars : List Quar
  pub reader : Option ReadLease
  pub found : Option (List ℕ × ℕ)
  pub order : List QKey
  pub next : ℕ

-- what a past shows of a key
abbrev pub sight_of : Terms → QKey → List Step → Sight
sight_of terms key past = record {
  quars = standing key past;
  reader = recorded key past;
  found = entry key past;
  order = order past;
  next = next_token terms past;
}

-- what stands on the key, as a session sees it
abbrev pub holding_at : Sight → Sid → ℕ → Holding
holding_at sight who now = holding_of who now sight.reader sight.quars

-- who makes room for a value of the key
abbrev pub evicts_at : Terms → Sight → Option QKey
evicts_at terms sight =
    if is_some sight.found then None
    else (if nat_lt (length sight.order) terms.room then None else last_key sight.order)

-- a get that misses, by the verdict
abbrev pub miss_at : Terms → Sight → QKey → Sid → ℕ → ℕ → Verdict → Step
miss_at terms sight key who floor now verdicts.Give = Lease key who floor now sight.next (deadline_at terms now)
miss_at terms sight key who floor now verdicts.Wait = Again key who floor now (stands_of sight.quars)
miss_at terms sight key who floor now verdicts.Own = Own key who
miss_at terms sight key who floor now verdicts.Void = Own key who
miss_at terms sight key who floor now verdicts.Join = Own key who
miss_at terms sight key who floor now verdicts.Same = Own key who
miss_at terms sight key who floor now verdicts.Refuse = Own key who
miss_at terms sight key who floor now verdicts.Raise = Own key who
miss_at terms sight key who floor now verdicts.Gone = Own key who

-- a get by the entry, where the session has not quarantined the key
abbrev pub found_at : Terms → Sight → QKey → Sid → ℕ → ℕ → Option (List ℕ × ℕ) → Step
found_at terms sight key who floor now None =
    miss_at terms sight key who floor now (verdict (holding_at sight who now) read)
found_at terms sight key who floor now (Some found) =
    if nat_le floor found.1 then Hit key who floor found.0 found.1
    else miss_at terms sight key who floor now (verdict (holding_at sight who now) read)

-- a get by the session's own quarantine
abbrev pub got_at : Terms → Sight → QKey → Sid → ℕ → ℕ → Option Quar → Step
got_at terms sight key who floor now (Some own) = Own key who
got_at terms sight key who floor now None = found_at terms sight key who floor now sight.found

-- a quarantine by the verdict
abbrev pub asked_at : Terms → Sight → QKey → Sid → Mode → ℤ → ℕ → Verdict → Step
asked_at terms sight key who mode shift now verdicts.Give =
    Granted key who mode shift now sight.next (deadline_at terms now)
asked_at terms sight key who mode shift now verdicts.Void =
    Granted key who mode shift now sight.next (deadline_at terms now)
asked_at terms sight key who mode shift now verdicts.Join =
    Granted key who mode shift now sight.next (deadline_at terms now)
asked_at terms sight key who mode shift now verdicts.Same = Held key who mode
asked_at terms sight key who mode shift now verdicts.Refuse = refused_step key who mode (holder_in who sight.quars)
asked_at terms sight key who mode shift now verdicts.Wait = Held key who mode
asked_at terms sight key who mode shift now verdicts.Own = Held key who mode
asked_at terms sight key who mode shift now verdicts.Raise = Held key who mode
asked_at terms sight key who mode shift now verdicts.Gone = Held key who mode

-- a release with a new value, by the quarantine of its token
abbrev pub replaced_at : Terms → Sight → Permit → List ℕ → ℕ → Option Quar → Step
replaced_at terms sight permit value stamp (Some quar) =
    Released permit.key quar.sid permit.token (ended.Put value stamp (evicts_at terms sight))
replaced_at terms sight permit value stamp None = Gone permit.key permit.sid permit.token

-- the step of a request where so much is seen of its key
abbrev pub step_at : Terms → Sight → Request → Step
step_at terms sight (Get key who floor now) =
    got_at terms sight key who floor now (own_in who sight.quars)
step_at terms sight (Set key token value stamp now) =
    if is_current token now sight.reader then Stored key token now value stamp (evicts_at terms sight)
    else Void key token now
step_at terms sight (Quarantine key who mode shift now) =
    asked_at terms sight key who mode shift now (verdict (holding_at sight who now) (quarantine (way_of mode)))
step_at terms sight (Release permit how) = release_by permit how (find (has_token permit.token) sight.quars)
step_at terms sight (Replace permit value stamp) =
    replaced_at terms sight permit value stamp (find (has_token permit.token) sight.quars)
step_at terms sight (Raise permit) = raise_among permit sight.quars
step_at terms sight (Renew permit now) =
    renew_by terms permit now (find (has_token permit.token) sight.quars)

-- A request's step rests on what its past shows of its key, and on nothing else of the past.
abbrev pub StepBySight : Type 0
StepBySight =
    (terms : Terms) (past : List Step) (request : Request)
    → step_of terms past request ≡ step_at terms (sight_of terms (key_of request) past) request
