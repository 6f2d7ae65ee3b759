-- What one step makes of what a shard holds: quarantines, leases to read, entries, their order and the next token.
use Rattle.std.specs.Prelude.{ℕ, ◌≡◌, ◌+◌, not, if◌then◌else◌, List, [], ◌∷◌, ◌++◌, map, filter, Option, Some, None, is_some}
use Rattle.rows_model.specs.declared.keys.QKey.{QKey}
use Rattle.rows_model.specs.Key.{same_key}
use Rattle.lease_table.specs.declared.records.Quar.{Quar}
use Rattle.lease_table.specs.declared.records.ReadLease.{ReadLease}
use Rattle.lease_table.specs.Lapses.{unlapsed}
use Rattle.lease_table.specs.Leases.{has_token, raised, renewed}
use Rattle.key_shard.specs.declared.steps.Ended.{Ended}
use Rattle.key_shard.specs.declared.steps.Ended.TheVariants.{Keep, Drop, Put, Shift}
use Rattle.key_shard.specs.declared.steps.Step.{Step}
use Rattle.key_shard.specs.declared.steps.Step.TheVariants.{Hit, Lease, Again, Own, Stored, Void, Granted, Held, Refused, Released, Gone, Raised, Shared, Renewed}
use Rattle.key_shard.specs.Past.{Terms, standing, recorded, entry, order, is_evicted, evicted_by, entry_shifted, entry_ended, next_token}

-- The key that a step is on.
abbrev pub step_key : Step → QKey
step_key (Hit on sid floor value stamp) = on
step_key (Lease on sid floor now token deadline) = on
step_key (Again on sid floor now standing) = on
step_key (Own on sid) = on
step_key (Stored on token now value stamp evicted) = on
step_key (Void on token now) = on
step_key (Granted on sid mode shift now token deadline) = on
step_key (Held on sid mode) = on
step_key (Refused on sid mode holder held) = on
step_key (Released on sid token how) = on
step_key (Gone on sid token) = on
step_key (Raised on sid token) = on
step_key (Shared on sid token holder) = on
step_key (Renewed on sid token now deadline) = on

-- The quarantines on a key after a step: one that is granted on it stands behind the others, one that is released of it is gone, one that is
-- raised is to refresh, and one that is renewed has another deadline.
abbrev pub standing_after : Step → QKey → List Quar → List Quar
standing_after (Granted on sid mode shift now token deadline) key quars =
    if same_key key on then quars ++ record { sid = sid; mode = mode; token = token; deadline = deadline; shift = shift } ∷ []
    else quars
standing_after (Released on sid token how) key quars =
    if same_key key on then filter (λ quar. not (has_token token quar)) quars else quars
standing_after (Raised on sid token) key quars = if same_key key on then map (raised token) quars else quars
standing_after (Renewed on sid token now deadline) key quars =
    if same_key key on then map (renewed token deadline) quars else quars
standing_after step key quars = quars

-- The lease to read that is recorded on a key after a step: one that is given on it, and none once it is quarantined, a value is stored, or a set
-- under its token is void since its deadline had come.
abbrev pub recorded_after : Step → QKey → Option ReadLease → Option ReadLease
recorded_after (Lease on sid floor now token deadline) key reader =
    if same_key key on then Some (record { sid = sid; token = token; deadline = deadline }) else reader
recorded_after (Granted on sid mode shift now token deadline) key reader = if same_key key on then None else reader
recorded_after (Stored on token now value stamp evicted) key reader = if same_key key on then None else reader
recorded_after (Void on token now) key reader = if same_key key on then unlapsed token now reader else reader
recorded_after step key reader = reader

-- The entry of a key after a step: a value that is stored or put, what the end of a quarantine leaves, and none after a miss or where it made room.
abbrev pub entry_after : Step → QKey → Option (List ℕ × ℕ) → Option (List ℕ × ℕ)
entry_after (Stored on token now value stamp evicted) key found =
    if same_key key on then Some (value, stamp) else (if is_evicted key evicted then None else found)
entry_after (Released on sid token how) key found =
    if same_key key on then entry_ended how found else (if is_evicted key (evicted_by how) then None else found)
entry_after (Lease on sid floor now token deadline) key found = if same_key key on then None else found
entry_after (Again on sid floor now standing) key found = if same_key key on then None else found
entry_after step key found = found

-- The other keys, in the same order.
abbrev pub other_keys : QKey → List QKey → List QKey
other_keys key keys = filter (λ other. not (same_key key other)) keys

-- The keys with one put in front, less the one that made room.
abbrev pub put_first : QKey → Option QKey → List QKey → List QKey
put_first key evicted keys = key ∷ filter (λ other. not (is_evicted other evicted)) (other_keys key keys)

-- The order after the end of a quarantine, by the entry that its key had: a new value is in front, and a key that loses its entry is out.
abbrev pub order_ended : Ended → QKey → Option (List ℕ × ℕ) → List QKey → List QKey
order_ended Keep key found keys = keys
order_ended Drop key found keys = other_keys key keys
order_ended (Put value stamp evicted) key found keys = put_first key evicted keys
order_ended (Shift by stamp) key found keys =
    if is_some (entry_shifted by stamp found) then keys else other_keys key keys

-- The order of the entries after a step, by the entry that its key had: a hit entry and a new value are in front, and a missed key is out.
abbrev pub order_after : Step → Option (List ℕ × ℕ) → List QKey → List QKey
order_after (Hit on sid floor value stamp) found keys = if is_some found then on ∷ other_keys on keys else keys
order_after (Lease on sid floor now token deadline) found keys = other_keys on keys
order_after (Again on sid floor now standing) found keys = other_keys on keys
order_after (Stored on token now value stamp evicted) found keys = put_first on evicted keys
order_after (Released on sid token how) found keys = order_ended how on found keys
order_after step found keys = keys

-- The next token after a step: a lease that is given draws one, to read or to quarantine.
abbrev pub next_after : Step → ℕ → ℕ
next_after (Lease on sid floor now token deadline) next = next + 1
next_after (Granted on sid mode shift now token deadline) next = next + 1
next_after step next = next

-- What the past with one step more shows is what that step makes of what the past showed.
pub record IsOneStep (terms : Terms) (step : Step) (past : List Step) : Type 0 where
  pub stands : (key : QKey) → standing key (step ∷ past) ≡ standing_after step key (standing key past)
  pub reads : (key : QKey) → recorded key (step ∷ past) ≡ recorded_after step key (recorded key past)
  pub entries : (key : QKey) → entry key (step ∷ past) ≡ entry_after step key (entry key past)
  pub in_order : order (step ∷ past) ≡ order_after step (entry (step_key step) past) (order past)
  pub counted : next_token terms (step ∷ past) ≡ next_after step (next_token terms past)

-- So it is at each step, whatever was before it.
abbrev pub ReadersByOneStep : Type 0
ReadersByOneStep = (terms : Terms) (step : Step) (past : List Step) → IsOneStep terms step past
