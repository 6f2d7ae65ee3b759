-- Which quarantine a scan finds, by looking back.
use Rattle.std.specs.Prelude.{ℕ, nat_le, if◌then◌else◌, List, [], ◌∷◌, flat_map, Option, Some, None}
use Rattle.rows_model.specs.declared.keys.QKey.{QKey}
use Rattle.lease_table.specs.declared.records.Due.{Due}
use Rattle.lease_table.specs.declared.records.Quar.{Quar}
use Rattle.lease_table.specs.Expiry.{comes_before, due_as}
use Rattle.key_shard.specs.declared.steps.Step.{Step}
use Rattle.key_shard.specs.declared.steps.Step.TheVariants.{Granted}
use Rattle.key_shard.specs.Past.{quar_of}

-- A quarantine that stands on a key, if its deadline has come.
abbrev pub due_now : ℕ → QKey → Option Quar → List Due
due_now now key None = []
due_now now key (Some quar) = if nat_le quar.deadline now then due_as key quar ∷ [] else []

-- The quarantine that a step granted, if it stands after this past and its deadline has come.
abbrev pub due_by : ℕ → List Step → Step → List Due
due_by now past (Granted key sid mode shift at token deadline) = due_now now key (quar_of key token past)
due_by now past other = []

-- The first of the two.
abbrev pub sooner : Due → Option Due → Option Due
sooner due None = Some due
sooner due (Some other) = if comes_before other due then Some other else Some due

-- The first of these, by key and then by token.
abbrev pub first_of : List Due → Option Due
first_of [] = None
first_of (due ∷ dues) = sooner due (first_of dues)

-- The first quarantine that stands and whose deadline has come, by key and then by token.
abbrev pub first_due : ℕ → List Step → Option Due
first_due now past = first_of (flat_map (due_by now past) past)
