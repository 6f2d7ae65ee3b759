-- What the steps of a shard mark on one key. Marks are listed with the latest first.
use Rattle.std.specs.Prelude.{ℕ, ◌≡◌, ◌⊎◌, if◌then◌else◌, List, [], ◌∷◌, ◌++◌, flat_map, Option, Some}
use Rattle.rows_model.specs.declared.keys.QKey.{QKey}
use Rattle.rows_model.specs.Key.{same_key}
use Rattle.key_shard.specs.declared.steps.Ended.TheVariants as ended
use Rattle.key_shard.specs.declared.steps.Ended as ends
use Rattle.key_shard.specs.declared.steps.Step.{Step}
use Rattle.key_shard.specs.declared.steps.Step.TheVariants as step

-- A mark of a key. A session is told by its number: it was granted a quarantine under this token, or that quarantine ended.
-- A lease to read was given under this token. A value was written with this stamp: stored, put, or shifted.
pub data Mark : Type 0 where
  Granted : (who token : ℕ) → Mark
  Ended : (who token : ℕ) → Mark
  Leased : (token : ℕ) → Mark
  Wrote : (stamp : ℕ) → Mark

-- The mark is among these.
abbrev pub Has : Mark → List Mark → Type 0
Has mark [] = ⊥
Has mark (first ∷ marks) = (first ≡ mark) ⊎ Has mark marks

-- A quarantine of the session ended.
pub record HasEnded (marks : List Mark) (who : ℕ) : Type 0 where
  pub token : ℕ
  pub mark : Has (Ended who token) marks

-- What the end of a quarantine writes.
abbrev pub writes_by : ends.Ended → List Mark
writes_by ended.Keep = []
writes_by ended.Drop = []
writes_by (ended.Put value stamp evicted) = Wrote stamp ∷ []
writes_by (ended.Shift by stamp) = Wrote stamp ∷ []

-- The marks that a step leaves on the key that it is on.
abbrev pub marks_by : Step → List Mark
marks_by (step.Hit on sid floor value stamp) = []
marks_by (step.Lease on sid floor now token deadline) = Leased token ∷ []
marks_by (step.Again on sid floor now standing) = []
marks_by (step.Own on sid) = []
marks_by (step.Stored on token now value stamp evicted) = Wrote stamp ∷ []
marks_by (step.Void on token now) = []
marks_by (step.Granted on sid mode shift now token deadline) = Granted sid.number token ∷ []
marks_by (step.Held on sid mode) = []
marks_by (step.Refused on sid mode holder held) = []
marks_by (step.Released on sid token how) = writes_by how ++ Ended sid.number token ∷ []
marks_by (step.Gone on sid token) = []
marks_by (step.Raised on sid token) = []
marks_by (step.Shared on sid token holder) = []
marks_by (step.Renewed on sid token now deadline) = []

-- The key that a step is on.
abbrev pub key_of : Step → QKey
key_of (step.Hit on sid floor value stamp) = on
key_of (step.Lease on sid floor now token deadline) = on
key_of (step.Again on sid floor now standing) = on
key_of (step.Own on sid) = on
key_of (step.Stored on token now value stamp evicted) = on
key_of (step.Void on token now) = on
key_of (step.Granted on sid mode shift now token deadline) = on
key_of (step.Held on sid mode) = on
key_of (step.Refused on sid mode holder held) = on
key_of (step.Released on sid token how) = on
key_of (step.Gone on sid token) = on
key_of (step.Raised on sid token) = on
key_of (step.Shared on sid token holder) = on
key_of (step.Renewed on sid token now deadline) = on

-- The marks that a step leaves on this key: none, where it is on another.
abbrev pub marks_in : QKey → Step → List Mark
marks_in key s = if same_key key (key_of s) then marks_by s else []

-- The marks of a key after these steps of its shard, the latest first.
abbrev pub marks_of : QKey → List Step → List Mark
marks_of key past = flat_map (marks_in key) past

-- The stamp that was written last, or else the one at the start, if there was one.
abbrev pub last_wrote : List Mark → Option ℕ → Option ℕ
last_wrote [] start = start
last_wrote (Granted who token ∷ marks) start = last_wrote marks start
last_wrote (Ended who token ∷ marks) start = last_wrote marks start
last_wrote (Leased token ∷ marks) start = last_wrote marks start
last_wrote (Wrote stamp ∷ marks) start = Some stamp
