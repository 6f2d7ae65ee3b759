-- The steps of a shard, in short.
use Rattle.std.specs.Prelude.{ℕ, ℤ, pos, Bool, true, false, not, is_some, List, [], ◌∷◌, ◌++◌}
use Rattle.rows_model.specs.declared.keys.QKey.{QKey}
use Rattle.rows_model.specs.declared.keys.Sid.{Sid}
use Rattle.case_tables.specs.Compatibility.{is_invalidate}
use Rattle.lease_table.specs.declared.records.Mode.{Mode}
use Rattle.lease_table.specs.Leases.{way_of}
use Rattle.key_shard.specs.Past.{entry}
use Rattle.key_shard.specs.declared.steps.Ended.{Ended}
use Rattle.key_shard.specs.declared.steps.Ended.TheVariants as ended
use Rattle.key_shard.specs.declared.steps.Step.{Step}
use Rattle.key_shard.specs.declared.steps.Step.TheVariants as step
use Rattle.log_word.specs.declared.events.Short.{Short}
use Rattle.log_word.specs.declared.events.ShortKind.{ShortKind}
use Rattle.log_word.specs.declared.events.ShortKind.TheVariants as kinds
use Rattle.key_freshness.specs.Marks.{key_of}

-- No session.
abbrev pub nobody : Sid
nobody = record { number = 0 }

-- The kind of a release, by how the quarantine ended.
abbrev pub kind_of_end : Ended → ShortKind
kind_of_end ended.Keep = kinds.Kept
kind_of_end ended.Drop = kinds.Dropped
kind_of_end (ended.Put value stamp evicted) = kinds.Put
kind_of_end (ended.Shift by stamp) = kinds.Shifted

-- The stamp that a release writes, 0 where it writes none.
abbrev pub stamp_of_end : Ended → ℕ
stamp_of_end ended.Keep = 0
stamp_of_end ended.Drop = 0
stamp_of_end (ended.Put value stamp evicted) = stamp
stamp_of_end (ended.Shift by stamp) = stamp

-- A step in short, of these parts.
abbrev pub short_with : ShortKind → QKey → Sid → ℕ → ℕ → Bool → ℤ → Bool → Short
short_with kind key sid token stamp alone by entry = record {
  kind = kind;
  key = key;
  sid = sid;
  token = token;
  stamp = stamp;
  alone = alone;
  by = by;
  entry = entry;
}

-- A step in short that leaves no quarantine alone.
abbrev pub short : ShortKind → QKey → Sid → ℕ → ℕ → Bool → Short
short kind key sid token stamp entry = short_with kind key sid token stamp false (pos 0) entry

-- A quarantine that stands in this mode stands alone on its key.
abbrev pub is_alone : Mode → Bool
is_alone mode = not (is_invalidate (way_of mode))

-- A grant in short, and a raise.
abbrev pub granted_short : QKey → Sid → Mode → ℤ → ℕ → Bool → Short
granted_short key sid mode shift token entry = short_with kinds.Granted key sid token 0 (is_alone mode) shift entry

abbrev pub raised_short : QKey → Sid → ℕ → Bool → Short
raised_short key sid token entry = short_with kinds.Raised key sid token 0 true (pos 0) entry

-- A step in short, after which its key has an entry or has none.
abbrev pub short_of : Step → Bool → Short
short_of (step.Hit on sid floor value stamp) has = short kinds.Hit on sid 0 stamp has
short_of (step.Lease on sid floor now token deadline) has = short kinds.Lease on sid token 0 has
short_of (step.Again on sid floor now stands) has = short kinds.Again on sid 0 0 has
short_of (step.Own on sid) has = short kinds.Own on sid 0 0 has
short_of (step.Stored on token now value stamp evicted) has = short kinds.Stored on nobody token stamp has
short_of (step.Void on token now) has = short kinds.Void on nobody token 0 has
short_of (step.Granted on sid mode shift now token deadline) has = granted_short on sid mode shift token has
short_of (step.Held on sid mode) has = short kinds.Held on sid 0 0 has
short_of (step.Refused on sid mode holder held) has = short kinds.Refused on sid 0 0 has
short_of (step.Released on sid token how) has = short (kind_of_end how) on sid token (stamp_of_end how) has
short_of (step.Gone on sid token) has = short kinds.Gone on sid token 0 has
short_of (step.Raised on sid token) has = raised_short on sid token has
short_of (step.Shared on sid token holder) has = short kinds.Shared on sid token 0 has
short_of (step.Renewed on sid token now deadline) has = short kinds.Renewed on sid token 0 has

-- Steps in short, where others came before them. The latest stands first.
abbrev pub shorts_of : List Step → List Step → List Short
shorts_of before [] = []
shorts_of before (s ∷ more) =
    short_of s (is_some (entry (key_of s) (s ∷ more ++ before))) ∷ shorts_of before more
