-- Steps in short, told by the answers to their requests.
use Rattle.std.specs.Prelude.{ℕ, ℤ, Bool}
use Rattle.rows_model.specs.declared.keys.QKey.{QKey}
use Rattle.rows_model.specs.declared.keys.Sid.{Sid}
use Rattle.lease_table.specs.declared.records.Mode.{Mode}
use Rattle.key_shard.specs.declared.replies.SetAnswer.{SetAnswer}
use Rattle.key_shard.specs.declared.replies.SetAnswer.TheVariants as set
use Rattle.key_shard.specs.declared.replies.QAnswer.{QAnswer}
use Rattle.key_shard.specs.declared.replies.QAnswer.TheVariants as quarantine
use Rattle.key_shard.specs.declared.replies.How.{How}
use Rattle.key_shard.specs.declared.replies.How.TheVariants as hows
use Rattle.key_shard.specs.declared.replies.Rel.{Rel}
use Rattle.key_shard.specs.declared.replies.Rel.TheVariants as rel
use Rattle.key_shard.specs.declared.replies.Raising.{Raising}
use Rattle.key_shard.specs.declared.replies.Raising.TheVariants as raising
use Rattle.key_shard.specs.declared.replies.Renewal.{Renewal}
use Rattle.key_shard.specs.declared.replies.Renewal.TheVariants as renewal
use Rattle.log_word.specs.declared.events.Short.{Short}
use Rattle.log_word.specs.declared.events.ShortKind.{ShortKind}
use Rattle.log_word.specs.declared.events.ShortKind.TheVariants as kinds
use Rattle.bound_hub.specs.Shorts.{nobody, short, granted_short, raised_short}

-- The step of a set in short.
abbrev pub set_short : QKey → ℕ → ℕ → SetAnswer → Bool → Short
set_short key token stamp (set.Stored evicted) has = short kinds.Stored key nobody token stamp has
set_short key token stamp set.Void has = short kinds.Void key nobody token 0 has

-- The step of a quarantine in short, in this mode and with this shift.
abbrev pub quarantine_short : QKey → Sid → Mode → ℤ → QAnswer → Bool → Short
quarantine_short key who mode shift (quarantine.Granted grant old) has = granted_short key who mode shift grant.token has
quarantine_short key who mode shift quarantine.Held has = short kinds.Held key who 0 0 has
quarantine_short key who mode shift (quarantine.Refused holder held) has = short kinds.Refused key who 0 0 has

-- The kind of a release that is made, by how the quarantine is to end, and the stamp that it writes.
abbrev pub kind_of_how : How → ShortKind
kind_of_how hows.Keep = kinds.Kept
kind_of_how hows.Drop = kinds.Dropped
kind_of_how (hows.Shift stamp) = kinds.Shifted

abbrev pub stamp_of_how : How → ℕ
stamp_of_how hows.Keep = 0
stamp_of_how hows.Drop = 0
stamp_of_how (hows.Shift stamp) = stamp

-- The step of a release in short: of the key, the session and the token of its grant.
abbrev pub release_short : QKey → Sid → ℕ → How → Rel → Bool → Short
release_short key sid token how (rel.Released evicted) has = short (kind_of_how how) key sid token (stamp_of_how how) has
release_short key sid token how rel.Gone has = short kinds.Gone key sid token 0 has

-- The step of a release with a new value in short.
abbrev pub replace_short : QKey → Sid → ℕ → ℕ → Rel → Bool → Short
replace_short key sid token stamp (rel.Released evicted) has = short kinds.Put key sid token stamp has
replace_short key sid token stamp rel.Gone has = short kinds.Gone key sid token 0 has

-- The step of a raise in short.
abbrev pub raise_short : QKey → Sid → ℕ → Raising → Bool → Short
raise_short key sid token (raising.Raised grant old) has = raised_short key sid token has
raise_short key sid token (raising.Shared grant holder) has = short kinds.Shared key sid token 0 has
raise_short key sid token raising.Gone has = short kinds.Gone key sid token 0 has

-- The step of a renewal in short.
abbrev pub renew_short : QKey → Sid → ℕ → Renewal → Bool → Short
renew_short key sid token (renewal.Renewed deadline) has = short kinds.Renewed key sid token 0 has
renew_short key sid token renewal.Gone has = short kinds.Gone key sid token 0 has
