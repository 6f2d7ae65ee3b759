-- What is dumped of a shard beside a store that is asked.
use Rattle.std.specs.Prelude.{ℕ, ◌≡◌, ◌⊎◌, Bool, ◌&&◌, nat_le, bytes_eq, List, [], ◌∷◌, filter, length, reverse, Option, IsSome, option_map}
use Rattle.std.specs.List.{filter_map}
use Rattle.rows_model.specs.declared.keys.QKey.{QKey}
use Rattle.rows_model.specs.Rows.{Tables}
use Rattle.rows_model.specs.Query.{answer}
use Rattle.key_shard.specs.declared.steps.Step.{Step}
use Rattle.key_shard.specs.Past.{entry, order}
use Rattle.key_shard.specs.Shards.{ShardView, past_of}
use Rattle.shard_dump.specs.declared.rows.DumpRow.{DumpRow}
use Rattle.shard_dump.specs.declared.rows.Dump.{Dump}
use Rattle.shard_dump.specs.Texts.{IsDumpText}

-- the row of an entry, a value and a stamp
abbrev pub entry_row : QKey → List ℕ × ℕ → DumpRow
entry_row key found = record { key = key; value = found.0 }

-- the row of a key, where it has an entry
abbrev pub entry_on : List Step → QKey → Option DumpRow
entry_on past key = option_map (entry_row key) (entry key past)

-- the rows of all entries, the least recent first
abbrev pub entry_rows : List Step → List DumpRow
entry_rows past = filter_map (entry_on past) (reverse (order past))

-- whether a row may stand in a dump: its key has an id from 1, and its value isn't too long
abbrev pub may_stand : DumpRow → Bool
may_stand row = nat_le 1 row.key.id && nat_le (length row.value) 1048576

-- whether it is dumped beside these rows: it may stand there, and its value is its key's answer on these
abbrev pub is_answered : Tables → DumpRow → Bool
is_answered rows row = may_stand row && bytes_eq row.value (answer row.key rows)

-- the rows of the entries of which that is so, the least recent first
abbrev pub answered_rows : Tables → List Step → List DumpRow
answered_rows rows past = filter (is_answered rows) (entry_rows past)

-- these rows are among all of those, in the same order
abbrev pub AreAmong : List DumpRow → List DumpRow → Type 0
AreAmong rows [] = rows ≡ []
AreAmong rows (one ∷ all) = AreAmong rows all ⊎ ((rest : List DumpRow) × (rows ≡ one ∷ rest) × AreAmong rest all)

-- The dump of a shard beside a store with these rows: each row is that of an entry, in their order. Where the keeper tells its rows, the
-- dump has the rows of exactly those entries that may stand there, and whose value is their key's answer.
pub record IsAnswered (known_rows : Option Tables) (rows : Tables) (shard : ShardView) (dump : Dump) : Type 0 where
  pub shard_is : dump.shard ≡ shard.terms.no
  pub count_is : dump.count ≡ shard.terms.count
  pub among : AreAmong dump.rows (entry_rows (past_of shard))
  pub right : IsSome known_rows → dump.rows ≡ answered_rows rows (past_of shard)

-- the text is that of such a dump
pub record IsAnsweredText (known_rows : Option Tables) (rows : Tables) (shard : ShardView) (text : List ℕ) : Type 0 where
  pub dump : Dump
  pub is_text : IsDumpText text dump
  pub answered : IsAnswered known_rows rows shard dump
