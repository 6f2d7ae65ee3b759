-- Which entries of a shard are dumped.
use Rattle.std.specs.Prelude.{ℕ, Bool, not, ◌&&◌, nat_le, if◌then◌else◌, List, length, drop, reverse, Option, Some, None, option_and_then}
use Rattle.std.specs.List.{list_any, filter_map}
use Rattle.rows_model.specs.declared.keys.QKey.{QKey}
use Rattle.rows_model.specs.Changes.{touches}
use Rattle.key_shard.specs.declared.steps.Step.{Step}
use Rattle.key_shard.specs.Past.{entry, order}
use Rattle.key_shard.specs.Shards.{ShardView, past_of}
use Rattle.sql_keeper.specs.declared.stores.Commit.{Commit}
use Rattle.shard_dump.specs.declared.rows.DumpRow.{DumpRow}
use Rattle.shard_dump.specs.declared.rows.Dump.{Dump}

-- whether a commit above the stamp touches the key
abbrev pub is_touched : List Commit → QKey → ℕ → Bool
is_touched log key stamp = list_any (λ commit. touches commit.txn key) (drop stamp log)

-- whether an entry, a value and a stamp, is dumped: its key has an id from 1, it isn't too long, and no commit above its stamp touches the key
abbrev pub is_dumped : List Commit → QKey → List ℕ × ℕ → Bool
is_dumped log key found = (nat_le 1 key.id && nat_le (length found.0) 1048576) && not (is_touched log key found.1)

-- the row of an entry, where it is dumped
abbrev pub row_of : List Commit → QKey → List ℕ × ℕ → Option DumpRow
row_of log key found = if is_dumped log key found then Some (record { key = key; value = found.0 }) else None

-- the row of a key, where it has an entry that is dumped
abbrev pub row_on : List Commit → List Step → QKey → Option DumpRow
row_on log past key = option_and_then (row_of log key) (entry key past)

-- the rows of the entries that are dumped, the least recent first
abbrev pub rows_of : List Commit → List Step → List DumpRow
rows_of log past = filter_map (row_on log past) (reverse (order past))

-- the dump of a shard
abbrev pub dump_of : List Commit → ShardView → Dump
dump_of log shard = record { shard = shard.terms.no; count = shard.terms.count; rows = rows_of log (past_of shard) }
