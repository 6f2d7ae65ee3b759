-- The text of a dump.
use Rattle.std.specs.Prelude.{ℕ, ◌≡◌, ◌≢◌, ◌<◌, ◌≤◌, ◌^◌, List, [], ◌∷◌, ◌++◌, length, codes, decimal, All, AllPairs}
use Rattle.std.specs.List.{flat_map}
use Rattle.rows_model.specs.Key.{key_text}
use Rattle.rows_model.specs.Placement.{shard_of}
use Rattle.shard_dump.specs.declared.heads.Head.{Head}
use Rattle.shard_dump.specs.declared.rows.DumpRow.{DumpRow}
use Rattle.shard_dump.specs.declared.rows.Dump.{Dump}

-- the first line: the shard's number, how many shards there are, and how many rows follow
abbrev pub head_text : Head → List ℕ
head_text head = codes "iqdump 1 " ++ decimal head.shard ++ 32 ∷ decimal head.count ++ 32 ∷ decimal head.rows ++ 10 ∷ []

-- a row: its key and how many bytes its value has, and then the value, each with an LF behind
abbrev pub row_text : DumpRow → List ℕ
row_text row = key_text row.key ++ 32 ∷ decimal (length row.value) ++ 10 ∷ row.value ++ 10 ∷ []

abbrev pub rows_text : List DumpRow → List ℕ
rows_text rows = flat_map row_text rows

-- the last line
abbrev pub end_text : List ℕ
end_text = codes "end\n"

-- the head of a dump
abbrev pub head_of : Dump → Head
head_of dump = record { shard = dump.shard; count = dump.count; rows = length dump.rows }

-- the text of a dump
abbrev pub dump_text : Dump → List ℕ
dump_text dump = head_text (head_of dump) ++ rows_text dump.rows ++ end_text

-- a dump may have this head
pub record IsHead (head : Head) : Type 0 where
  pub one_of : head.shard < head.count
  pub few_shards : head.count ≤ 64
  pub few_rows : head.rows ≤ 65536

-- a row may stand under a head: its key has an id from 1 and is that shard's, and its value isn't too long
pub record IsRow (head : Head) (row : DumpRow) : Type 0 where
  pub id_from : 1 ≤ row.key.id
  pub id_below : row.key.id < 2 ^ 32
  pub at_home : shard_of row.key head.count ≡ head.shard
  pub short : length row.value ≤ 1048576

-- these rows may stand under a head: each is right, and no two have one key
pub record AreRows (head : Head) (rows : List DumpRow) : Type 0 where
  pub each : All (IsRow head) rows
  pub differ : AllPairs (λ row later. row.key ≢ later.key) rows

-- the text is that of the dump, which is right
pub record IsDumpText (text : List ℕ) (dump : Dump) : Type 0 where
  pub right : IsHead (head_of dump)
  pub rows : AreRows (head_of dump) dump.rows
  pub written : text ≡ dump_text dump

-- no head that a dump may have stands in front
abbrev pub HasNoHead : List ℕ → Type 0
HasNoHead text = (head : Head) (rest : List ℕ) → IsHead head → text ≡ head_text head ++ rest → ⊥

-- no row that may stand under a head does in front
abbrev pub HasNoRow : Head → List ℕ → Type 0
HasNoRow head text = (row : DumpRow) (rest : List ℕ) → IsRow head row → text ≡ row_text row ++ rest → ⊥
