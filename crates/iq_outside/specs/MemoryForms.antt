use Rattle.std.specs.Prelude.{ℕ, List, Bool, Option, Some, None, cond, map}
use Rattle.iq_outside.specs.Outside.{IsFresh, LineRecord}

-- a source in memory: the bytes left, the bytes given, the most that a call gives, the numbers of the calls that fail,
-- and how many calls and faults there were
pub record SourceView : Type 0 where
  pub left : List ℕ
  pub given : List ℕ
  pub piece : ℕ
  pub fails : List ℕ
  pub calls : ℕ
  pub faults : ℕ

-- a sink in memory: the bytes taken, how many it takes in all, the most that a call takes, the numbers
-- of the calls that fail, and how many calls and faults there were
pub record SinkView : Type 0 where
  pub taken : List ℕ
  pub room : ℕ
  pub piece : ℕ
  pub fails : List ℕ
  pub calls : ℕ
  pub faults : ℕ

-- a line in memory: what it reads from, what it writes to, and whether it is finished
pub record LineView : Type 0 where
  pub source : SourceView
  pub sink : SinkView
  pub finished : Bool

-- a door in memory: the address that it is bound to, the lines that it has yet to give, the lines closed and kept, whether each line that was closed
-- was kept, how many it keeps, the numbers of the calls that fail, how many calls and faults there were, how many
-- lines it gave, and whether it has answered that no more come
pub record ListDoorView : Type 0 where
  pub bound : Option (List ℕ)
  pub waiting : List LineView
  pub closed : List LineView
  pub all_kept : Bool
  pub room : ℕ
  pub fails : List ℕ
  pub calls : ℕ
  pub faults : ℕ
  pub given : ℕ
  pub ended : Bool

-- a line in memory has given and taken nothing
abbrev pub IsUnused : LineView → Type 0
IsUnused line = IsFresh (Some line.source.given) (Some line.sink.taken)

-- what a line in memory tells of its reading and of its writing
abbrev pub line_record : LineView → LineRecord
line_record line = record {
  reads = record { left = Some line.source.left; given = Some line.source.given; faults = line.source.faults };
  writes = record { taken = Some line.sink.taken; faults = line.sink.faults };
}

-- what the lines handed back to a door in memory told, which it tells while it has kept each
abbrev pub kept_lines : ListDoorView → Option (List LineRecord)
kept_lines door = cond door.all_kept (Some (map line_record door.closed)) None
