use Rattle.std.specs.Prelude.{◌≡◌, ℕ, ◌+◌, ◌-◌, ◌^◌, ◌<◌, ◌≤◌, ◌⊎◌, ◌↔◌, min, List, [], ◌∷◌, ◌++◌, length, map, Option, Some, None}
use Rattle.std.specs.Option.{option_map, ForSome}

-- a count of faults rose in a call: it is greater after it, or stands at the end of its type
abbrev pub Rose : ℕ → ℕ → Type 0
Rose before after = (before < after) ⊎ (after ≡ 2 ^ 64 - 1)

-- the number after n, which stands still at the end of its type
abbrev pub count_up : ℕ → ℕ
count_up n = min (n + 1) (2 ^ 64 - 1)

-- these bytes were the next of a source: with what is left now they are what was left, where it tells that
abbrev pub Takes : Option (List ℕ) → Option (List ℕ) → List ℕ → Type 0
Takes left_old left_new bytes = left_old ≡ option_map (λ rest. bytes ++ rest) left_new

-- some bytes were the next of a source
abbrev pub TakesSome : Option (List ℕ) → Option (List ℕ) → Type 0
TakesSome left_old left_new = (bytes : List ℕ) × Takes left_old left_new bytes

-- some bytes, no more than the limit, were the next of a source
abbrev pub TakesAtMost : ℕ → Option (List ℕ) → Option (List ℕ) → Type 0
TakesAtMost limit left_old left_new = (bytes : List ℕ) × Takes left_old left_new bytes × (length bytes ≤ limit)

-- no byte is left, where a source tells its bytes
abbrev pub AtEnd : Option (List ℕ) → Type 0
AtEnd left = ForSome left (λ rest. rest ≡ [])

-- a read gives 0 bytes exactly where none are left, where a source tells its bytes
abbrev pub ZeroAtEnd : Option (List ℕ) → ℕ → Type 0
ZeroAtEnd left n = ForSome left (λ rest. (n ≡ 0) ↔ (rest ≡ []))

-- these bytes were appended to what a sink had taken, where it tells that
abbrev pub Gains : Option (List ℕ) → Option (List ℕ) → List ℕ → Type 0
Gains taken_old taken_new bytes = taken_new ≡ option_map (λ taken. taken ++ bytes) taken_old

-- the first of each pair
abbrev pub firsts : List (ℕ × Unit {0}) → List ℕ
firsts pairs = map (λ pair. pair.0) pairs

-- what a line tells of its reading: the bytes left, the bytes given so far, and how often a read failed
pub record ReadSide : Type 0 where
  pub left : Option (List ℕ)
  pub given : Option (List ℕ)
  pub faults : ℕ

-- what a line tells of its writing: the bytes taken so far, and how often a write failed
pub record WriteSide : Type 0 where
  pub taken : Option (List ℕ)
  pub faults : ℕ

-- what a line tells of its reading and of its writing
pub record LineRecord : Type 0 where
  pub reads : ReadSide
  pub writes : WriteSide

-- the reading of what is only written
abbrev pub no_reading : ReadSide
no_reading = record { left = None; given = None; faults = 0 }

-- the writing of what is only read
abbrev pub no_writing : WriteSide
no_writing = record { taken = None; faults = 0 }

-- a line has given and taken nothing, where it tells that
abbrev pub IsFresh : Option (List ℕ) → Option (List ℕ) → Type 0
IsFresh given taken = ForSome given (λ bytes. bytes ≡ []) × ForSome taken (λ bytes. bytes ≡ [])

-- the number of lines that a door gave, after an answer to accept
abbrev pub lines_with : {L : Type 0} → Option L → ℕ → ℕ
lines_with None n = n
lines_with (Some line) n = count_up n

-- a line that tells this was handed back to a door: the door tells the lines handed back no longer, or they told what
-- those before did, and then this
abbrev pub HandedBack : Option (List LineRecord) → Option (List LineRecord) → LineRecord → Type 0
HandedBack before after line = (after ≡ None) ⊎ (after ≡ option_map (λ lines. lines ++ line ∷ []) before)
