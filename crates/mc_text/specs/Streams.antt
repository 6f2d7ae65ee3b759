-- What stands first in a stream of bytes: which command or fault, and how many bytes it takes.
use Rattle.std.specs.Prelude.{ℕ, ◌+◌, true, ◌≡◌, ◌<◌, ◌≤◌, List, [], ◌∷◌, length, take, drop, slice_index, Option, Some, None}
use Rattle.mc_text.specs.Verbs.{TableRow, IsRowOf, lease_rows}
use Rattle.mc_text.specs.declared.commands.Command.{Command}
use Rattle.mc_text.specs.Words.{words_in}
use Rattle.mc_text.specs.Commands.{AreWords, announced, block_of, has_body}

-- a CR LF begins at this place
pub record EndsAt (stream : List ℕ) (place : ℕ) : Type 0 where
  pub whole : place + 1 < length stream
  pub cr : slice_index stream place ≡ 13
  pub lf : slice_index stream (place + 1) ≡ 10

-- the first line has so many bytes: the first CR LF begins there
pub record IsLine (stream : List ℕ) (long : ℕ) : Type 0 where
  pub ends : EndsAt stream long
  pub first : (place : ℕ) → place < long → EndsAt stream place → ⊥
  pub short : long ≤ 2048

-- no line of up to 2,048 bytes stands first, and none can any more: no CR LF begins within the first 2,049 bytes, and one more stands behind them
pub record IsLong (stream : List ℕ) : Type 0 where
  pub enough : 2050 ≤ length stream
  pub endless : (place : ℕ) → place ≤ 2048 → EndsAt stream place → ⊥

-- the block that stands behind these bytes has so many of its own, as many as a block may have, and a CR LF behind them; where none is announced there is none
abbrev pub IsBlock : List ℕ → ℕ → Option ℕ → List ℕ → Type 0
IsBlock stream behind None block = block ≡ []
IsBlock stream behind (Some bytes) block =
    (bytes ≤ 1048576) × EndsAt stream (behind + bytes) × (block ≡ take bytes (drop behind stream))

-- how many bytes a block takes, with its CR LF
abbrev pub block_size : Option ℕ → ℕ
block_size None = 0
block_size (Some bytes) = bytes + 2

-- this command stands first, and takes so many bytes
pub record IsCommand (stream : List ℕ) (command : Command) (taken : ℕ) : Type 0 where
  pub long : ℕ
  pub line : IsLine stream long
  pub says : AreWords command (words_in (take long stream))
  pub block : IsBlock stream (long + 2) (announced command) (block_of command)
  pub taken_is : taken ≡ long + 2 + block_size (announced command)

-- the first word is a verb
abbrev pub HaveVerb : List (List ℕ) → Type 0
HaveVerb [] = ⊥
HaveVerb (word ∷ words) = (row : TableRow) × IsRowOf lease_rows word row

-- the first word is a verb, and the words say no command
pub record AreBad (words : List (List ℕ)) : Type 0 where
  pub verb : HaveVerb words
  pub none : (command : Command) → AreWords command words → ⊥

-- such a line stands first, and is taken alone
pub record IsBadLine (stream : List ℕ) (taken : ℕ) : Type 0 where
  pub long : ℕ
  pub line : IsLine stream long
  pub says : AreBad (words_in (take long stream))
  pub taken_is : taken ≡ long + 2

-- the line that stands first announces a block of so many bytes, behind the line's own CR LF
pub record Announces (stream : List ℕ) (long bytes : ℕ) : Type 0 where
  pub line : IsLine stream long
  pub command : Command
  pub says : AreWords command (words_in (take long stream))
  pub bytes_are : announced command ≡ Some bytes

-- the block that is announced is bigger than one may be
pub record HasBigBlock (stream : List ℕ) : Type 0 where
  pub long : ℕ
  pub bytes : ℕ
  pub line : Announces stream long bytes
  pub big : 1048576 < bytes

-- the two bytes behind the block are there, and aren't CR LF
pub record HasBadBlock (stream : List ℕ) : Type 0 where
  pub long : ℕ
  pub bytes : ℕ
  pub line : Announces stream long bytes
  pub small : bytes ≤ 1048576
  pub there : long + 2 + bytes + 1 < length stream
  pub wrong : EndsAt stream (long + 2 + bytes) → ⊥

-- what may stand first in a stream
pub data Item : Type 0 where
  command : Command → Item
  bad_line : Item
  long_line : Item
  bad_block : Item
  big_block : Item

-- a whole command with a transaction or a block stands first: nothing else is read with memory
pub record WantsMemory (stream : List ℕ) : Type 0 where
  pub said : Command
  pub taken : ℕ
  pub stands : IsCommand stream said taken
  pub body : has_body said ≡ true

-- this stands first in the stream, and takes so many bytes; the faults that last take none
abbrev pub IsFirst : List ℕ → Item → ℕ → Type 0
IsFirst stream (command said) taken = IsCommand stream said taken
IsFirst stream bad_line taken = IsBadLine stream taken
IsFirst stream long_line taken = IsLong stream × (taken ≡ 0)
IsFirst stream bad_block taken = HasBadBlock stream × (taken ≡ 0)
IsFirst stream big_block taken = HasBigBlock stream × (taken ≡ 0)

-- neither a whole command nor a fault stands first: more bytes are needed to tell
abbrev pub IsOpen : List ℕ → Type 0
IsOpen stream = (item : Item) (taken : ℕ) → IsFirst stream item taken → ⊥

-- these items stand first, one behind the other, and take so many bytes
abbrev pub AreFirst : List ℕ → List Item → ℕ → Type 0
AreFirst stream [] taken = taken ≡ 0
AreFirst stream (item ∷ items) taken =
    (one : ℕ) × (others : ℕ) × IsFirst stream item one × AreFirst (drop one stream) items others × (taken ≡ one + others)
