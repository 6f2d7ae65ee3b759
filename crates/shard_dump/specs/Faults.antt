-- Where a text that is no dump is wrong first.
use Rattle.std.specs.Prelude.{ℕ, ◌≡◌, ◌≢◌, ◌+◌, ◌<◌, ◌≤◌, ◌⊎◌, List, ◌∷◌, ◌++◌, length, All, Result, Ok, Err}
use Rattle.shard_dump.specs.declared.heads.Head.{Head}
use Rattle.shard_dump.specs.declared.rows.DumpRow.{DumpRow}
use Rattle.shard_dump.specs.declared.rows.Dump.{Dump}
use Rattle.shard_dump.specs.declared.faults.DumpFault.{DumpFault}
use Rattle.shard_dump.specs.declared.faults.DumpFault.TheVariants.{Bad, Memory}
use Rattle.shard_dump.specs.Texts.{IsHead, IsRow, AreRows, IsDumpText, HasNoHead, head_text, row_text, rows_text, end_text}

-- a row may stand behind these: it is right, and its key isn't theirs
pub record IsNext (head : Head) (rows : List DumpRow) (row : DumpRow) : Type 0 where
  pub right : IsRow head row
  pub other : All (λ before. before.key ≢ row.key) rows

-- the text begins with a head and as many rows as that says at most, and these bytes are the rest
pub record BeginsWith (text : List ℕ) (head : Head) (rows : List DumpRow) (rest : List ℕ) : Type 0 where
  pub right : IsHead head
  pub few : length rows ≤ head.rows
  pub rows_right : AreRows head rows
  pub written : text ≡ head_text head ++ rows_text rows ++ rest

-- no row that may stand behind these is in front
abbrev pub HasNoNext : Head → List DumpRow → List ℕ → Type 0
HasNoNext head rows text = (row : DumpRow) (rest : List ℕ) → IsNext head rows row → text ≡ row_text row ++ rest → ⊥

-- the end isn't in front
abbrev pub HasNoEnd : List ℕ → Type 0
HasNoEnd text = (rest : List ℕ) → text ≡ end_text ++ rest → ⊥

-- so many bytes stand before the rest of a text
abbrev pub IsPlaceOf : List ℕ → List ℕ → ℕ → Type 0
IsPlaceOf rest text place = place + length rest ≡ length text

-- at this place the first row begins that isn't right or isn't whole
pub record IsBadRow (text : List ℕ) (place : ℕ) : Type 0 where
  pub head : Head
  pub rows : List DumpRow
  pub rest : List ℕ
  pub begins : BeginsWith text head rows rest
  pub fewer : length rows < head.rows
  pub wrong : HasNoNext head rows rest
  pub place_is : IsPlaceOf rest text place

-- at this place, behind all rows, the end should begin
pub record IsBadEnd (text : List ℕ) (place : ℕ) : Type 0 where
  pub head : Head
  pub rows : List DumpRow
  pub rest : List ℕ
  pub begins : BeginsWith text head rows rest
  pub all : length rows ≡ head.rows
  pub wrong : HasNoEnd rest
  pub place_is : IsPlaceOf rest text place

-- at this place, behind the end, there are more bytes
pub record HasMore (text : List ℕ) (place : ℕ) : Type 0 where
  pub head : Head
  pub rows : List DumpRow
  pub rest : List ℕ
  pub begins : BeginsWith text head rows (end_text ++ rest)
  pub all : length rows ≡ head.rows
  pub some : 0 < length rest
  pub place_is : IsPlaceOf rest text place

-- at this place a text is wrong first
abbrev pub IsBadAt : List ℕ → ℕ → Type 0
IsBadAt text place = ((place ≡ 0) × HasNoHead text) ⊎ (IsBadRow text place ⊎ (IsBadEnd text place ⊎ HasMore text place))

-- what a fault says of a text
abbrev pub IsDumpFault : List ℕ → DumpFault → Type 0
IsDumpFault text (Bad place) = IsBadAt text place
IsDumpFault text Memory = Unit {0}

-- the answer is this dump, unless memory ran out
abbrev pub Gives : Result Dump DumpFault → Dump → Type 0
Gives (Ok read) dump = read ≡ dump
Gives (Err (Bad place)) dump = ⊥
Gives (Err Memory) dump = Unit {0}

-- a text says one dump at most, a dump has one text, and a text that says none is wrong first at one place
pub record TextsTellDumps : Type 0 where
  pub one_dump : (text : List ℕ) (a b : Dump) → IsDumpText text a → IsDumpText text b → a ≡ b
  pub one_text : (a b : List ℕ) (dump : Dump) → IsDumpText a dump → IsDumpText b dump → a ≡ b
  pub one_place : (text : List ℕ) (m n : ℕ) → IsBadAt text m → IsBadAt text n → m ≡ n
  pub never_both : (text : List ℕ) (dump : Dump) (place : ℕ) → IsDumpText text dump → IsBadAt text place → ⊥
