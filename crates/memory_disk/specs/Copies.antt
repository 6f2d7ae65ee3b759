-- What is told of the file behind a copy in memory, where there is one.
use Rattle.std.specs.Prelude.{◌≡◌, ◌<◌, ℕ, Bool, true, false, Option, Some, None, List, length, Result, MatchBool, IsTrue}
use Rattle.std.specs.declared.io.Error.{Error}
use Rattle.sqlite_disk.specs.Disk.{Holds, Only, MoreFaults}
use Rattle.sqlite_disk.specs.Refusal.{finds_no_room}
use Rattle.sqlite_disk.specs.declared.Disk.{Ghosts}
use Rattle.sqlite_disk.specs.declared.tally.Tally.{Tally}

-- the calls that a full disk refused go up by one where this call's error says so
abbrev pub CountsFull : {T : Type 0} → Result T Error → ℕ → ℕ → Type 0
CountsFull result old new = MatchBool (finds_no_room result) (MoreFaults old new) (new ≡ old)

module _ {D : Type 0} (g : Ghosts D) where
  -- no sync of it has failed
  abbrev pub usable_in : Option D → Bool
  usable_in (Some file) = g.is_usable file
  usable_in None = true

  -- how many calls of it have failed
  abbrev pub faults_in : Option D → ℕ
  faults_in (Some file) = g.faults file
  faults_in None = 0

  -- how many calls of it a full disk refused
  abbrev pub refused_in : Option D → ℕ
  refused_in (Some file) = (g.tally_of file).refused
  refused_in None = 0

  -- a crash leaves each byte of a torn write in it old or new
  abbrev pub mixing_in : Option D → Bool
  mixing_in (Some file) = g.is_mixing file
  mixing_in None = false

  -- it shows these bytes at this offset, unless there are none
  abbrev pub Reaches : ℕ → List ℕ → Option D → Type 0
  Reaches at bytes (Some file) = 0 < length bytes → Holds (g.seen file) at bytes
  Reaches at bytes None = Unit {0}

  -- it is so long
  abbrev pub IsLong : ℕ → Option D → Type 0
  IsLong len (Some file) = length (g.seen file) ≡ len
  IsLong len None = Unit {0}

  -- a crash leaves no more of the second than the first shows
  abbrev pub IsDurable : Option D → Option D → Type 0
  IsDurable (Some old) (Some new) = Only (g.seen old) (g.may_leave new)
  IsDurable None new = Unit {0}
  IsDurable (Some old) None = ⊥

  -- it shows these bytes and a crash leaves no others, unless a read of it told a lie
  abbrev pub IsSettled : List ℕ → Option D → Type 0
  IsSettled bytes (Some file) = IsTrue (g.is_clean file) → (g.seen file ≡ bytes) × Only bytes (g.may_leave file)
  IsSettled bytes None = Unit {0}

  -- no tested read failed, and so many of its calls a full disk refused
  abbrev pub tally_in : Option D → Tally
  tally_in file = record { caught = 0; refused = refused_in file }
