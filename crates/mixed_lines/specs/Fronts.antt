-- What the reader of a stream tells of it, and what it takes.
use Rattle.std.specs.Prelude.{ℕ, ◌≡◌, List, Option, Some, None, Result, Ok, Err}
use Rattle.mc_text.specs.Framing.{Frames, past}
use Rattle.mc_text.specs.declared.faults.FrameFault.{FrameFault}
use Rattle.mc_text.specs.declared.faults.FrameFault.TheVariants.{BadLine, LongLine, BadBlock, BigBlock, Memory}
use Rattle.mixed_lines.specs.declared.fronts.MixedFront.{MixedFront}
use Rattle.mixed_lines.specs.declared.fronts.MixedFront.TheVariants as front
use Rattle.mixed_lines.specs.declared.streams.Said.{Said}
use Rattle.mixed_lines.specs.declared.streams.Said.TheVariants.{Lease, Plain}
use Rattle.mixed_lines.specs.Items.{Item, command, plain, bad_line, long_line, bad_block, big_block, IsFirst, IsOpen}

-- the item that was read
abbrev pub item_of : Said → Item
item_of (Lease said) = command said
item_of (Plain said noreply) = plain said noreply

-- what stands first
abbrev pub IsFront : List ℕ → MixedFront → Type 0
IsFront stream (front.Command said taken) = IsFirst stream (item_of said) taken
IsFront stream (front.BadLine taken) = IsFirst stream bad_line taken
IsFront stream front.LongLine = IsFirst stream long_line 0
IsFront stream front.BadBlock = IsFirst stream bad_block 0
IsFront stream front.BigBlock = IsFirst stream big_block 0
IsFront stream front.Open = IsOpen stream

-- this stands first among the bytes of a framer, and is taken
pub record Takes (old : Frames) (item : Item) (new : Frames) : Type 0 where
  pub taken : ℕ
  pub stands : IsFirst old.rest item taken
  pub goes_on : new ≡ past old taken

-- a fault stands first: a bad line is taken, the others last
abbrev pub Faults : Frames → FrameFault → Frames → Type 0
Faults old (BadLine place) new = (place ≡ old.place) × Takes old bad_line new
Faults old (LongLine place) new = (place ≡ old.place) × IsFirst old.rest long_line 0
Faults old (BadBlock place) new = (place ≡ old.place) × IsFirst old.rest bad_block 0
Faults old (BigBlock place) new = (place ≡ old.place) × IsFirst old.rest big_block 0
Faults old Memory new = new ≡ old

-- what was read, and what is left
abbrev pub Reads : Frames → Result (Option Said) FrameFault → Frames → Type 0
Reads old (Ok (Some said)) new = Takes old (item_of said) new
Reads old (Ok None) new = IsOpen old.rest × (new ≡ old)
Reads old (Err fault) new = Faults old fault new
