-- What a framer answers, by the bytes that it was fed and hasn't given up.
use Rattle.std.specs.Prelude.{ℕ, ◌+◌, ◌-◌, ◌^◌, ◌≡◌, List, [], ◌++◌, drop, min, Option, Some, None, Result, Ok, Err}
use Rattle.mc_text.specs.declared.commands.Command.{Command}
use Rattle.mc_text.specs.declared.faults.FrameFault.{FrameFault}
use Rattle.mc_text.specs.declared.faults.FrameFault.TheVariants.{BadLine, LongLine, BadBlock, BigBlock, Memory}
use Rattle.mc_text.specs.Streams.{Item, command, bad_line, long_line, bad_block, big_block, IsFirst, IsOpen, WantsMemory}

-- a framer: where in the stream the next command begins, stopping at 2^64-1, and the bytes that were fed from there on
pub record Frames : Type 0 where
  pub place : ℕ
  pub rest : List ℕ

-- no byte was fed yet
abbrev pub unfed : Frames
unfed = record { place = 0; rest = [] }

-- one piece more was fed
abbrev pub fed : Frames → List ℕ → Frames
fed frames piece = record { place = frames.place; rest = frames.rest ++ piece }

-- so many bytes were taken
abbrev pub past : Frames → ℕ → Frames
past frames taken = record { place = min (frames.place + taken) (2 ^ 64 - 1); rest = drop taken frames.rest }

-- this stands first among the bytes, and is taken
pub record Takes (old : Frames) (item : Item) (new : Frames) : Type 0 where
  pub taken : ℕ
  pub stands : IsFirst old.rest item taken
  pub goes_on : new ≡ past old taken

-- what a fault says of the bytes: it stands first, at the place where they begin, and a bad
-- line is taken; memory is wanted for a whole command with a transaction or a block alone, and all stays
abbrev pub Faults : Frames → FrameFault → Frames → Type 0
Faults old (BadLine place) new = (place ≡ old.place) × Takes old bad_line new
Faults old (LongLine place) new = (place ≡ old.place) × Takes old long_line new
Faults old (BadBlock place) new = (place ≡ old.place) × Takes old bad_block new
Faults old (BigBlock place) new = (place ≡ old.place) × Takes old big_block new
Faults old Memory new = WantsMemory old.rest × (new ≡ old)

-- what was answered, and what is left
abbrev pub Answers : Frames → Result (Option Command) FrameFault → Frames → Type 0
Answers old (Ok (Some said)) new = Takes old (command said) new
Answers old (Ok None) new = IsOpen old.rest × (new ≡ old)
Answers old (Err fault) new = Faults old fault new
