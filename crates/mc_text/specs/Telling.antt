-- What a line and the front of a stream are told to be.
use Rattle.std.specs.Prelude.{ℕ, ◌≡◌, ◌<◌, true, List, [], None}
use Rattle.mc_text.specs.declared.verb_words.LeaseVerb.{LeaseVerb}
use Rattle.mc_text.specs.declared.lines.Said.{Said}
use Rattle.mc_text.specs.declared.lines.Said.TheVariants.{Whole, Headed, Bad}
use Rattle.mc_text.specs.declared.items.Front.{Front}
use Rattle.mc_text.specs.declared.items.Front.TheVariants as front
use Rattle.mc_text.specs.Commands.{AreWords, announced, has_txn}
use Rattle.mc_text.specs.declared.commands.Command.{Command}
use Rattle.mc_text.specs.Streams.{AreBad, EndsAt, IsFirst, command, bad_line, long_line, bad_block, big_block, IsOpen}
use Rattle.mc_text.specs.Parsing.{IsSaid, IsUnsaid, with_block}

-- what the words behind a verb say
abbrev pub Tells : LeaseVerb → List (List ℕ) → Said → Type 0
Tells verb words (Whole said) = IsSaid verb words said × (announced said ≡ None)
Tells verb words (Headed head) = IsSaid verb words (with_block head [])
Tells verb words Bad = IsUnsaid verb words

-- the words behind a verb say a command with a transaction
pub record TellsTxn (verb : LeaseVerb) (words : List (List ℕ)) : Type 0 where
  pub said : Command
  pub is : IsSaid verb words said
  pub txn : has_txn said ≡ true

-- the words of a line say such a command
pub record SayTxn (words : List (List ℕ)) : Type 0 where
  pub said : Command
  pub says : AreWords said words
  pub txn : has_txn said ≡ true

-- what the words of a line say
abbrev pub WordsSay : List (List ℕ) → Said → Type 0
WordsSay words (Whole said) = AreWords said words × (announced said ≡ None)
WordsSay words (Headed head) = AreWords (with_block head []) words
WordsSay words Bad = AreBad words

-- what stands first in a stream
abbrev pub IsFront : List ℕ → Front → Type 0
IsFront stream (front.Command said taken) = IsFirst stream (command said) taken
IsFront stream (front.BadLine taken) = IsFirst stream bad_line taken
IsFront stream front.LongLine = IsFirst stream long_line 0
IsFront stream front.BadBlock = IsFirst stream bad_block 0
IsFront stream front.BigBlock = IsFirst stream big_block 0
IsFront stream front.Open = IsOpen stream

-- no CR LF begins within the first bytes
abbrev pub IsEndless : List ℕ → ℕ → Type 0
IsEndless stream bytes = (place : ℕ) → place < bytes → EndsAt stream place → ⊥
