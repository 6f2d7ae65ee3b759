-- What stands first in a stream in which plain commands stand beside the lease commands.
use Rattle.std.specs.Prelude.{ℕ, ◌+◌, ◌≡◌, ◌<◌, ◌≤◌, ◌⊎◌, Bool, List, [], ◌∷◌, length, take, drop, Some}
use Rattle.mc_text.specs.Words.{words_in}
use Rattle.mc_text.specs.PlainVerbs.{text_of}
use Rattle.mc_text.specs.PlainLines.{said_with, IsHead, IsNoHead, SayWhole, IsNoWhole}
use Rattle.mc_text.specs.declared.commands.Command.{Command}
use Rattle.mc_text.specs.declared.plain_lines.PlainHead.{PlainHead}
use Rattle.mc_text.specs.declared.plain_lines.PlainSaid.{PlainSaid}
use Rattle.mc_text.specs.declared.plain_verb_words.PlainVerb.{PlainVerb}
use Rattle.mc_text.specs.Streams as leases

-- the first line has so many bytes and begins with the verb of a plain command; these words stand behind the verb
pub record IsPlainLine (stream : List ℕ) (long : ℕ) (verb : PlainVerb) (args : List (List ℕ)) : Type 0 where
  pub line : leases.IsLine stream long
  pub words : words_in (take long stream) ≡ text_of verb ∷ args

-- no line of a plain command stands first
abbrev pub IsNoPlainLine : List ℕ → Type 0
IsNoPlainLine stream = (long : ℕ) (verb : PlainVerb) (args : List (List ℕ)) → IsPlainLine stream long verb args → ⊥

-- a plain command that is its line alone stands first, and takes so many bytes
pub record IsWhole (stream : List ℕ) (said : PlainSaid) (noreply : Bool) (taken : ℕ) : Type 0 where
  pub long : ℕ
  pub verb : PlainVerb
  pub args : List (List ℕ)
  pub line : IsPlainLine stream long verb args
  pub says : SayWhole verb args said noreply
  pub taken_is : taken ≡ long + 2

-- the line of a plain command with a block stands first
pub record IsHeaded (stream : List ℕ) (long : ℕ) (head : PlainHead) : Type 0 where
  pub verb : PlainVerb
  pub args : List (List ℕ)
  pub line : IsPlainLine stream long verb args
  pub says : IsHead verb args head

-- such a command stands first with its block, and takes so many bytes
pub record IsWithBlock (stream : List ℕ) (said : PlainSaid) (noreply : Bool) (taken : ℕ) : Type 0 where
  pub long : ℕ
  pub head : PlainHead
  pub line : IsHeaded stream long head
  pub block : List ℕ
  pub block_is : leases.IsBlock stream (long + 2) (Some head.fields.bytes) block
  pub said_is : said ≡ said_with head block
  pub noreply_is : noreply ≡ head.noreply
  pub taken_is : taken ≡ long + 2 + (head.fields.bytes + 2)

-- the line of a plain command stands first that isn't of its verb's form, and is taken alone
pub record IsBadPlain (stream : List ℕ) (taken : ℕ) : Type 0 where
  pub long : ℕ
  pub verb : PlainVerb
  pub args : List (List ℕ)
  pub line : IsPlainLine stream long verb args
  pub no_whole : IsNoWhole verb args
  pub no_head : IsNoHead verb args
  pub taken_is : taken ≡ long + 2

-- the block that the line of a plain command announces is bigger than one may be
pub record HasBigPlain (stream : List ℕ) : Type 0 where
  pub long : ℕ
  pub head : PlainHead
  pub line : IsHeaded stream long head
  pub big : 1048576 < head.fields.bytes

-- the two bytes behind that block are there, and aren't CR LF
pub record HasBadPlain (stream : List ℕ) : Type 0 where
  pub long : ℕ
  pub head : PlainHead
  pub line : IsHeaded stream long head
  pub small : head.fields.bytes ≤ 1048576
  pub there : long + 2 + head.fields.bytes + 1 < length stream
  pub wrong : leases.EndsAt stream (long + 2 + head.fields.bytes) → ⊥

-- the line of a plain command stands first, and its block isn't whole
pub record AwaitsBlock (stream : List ℕ) : Type 0 where
  pub long : ℕ
  pub head : PlainHead
  pub line : IsHeaded stream long head
  pub small : head.fields.bytes ≤ 1048576
  pub short : length stream < long + 2 + head.fields.bytes + 2

-- what may stand first in a stream
pub data Item : Type 0 where
  command : Command → Item
  -- a plain command, and whether no reply is wanted
  plain : PlainSaid → Bool → Item
  bad_line : Item
  long_line : Item
  bad_block : Item
  big_block : Item

-- this stands first by the grammar of lease commands, and no line of a plain one does
abbrev pub IsOther : List ℕ → leases.Item → ℕ → Type 0
IsOther stream item taken = leases.IsFirst stream item taken × IsNoPlainLine stream

-- this stands first in the stream, and takes so many bytes; the faults that last take none
abbrev pub IsFirst : List ℕ → Item → ℕ → Type 0
IsFirst stream (command said) taken = IsOther stream (leases.command said) taken
IsFirst stream (plain said noreply) taken = IsWhole stream said noreply taken ⊎ IsWithBlock stream said noreply taken
IsFirst stream bad_line taken = IsOther stream leases.bad_line taken ⊎ IsBadPlain stream taken
IsFirst stream long_line taken = IsOther stream leases.long_line taken
IsFirst stream bad_block taken = IsOther stream leases.bad_block taken ⊎ (HasBadPlain stream × (taken ≡ 0))
IsFirst stream big_block taken = IsOther stream leases.big_block taken ⊎ (HasBigPlain stream × (taken ≡ 0))

-- neither a whole command nor a fault stands first: more bytes are needed to tell
abbrev pub IsOpen : List ℕ → Type 0
IsOpen stream = (item : Item) (taken : ℕ) → IsFirst stream item taken → ⊥

-- these items stand first, one behind the other, and take so many bytes
abbrev pub AreFirst : List ℕ → List Item → ℕ → Type 0
AreFirst stream [] taken = taken ≡ 0
AreFirst stream (item ∷ items) taken =
    (one : ℕ) × (others : ℕ) × IsFirst stream item one × AreFirst (drop one stream) items others × (taken ≡ one + others)
