-- The lines of plain commands: which words behind a verb say which command.
use Rattle.std.specs.Prelude.{ℕ, ◌≡◌, ◌≤◌, ⊤, Bool, true, false, cond, List, length, All, Contains}
use Rattle.mc_text.specs.Words.{is_key, IsNumber, IsFlags}
use Rattle.mc_text.specs.Commands.{Then}
use Rattle.mc_text.specs.PlainKeys.{IsPlainKey}
use Rattle.mc_text.specs.PlainWords.{IsQueryKey, IsKeyWord, IsExptime, IsLast}
use Rattle.mc_text.specs.declared.plain_words.KeyWord.{KeyWord}
use Rattle.mc_text.specs.declared.plain_verb_words.PlainVerb.{PlainVerb}
use Rattle.mc_text.specs.declared.plain_verb_words.PlainVerb.TheVariants as verb
use Rattle.mc_text.specs.declared.plain_lines.Storing.{Storing}
use Rattle.mc_text.specs.declared.plain_lines.Storing.TheVariants as storing
use Rattle.mc_text.specs.declared.plain_lines.Fields.{Fields}
use Rattle.mc_text.specs.declared.plain_lines.PlainHead.{PlainHead}
use Rattle.mc_text.specs.declared.plain_lines.PlainSaid.{PlainSaid}
use Rattle.mc_text.specs.declared.plain_lines.PlainSaid.TheVariants as said
use Rattle.mc_text.specs.declared.plain_lines.PlainLine.{PlainLine}
use Rattle.mc_text.specs.declared.plain_lines.PlainLine.TheVariants as line
use Rattle.mc_text.specs.declared.plain_commands.PlainCommand.{PlainCommand}
use Rattle.mc_text.specs.declared.plain_commands.PlainCommand.TheVariants as command

-- the command that a line and its block make
abbrev pub stored : Storing → List ℕ → ℕ → List ℕ → PlainCommand
stored storing.Set key flags block = command.Set key flags block
stored storing.Add key flags block = command.Add key flags block
stored storing.Replace key flags block = command.Replace key flags block
stored (storing.Cas unique) key flags block = command.Cas key flags block unique

-- what a line and its block say: no key of the cache is stored, and nothing that expires
abbrev pub said_with : PlainHead → List ℕ → PlainSaid
said_with head block =
    cond head.fields.key.is_plain
    (cond head.fields.expires said.Exptime (said.Asks (stored head.storing head.fields.key.word.now head.fields.flags block))) said.QueryKey

-- what a line says of its one key
abbrev pub on_key : KeyWord → (List ℕ → PlainCommand) → PlainSaid
on_key key make = cond key.is_plain (said.Asks (make key.word.now)) said.QueryKey

-- the word is this key
abbrev pub IsKeyOf : List ℕ → KeyWord → Type 0
IsKeyOf word key = (key.word.now ≡ word) × IsKeyWord key.word.now key.is_plain

-- what stands behind the verb of each command that stores its block, and then others
abbrev pub AreFields : Fields → (List (List ℕ) → Type 0) → List (List ℕ) → Type 0
AreFields fields AreOthers words =
    Then (λ word. IsKeyOf word fields.key)
    (Then (λ word. IsFlags word fields.flags) (Then (λ word. IsExptime word fields.expires) (Then (λ word. IsNumber word fields.bytes) AreOthers))) words

-- what stands behind these in each of them
abbrev pub IsTail : Storing → Bool → List (List ℕ) → Type 0
IsTail (storing.Cas unique) noreply words = Then (λ word. IsNumber word unique) (λ rest. IsLast rest noreply) words
IsTail other noreply words = IsLast words noreply

-- the verb of such a command
abbrev pub verb_of : Storing → PlainVerb
verb_of storing.Set = verb.Set
verb_of storing.Add = verb.Add
verb_of storing.Replace = verb.Replace
verb_of (storing.Cas unique) = verb.Cas

-- the words behind the verb of a command that stores its block
abbrev pub IsHead : PlainVerb → List (List ℕ) → PlainHead → Type 0
IsHead verb words head = (verb ≡ verb_of head.storing) × AreFields head.fields (IsTail head.storing head.noreply) words

-- they are those of no such command
abbrev pub IsNoHead : PlainVerb → List (List ℕ) → Type 0
IsNoHead verb words = (head : PlainHead) → IsHead verb words head → ⊥

-- some keys, of which this is made if each is a plain one
abbrev pub AreKeys : (List (List ℕ) → PlainCommand) → List (List ℕ) → PlainSaid → Type 0
AreKeys make words (said.Asks asked) = (1 ≤ length words) × All IsPlainKey words × (asked ≡ make words)
AreKeys make words said.QueryKey = All (λ word. is_key word ≡ true) words × ((word : List ℕ) × Contains words word × IsQueryKey word)
AreKeys make words said.Exptime = ⊥

-- one key, of which this is made if it is a plain one, and then others
pub record IsOnKey (make : List ℕ → PlainCommand) (AreOthers : List (List ℕ) → Type 0) (words : List (List ℕ)) (said : PlainSaid) : Type 0 where
  pub key : KeyWord
  pub words_are : Then (λ word. IsKeyOf word key) AreOthers words
  pub said_is : said ≡ on_key key make

-- the words behind the verb of a command that is its line alone
abbrev pub SayWhole : PlainVerb → List (List ℕ) → PlainSaid → Bool → Type 0
SayWhole verb.Get words said noreply = AreKeys command.Get words said × (noreply ≡ false)
SayWhole verb.Gets words said noreply = AreKeys command.Gets words said × (noreply ≡ false)
SayWhole verb.Delete words said noreply = IsOnKey command.Delete (λ rest. IsLast rest noreply) words said
SayWhole verb.Incr words said noreply =
    (by : ℕ) × IsOnKey (λ key. command.Incr key by) (Then (λ word. IsNumber word by) (λ rest. IsLast rest noreply)) words said
SayWhole verb.Decr words said noreply =
    (by : ℕ) × IsOnKey (λ key. command.Decr key by) (Then (λ word. IsNumber word by) (λ rest. IsLast rest noreply)) words said
SayWhole other words said noreply = ⊥

-- they are those of no such command
abbrev pub IsNoWhole : PlainVerb → List (List ℕ) → Type 0
IsNoWhole verb words = (said : PlainSaid) (noreply : Bool) → SayWhole verb words said noreply → ⊥

-- the key of a line with a block is told right
abbrev pub HasKey : PlainLine → Type 0
HasKey (line.Headed head) = IsKeyWord head.fields.key.word.now head.fields.key.is_plain
HasKey other = ⊤

-- what a line says
abbrev pub Tells : PlainVerb → List (List ℕ) → PlainLine → Type 0
Tells verb words (line.Whole said noreply) = SayWhole verb words said noreply
Tells verb words (line.Headed head) = IsHead verb words head
Tells verb words line.Bad = IsNoWhole verb words × IsNoHead verb words
