-- What the parts of the parser answer.
use Rattle.std.specs.Prelude.{ℕ, ◌≡◌, List, ◌∷◌, Some}
use Rattle.mc_text.specs.declared.commands.Command.{Command}
use Rattle.mc_text.specs.declared.commands.Command.TheVariants.{IqSet, Sar}
use Rattle.mc_text.specs.declared.commands.Head.{Head}
use Rattle.mc_text.specs.declared.commands.Head.TheVariants as head
use Rattle.mc_text.specs.declared.verb_words.LeaseVerb.{LeaseVerb}
use Rattle.mc_text.specs.Commands.{verb_of, AreArgs}

-- the first of the words is this value, and these stand behind
pub record IsFirst {X : Type 0} (Is : List ℕ → X → Type 0) (words : List (List ℕ)) (value : X) (rest : List (List ℕ)) : Type 0 where
  pub word : List ℕ
  pub words_are : words ≡ word ∷ rest
  pub is : Is word value

-- the first of the words is no such value, or there is none
abbrev pub IsNoFirst : {X : Type 0} → (List ℕ → X → Type 0) → List (List ℕ) → Type 0
IsNoFirst {X} Is words = (value : X) (word : List ℕ) (rest : List (List ℕ)) → words ≡ word ∷ rest → Is word value → ⊥

-- the command has this verb, and these are the words behind it
pub record IsSaid (verb : LeaseVerb) (words : List (List ℕ)) (command : Command) : Type 0 where
  pub verb_is : verb_of command ≡ Some verb
  pub args : AreArgs command words

-- these are the words of no command of this verb
abbrev pub IsUnsaid : LeaseVerb → List (List ℕ) → Type 0
IsUnsaid verb words = (command : Command) → IsSaid verb words command → ⊥

-- the command that a line and its block make
abbrev pub with_block : Head → List ℕ → Command
with_block (head.Set key flags exptime bytes token stamp) block = IqSet key flags exptime bytes token stamp block
with_block (head.Sar key flags exptime bytes sid) block = Sar key flags exptime bytes sid block
