-- How `clap` reads the words.
use Rattle.std.specs.Prelude.{◌≡◌, ◌⊎◌, List, [], ◌∷◌, All, Option, Some, None, Result, Ok, Err, unwrap_or, codes}
use Rattle.std.specs.Str.{IsUtf8}
use Rattle.clap.specs.Words.{IsAmong, Row, Text, all_of, fault_of, first_of, subcommand_of}
use Rattle.clap.specs.declared.error.kind.ErrorKind.{ErrorKind}
use Rattle.clap.specs.declared.error.kind.ErrorKind.TheVariants.{DisplayHelp, DisplayVersion, OutOfMemory}
use Rattle.sql_keeper.specs.declared.keepers.Place.{Place}
use Rattle.sql_keeper.specs.declared.keepers.Place.TheVariants.{Fresh, File}
use Rattle.run_words.specs.declared.words.Words.{Words}
use Rattle.run_words.specs.declared.words.Words.TheVariants.{Page}
use Rattle.run_words.specs.declared.words.WordsFault.{WordsFault}
use Rattle.run_words.specs.declared.words.WordsFault.TheVariants as fault
use Rattle.run_words.specs.Program.{program}
use Rattle.run_words.specs.Words.{AreCommand, CanBeNamed, warm_path}

-- The name of a subcommand and the values behind it.
abbrev pub line_of : Option (Text × List Row) → List Text
line_of None = []
line_of (Some found) = found.0 ∷ unwrap_or (all_of (codes "values") found.1) []

-- The place that a path names: a fresh one where there is none.
abbrev pub place_in : Option Text → Place
place_in None = Fresh
place_in (Some path) = File path

-- The place that a subcommand is given, by the option `--db`.
abbrev pub place_of : Option (Text × List Row) → Place
place_of None = Fresh
place_of (Some found) = place_in (first_of (codes "db") found.1)

-- The path of the file of a cache that a subcommand is given, by the option `--warm`.
abbrev pub path_of : Option (Text × List Row) → Option Text
path_of None = None
path_of (Some found) = first_of (codes "warm") found.1

-- The subcommand is the command, with its values, the place and the file of a cache that it is given.
pub record AreGiven (given : Option (Text × List Row)) (command : Words) : Type 0 where
  pub named : CanBeNamed (place_of given)
  pub are_command : AreCommand (line_of given) (place_of given) command
  pub path : warm_path command ≡ path_of given

-- `clap` takes the words, and what it reads of them is the command.
pub record AreSaid (words : List Text) (command : Words) : Type 0 where
  pub taken : fault_of program words ≡ []
  pub given : AreGiven (subcommand_of program words) command

-- The words are UTF-8, and read as this command.
abbrev pub AreReadAs : List Text → Words → Type 0
AreReadAs words command = All IsUtf8 words × AreSaid words command

-- `clap` answers the words with a text, the help or the version.
abbrev pub AskForText : List Text → Type 0
AskForText words = IsAmong DisplayHelp (fault_of program words) ⊎ IsAmong DisplayVersion (fault_of program words)

-- What `clap` says of the words: a command, or that they ask for a text.
abbrev pub IsSaid : List Text → Words → Type 0
IsSaid words (Page text) = AskForText words
IsSaid words command = AreSaid words command

-- What is read of words, which are UTF-8.
abbrev pub IsRead : List Text → Words → Type 0
IsRead words command = All IsUtf8 words × IsSaid words command

-- A kind of refusal is a text to show.
abbrev pub IsText : ErrorKind → Type 0
IsText kind = (kind ≡ DisplayHelp) ⊎ (kind ≡ DisplayVersion)

-- What a refusal of this kind comes to. Memory may run out at each.
abbrev pub IsRefused : ErrorKind → Result Words WordsFault → Type 0
IsRefused kind (Ok (Page text)) = IsText kind
IsRefused kind (Ok command) = ⊥
IsRefused kind (Err fault.Usage) = (IsText kind → ⊥) × (kind ≡ OutOfMemory → ⊥)
IsRefused kind (Err fault.Memory) = (kind ≡ OutOfMemory) ⊎ IsText kind
