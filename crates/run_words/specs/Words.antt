-- The words of the commands, as a table has them.
use Rattle.std.specs.Prelude.{ℕ, ◌≡◌, ◌≢◌, ◌≤◌, List, [], ◌∷◌, ◌++◌, length, map, Option, Some, None, IfSome, option_map, slice_get, codes, decimal}
use Rattle.std.specs.Global.{Vec}
use Rattle.std.specs.Str.{IsUtf8}
use Rattle.run_inputs.specs.Parsing.{IsNumberWithin}
use Rattle.run_inputs.specs.declared.loads.WorkSpec.{WorkSpec}
use Rattle.run_inputs.specs.Words.{AreWork}
use Rattle.sql_keeper.specs.declared.keepers.Place.{Place}
use Rattle.sql_keeper.specs.declared.keepers.Place.TheVariants.{Fresh, File}
use Rattle.run_words.specs.declared.words.Conns.{Conns}
use Rattle.run_words.specs.declared.words.Conns.TheVariants.{Number, Forever}
use Rattle.run_words.specs.declared.words.ServeSpec.{ServeSpec}
use Rattle.run_words.specs.declared.words.Words.{Words}
use Rattle.run_words.specs.declared.words.Words.TheVariants.{Replay, Work, Warm, Serve, Page}

-- An address or a path may be written so: UTF-8 text that isn't empty and doesn't begin with a hyphen.
pub record IsPlainText (text : List ℕ) : Type 0 where
  pub utf8 : IsUtf8 text
  pub some : 1 ≤ length text
  pub no_hyphen : slice_get text 0 ≢ Some 45

-- The most connections that are served, where a number of them ends the server.
abbrev pub most_served : Conns → Option ℕ
most_served (Number count) = Some count
most_served Forever = None

-- The word for how many connections are served: a number in decimal, or `forever`.
abbrev pub conns_word : Conns → List ℕ
conns_word (Number count) = decimal count
conns_word Forever = codes "forever"

-- A number of connections is from 1 to 1,000,000.
abbrev pub IsConns : Conns → Type 0
IsConns (Number count) = (1 ≤ count) × (count ≤ 1000000)
IsConns Forever = Unit {0}

-- The word says how many connections are served.
pub record AreConns (word : List ℕ) (conns : Conns) : Type 0 where
  pub written : word ≡ conns_word conns
  pub within : IsConns conns

-- The path of the file of a cache, where there is one.
abbrev pub path_in : Option (Vec ℕ) → Option (List ℕ)
path_in = option_map (λ path. path.items)

-- What `serve` serves is within its ranges. The file of its cache can be named, and a server without an end has none.
pub record IsServe (spec : ServeSpec) : Type 0 where
  pub address : IsPlainText spec.addr.items
  pub conns : IsConns spec.conns
  pub some_workers : 1 ≤ spec.workers
  pub few_workers : spec.workers ≤ 1024
  pub some_shards : 1 ≤ spec.shards
  pub few_shards : spec.shards ≤ 64
  pub some_members : 1 ≤ spec.members
  pub few_members : spec.members ≤ 100000
  pub warm : IfSome (path_in spec.warm) IsPlainText
  pub ends : spec.conns ≡ Forever → spec.warm ≡ None

-- The other numbers of what is served, in the order in which the words have them.
abbrev pub numbers_served : ServeSpec → List ℕ
numbers_served spec = spec.workers ∷ spec.shards ∷ spec.members ∷ []

-- The words, without those that name the file of a cache, are `serve`, the address, how many connections are served, and the
-- other numbers in decimal, and all is within its range.
pub record AreServe (words : List (List ℕ)) (spec : ServeSpec) : Type 0 where
  pub written : words ≡ codes "serve" ∷ spec.addr.items ∷ conns_word spec.conns ∷ map decimal (numbers_served spec)
  pub fits : IsServe spec

-- The four words say how many connections are served, and the other numbers.
pub record AreServeNumbers (conns workers shards members : List ℕ) (spec : ServeSpec) : Type 0 where
  pub conns_are : AreConns conns spec.conns
  pub workers_are : IsNumberWithin workers 1 1024 spec.workers
  pub shards_are : IsNumberWithin shards 1 64 spec.shards
  pub members_are : IsNumberWithin members 1 100000 spec.members

-- The words are `warm`, and behind it what stands behind `work` in the words of this load.
pub record AreWarm (words : List (List ℕ)) (spec : WorkSpec) : Type 0 where
  pub numbers : List (List ℕ)
  pub written : words ≡ codes "warm" ∷ numbers
  pub are_load : AreWork (codes "work" ∷ numbers) spec

-- The words that name a place: none for a fresh one, and for a file `--db` and its path.
abbrev pub place_words : Place → List (List ℕ)
place_words Fresh = []
place_words (File path) = codes "--db" ∷ path ∷ []

-- Words can name the place.
abbrev pub CanBeNamed : Place → Type 0
CanBeNamed Fresh = Unit {0}
CanBeNamed (File path) = IsPlainText path

-- The words that name the file of a cache: none without one, and else `--warm` and its path.
abbrev pub warm_words : Option (List ℕ) → List (List ℕ)
warm_words None = []
warm_words (Some path) = codes "--warm" ∷ path ∷ []

-- The path of the file of a command's cache. Only what is served has one.
abbrev pub warm_path : Words → Option (List ℕ)
warm_path (Replay at) = None
warm_path (Work at spec) = None
warm_path (Warm at spec) = None
warm_path (Serve at spec) = path_in spec.warm
warm_path (Page text) = None

-- The words of a command, with those that name its place and the file of its cache right behind the first.
abbrev pub with_options : Place → Option (List ℕ) → List (List ℕ) → List (List ℕ)
with_options place warm [] = []
with_options place warm (first ∷ others) = first ∷ (place_words place ++ (warm_words warm ++ others))

-- The words, without those that name this place and the file of a cache, are the command's there.
abbrev pub AreCommand : List (List ℕ) → Place → Words → Type 0
AreCommand words place (Replay at) = (at ≡ place) × (words ≡ codes "replay" ∷ [])
AreCommand words place (Work at spec) = (at ≡ place) × AreWork words spec
AreCommand words place (Warm at spec) = (at ≡ place) × AreWarm words spec
AreCommand words place (Serve at spec) = (at ≡ place) × AreServe words spec
AreCommand words place (Page text) = ⊥

-- The words are, word for word, those of the command.
pub record AreWords (words : List (List ℕ)) (command : Words) : Type 0 where
  pub place : Place
  pub named : CanBeNamed place
  pub others : List (List ℕ)
  pub are_command : AreCommand others place command
  pub written : words ≡ with_options place (warm_path command) others
