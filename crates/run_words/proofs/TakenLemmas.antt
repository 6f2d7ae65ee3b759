-- What `clap` makes of the words of a command.
use Rattle.std.proofs.Common.{◌==◌, ◌≡◌, ◌∙◌, Bool, true, false, List, [], ◌∷◌, ◌++◌, Option, Some, None, refl, ap, ap₂}
use Rattle.std.specs.Prelude.{codes}
use Rattle.std.specs.List.{fold}
use Rattle.std.specs.Str.{bytes_eq}
use Rattle.clap.specs.Lexer.{long_of, short_of}
use Rattle.clap.specs.Kinds.{Kinds, or_else}
use Rattle.clap.specs.Walk.{Held, Row, Rule, Step, Text, Walk, after_step, finished, idle, next, nothing_held, option, positional, reading_by, settled}
use Rattle.clap.specs.Walk.{subcommand_or_other, value, walk, walk_from, walked}
use Rattle.clap.specs.Simple.{Shape, built, filled, filled_from, help_rule, is_simple, names_of, new_shape, subcommand_of, with_index}
use Rattle.clap.specs.Faults.{check_fault, defaults_fault, fault_of, is_simple_and_free, level_fault, settle_fault, turn_fault, walk_fault}
use Rattle.clap.proofs.OnLiterals.{clap_on_literals}
use Rattle.clap.specs.declared.parser.matches.ValueSource.TheVariants.{CommandLine}
use Rattle.sql_keeper.specs.declared.keepers.Place.{Place}
use Rattle.sql_keeper.specs.declared.keepers.Place.TheVariants.{Fresh, File}
use Rattle.run_words.specs.Program.{program, db_rule, values_rule, warm_rule}
use Rattle.run_words.specs.Words.{place_words, warm_words}
use Rattle.run_words.specs.Reading.{line_of, path_of, place_of}

pub program_simple : is_simple program ≡ true
unfolding clap_on_literals
program_simple = refl

pub program_free : is_simple_and_free program ≡ true
unfolding clap_on_literals
program_free = refl

-- ---- words that begin with no hyphen

-- the word begins with another byte
abbrev pub IsPlainWord : Text → Type 0
IsPlainWord [] = ⊥
IsPlainWord (first ∷ rest) = (first == 45) ≡ false

-- and so does each of these
abbrev pub ArePlain : List Text → Type 0
ArePlain [] = Unit {0}
ArePlain (word ∷ words) = IsPlainWord word × ArePlain words

no_dashes : (word : Text) → IsPlainWord word → bytes_eq word (45 ∷ 45 ∷ []) ≡ false
no_dashes [] p = absurd p
no_dashes (x ∷ rest) p = rw p refl

no_long : (word : Text) → IsPlainWord word → long_of word ≡ None
no_long [] p = absurd p
no_long (x ∷ rest) p = rw p refl

no_short : (word : Text) → IsPlainWord word → short_of word ≡ None
no_short [] p = absurd p
no_short (x ∷ rest) p = rw p refl

-- and so does the path of a file
abbrev pub HasPlainPath : Place → Type 0
HasPlainPath Fresh = Unit {0}
HasPlainPath (File path) = IsPlainWord path

-- and so does the path of the file of a cache, where there is one
abbrev pub IsPlainPath : Option Text → Type 0
IsPlainPath None = Unit {0}
IsPlainPath (Some path) = IsPlainWord path

-- is a value of the positional
first_met : (rules : List Rule) (word : Text) (h : Held) → IsPlainWord word → subcommand_or_other rules None idle 1 word h ≡ (h, value)
first_met rules word h p = rw (no_dashes word p, no_long word p, no_short word p) refl

next_met : (rules : List Rule) (word : Text) (h : Held) → IsPlainWord word → subcommand_or_other rules None positional 1 word h ≡ (h, value)
next_met rules word h p = rw (no_dashes word p, no_long word p, no_short word p) refl

-- ---- the rules of a command that may name a file

-- the option `--db`, filled in, and others behind it
abbrev ruled : List Rule → List Rule
ruled others = with_index 1 (filled db_rule) ∷ others

-- five values and help, or help alone
abbrev valued : List Rule
valued = filled_from 1 (values_rule ∷ help_rule ∷ [])

abbrev bare : List Rule
bare = filled_from 1 (help_rule ∷ [])

-- the option `--warm`, filled in, and five values and help
abbrev served : List Rule
served = with_index 1 (filled warm_rule) ∷ valued

-- five values and help, with that option or without it
abbrev taking : Bool → List Rule
taking false = valued
taking true = served

abbrev leaf : List Rule → Text → Shape
leaf others name = record (new_shape name) { rules = ruled others; no_binary_name = true; disable_help_subcommand = true; is_built = true }

-- ---- the walk over the words of a place

-- a file's path is there
abbrev past_place : Place → Walk
past_place Fresh = walk_from nothing_held
past_place (File path) = record {
  held = record { rows = []; pending = Some (codes "db", path ∷ []); skip = 0 };
  waiting = idle;
  position = 1;
  is_trailing = false;
  stopped = None;
}

-- `--db` alone is there
abbrev waiting : Walk
waiting = record {
  held = record { rows = []; pending = Some (codes "db", []); skip = 0 };
  waiting = option (codes "db");
  position = 1;
  is_trailing = false;
  stopped = None;
}

option_walked : (others : List Rule) → walked (ruled others) [] (walk_from nothing_held) (codes "--db") ≡ waiting
unfolding clap_on_literals
option_walked others = refl

path_met : (others : List Rule) (path : Text) → IsPlainWord path
    → subcommand_or_other (ruled others) None (option (codes "db")) 1 path waiting.held ≡ ((past_place (File path)).held, next idle)
unfolding clap_on_literals
path_met others path p = rw (no_dashes path p, no_long path p, no_short path p) refl

path_walked : (others : List Rule) (path : Text) → IsPlainWord path → walked (ruled others) [] waiting path ≡ past_place (File path)
unfolding clap_on_literals
path_walked others path p = ap (λ (met : Held × Step). after_step (ruled others) path waiting met.0 met.1) (path_met others path p)

option_turn : (others : List Rule) (name : Text) → turn_fault (leaf others name) [] (walk_from nothing_held) (codes "--db") ≡ []
unfolding clap_on_literals
option_turn others name = refl

path_turn : (others : List Rule) (name path : Text) → IsPlainWord path → turn_fault (leaf others name) [] waiting path ≡ []
unfolding clap_on_literals
path_turn others name path p = rw (path_met others path p, no_dashes path p, no_long path p, no_short path p) refl

place_walked : (others : List Rule) (place : Place) → HasPlainPath place → (words : List Text)
    → walk (ruled others) [] nothing_held (place_words place ++ words) ≡ fold (walked (ruled others) []) (past_place place) words
place_walked others Fresh p words = refl
place_walked others (File path) p words =
    ap (λ (w : Walk). fold (walked (ruled others) []) w (path ∷ words)) (option_walked others)
    ∙ ap (λ (w : Walk). fold (walked (ruled others) []) w words) (path_walked others path p)

place_faultless : (others : List Rule) (name : Text) (place : Place) → HasPlainPath place → (words : List Text)
    → walk_fault (leaf others name) [] (walk_from nothing_held) (place_words place ++ words) ≡ walk_fault (leaf others name) [] (past_place place) words
unfolding walk_fault
place_faultless others name Fresh p words = refl
place_faultless others name (File path) p words =
    ap₂ or_else (option_turn others name)
    (ap (λ (w : Walk). walk_fault (leaf others name) [] w (path ∷ words)) (option_walked others)
    ∙ ap₂ or_else (path_turn others name path p)
    (ap (λ (w : Walk). walk_fault (leaf others name) [] w words) (path_walked others path p)))

-- what was found for an option with one value
abbrev row_at : Rule → Text → Row
row_at rule path = record {
  id = rule.id;
  values = path ∷ [];
  count = None;
  source = Some CommandLine;
  reading = reading_by (with_index 1 (filled rule));
}

-- what is found of a place
abbrev found : Place → List Row
found Fresh = []
found (File path) = row_at db_rule path ∷ []

-- ---- the walk over the words of the file of a cache

-- its path is there, behind the words of a place
abbrev past_options : Place → Option Text → Walk
past_options place None = past_place place
past_options place (Some path) = record {
  held = record { rows = found place; pending = Some (codes "warm", path ∷ []); skip = 0 };
  waiting = idle;
  position = 1;
  is_trailing = false;
  stopped = None;
}

-- `--warm` alone is there
abbrev waiting_warm : Place → Walk
waiting_warm place = record {
  held = record { rows = found place; pending = Some (codes "warm", []); skip = 0 };
  waiting = option (codes "warm");
  position = 1;
  is_trailing = false;
  stopped = None;
}

warm_option_walked : (place : Place) → walked (ruled served) [] (past_place place) (codes "--warm") ≡ waiting_warm place
unfolding clap_on_literals
warm_option_walked Fresh = refl
warm_option_walked (File path) = refl

warm_path_met : (place : Place) (path : Text) → IsPlainWord path
    → subcommand_or_other (ruled served) None (option (codes "warm")) 1 path (waiting_warm place).held
    ≡ ((past_options place (Some path)).held, next idle)
unfolding clap_on_literals
warm_path_met place path p = rw (no_dashes path p, no_long path p, no_short path p) refl

warm_path_walked : (place : Place) (path : Text) → IsPlainWord path
    → walked (ruled served) [] (waiting_warm place) path ≡ past_options place (Some path)
unfolding clap_on_literals
warm_path_walked place path p =
    ap (λ (met : Held × Step). after_step (ruled served) path (waiting_warm place) met.0 met.1) (warm_path_met place path p)

warm_option_turn : (place : Place) (name : Text) → turn_fault (leaf served name) [] (past_place place) (codes "--warm") ≡ []
unfolding clap_on_literals
warm_option_turn Fresh name = refl
warm_option_turn (File path) name = refl

warm_path_turn : (place : Place) (name path : Text) → IsPlainWord path → turn_fault (leaf served name) [] (waiting_warm place) path ≡ []
unfolding clap_on_literals
warm_path_turn place name path p = rw (warm_path_met place path p, no_dashes path p, no_long path p, no_short path p) refl

warm_walked : (place : Place) (warm : Option Text) → IsPlainPath warm → (words : List Text)
    → fold (walked (ruled served) []) (past_place place) (warm_words warm ++ words)
    ≡ fold (walked (ruled served) []) (past_options place warm) words
warm_walked place None p words = refl
warm_walked place (Some path) p words =
    ap (λ (w : Walk). fold (walked (ruled served) []) w (path ∷ words)) (warm_option_walked place)
    ∙ ap (λ (w : Walk). fold (walked (ruled served) []) w words) (warm_path_walked place path p)

warm_faultless : (name : Text) (place : Place) (warm : Option Text) → IsPlainPath warm → (words : List Text)
    → walk_fault (leaf served name) [] (past_place place) (warm_words warm ++ words)
    ≡ walk_fault (leaf served name) [] (past_options place warm) words
unfolding walk_fault
warm_faultless name place None p words = refl
warm_faultless name place (Some path) p words =
    ap₂ or_else (warm_option_turn place name)
    (ap (λ (w : Walk). walk_fault (leaf served name) [] w (path ∷ words)) (warm_option_walked place)
    ∙ ap₂ or_else (warm_path_turn place name path p)
    (ap (λ (w : Walk). walk_fault (leaf served name) [] w words) (warm_path_walked place path p)))

-- ---- the walk over five values

-- what was found before them
abbrev found_before : Place → Option Text → List Row
found_before place None = found place
found_before place (Some path) = found place ++ row_at warm_rule path ∷ []

-- so many values are there, behind these rows
abbrev after : List Row → List Text → Walk
after rows values = record {
  held = record { rows = rows; pending = Some (codes "values", values); skip = 0 };
  waiting = positional;
  position = 1;
  is_trailing = false;
  stopped = None;
}

-- the first of them
first_walked : (place : Place) (word : Text) → IsPlainWord word → walked (ruled valued) [] (past_place place) word ≡ after (found place) (word ∷ [])
unfolding clap_on_literals
first_walked Fresh word p =
    ap (λ (met : Held × Step). after_step (ruled valued) word (past_place Fresh) met.0 met.1) (first_met (ruled valued) word (past_place Fresh).held p)
first_walked (File path) word p =
    ap (λ (met : Held × Step). after_step (ruled valued) word (past_place (File path)) met.0 met.1) (first_met (ruled valued) word (past_place (File path)).held p)

first_turn : (name : Text) (place : Place) (word : Text) → IsPlainWord word → turn_fault (leaf valued name) [] (past_place place) word ≡ []
unfolding clap_on_literals
first_turn name Fresh word p = rw (first_met (ruled valued) word (past_place Fresh).held p, no_dashes word p, no_long word p, no_short word p) refl
first_turn name (File path) word p =
    rw (first_met (ruled valued) word (past_place (File path)).held p, no_dashes word p, no_long word p, no_short word p) refl

-- or the first of them of what is served
served_first : (place : Place) (warm : Option Text) (word : Text) → IsPlainWord word
    → walked (ruled served) [] (past_options place warm) word ≡ after (found_before place warm) (word ∷ [])
unfolding clap_on_literals
served_first Fresh None word p =
    let w = past_options Fresh None in
    ap (λ (met : Held × Step). after_step (ruled served) word w met.0 met.1) (first_met (ruled served) word w.held p)
served_first Fresh (Some path) word p =
    let w = past_options Fresh (Some path) in
    ap (λ (met : Held × Step). after_step (ruled served) word w met.0 met.1) (first_met (ruled served) word w.held p)
served_first (File at) None word p =
    let w = past_options (File at) None in
    ap (λ (met : Held × Step). after_step (ruled served) word w met.0 met.1) (first_met (ruled served) word w.held p)
served_first (File at) (Some path) word p =
    let w = past_options (File at) (Some path) in
    ap (λ (met : Held × Step). after_step (ruled served) word w met.0 met.1) (first_met (ruled served) word w.held p)

served_turn : (name : Text) (place : Place) (warm : Option Text) (word : Text) → IsPlainWord word
    → turn_fault (leaf served name) [] (past_options place warm) word ≡ []
unfolding clap_on_literals
served_turn name Fresh None word p =
    rw (first_met (ruled served) word (past_options Fresh None).held p, no_dashes word p, no_long word p, no_short word p) refl
served_turn name Fresh (Some path) word p =
    rw (first_met (ruled served) word (past_options Fresh (Some path)).held p, no_dashes word p, no_long word p, no_short word p) refl
served_turn name (File at) None word p =
    rw (first_met (ruled served) word (past_options (File at) None).held p, no_dashes word p, no_long word p, no_short word p) refl
served_turn name (File at) (Some path) word p =
    rw (first_met (ruled served) word (past_options (File at) (Some path)).held p, no_dashes word p, no_long word p, no_short word p) refl

-- and each of the next
next_walked : (warms : Bool) (rows : List Row) (values : List Text) (word : Text) → IsPlainWord word
    → walked (ruled (taking warms)) [] (after rows values) word ≡ after rows (values ++ word ∷ [])
unfolding clap_on_literals
next_walked false rows values word p =
    ap (λ (met : Held × Step). after_step (ruled valued) word (after rows values) met.0 met.1) (next_met (ruled valued) word (after rows values).held p)
next_walked true rows values word p =
    ap (λ (met : Held × Step). after_step (ruled served) word (after rows values) met.0 met.1) (next_met (ruled served) word (after rows values).held p)

next_turn : (warms : Bool) (name : Text) (rows : List Row) (values : List Text) (word : Text) → IsPlainWord word
    → turn_fault (leaf (taking warms) name) [] (after rows values) word ≡ []
unfolding clap_on_literals
next_turn false name rows values word p =
    rw (next_met (ruled valued) word (after rows values).held p, no_dashes word p, no_long word p, no_short word p) refl
next_turn true name rows values word p =
    rw (next_met (ruled served) word (after rows values).held p, no_dashes word p, no_long word p, no_short word p) refl

abbrev joined : List Text → List Text → List Text
joined values [] = values
joined values (word ∷ words) = joined (values ++ word ∷ []) words

more_walked : (warms : Bool) (rows : List Row) (values words : List Text) → ArePlain words
    → fold (walked (ruled (taking warms)) []) (after rows values) words ≡ after rows (joined values words)
more_walked warms rows values [] p = refl
more_walked warms rows values (word ∷ words) p =
    ap (λ (w : Walk). fold (walked (ruled (taking warms)) []) w words) (next_walked warms rows values word p.0)
    ∙ more_walked warms rows (values ++ word ∷ []) words p.1

more_faultless : (warms : Bool) (name : Text) (rows : List Row) (values words : List Text) → ArePlain words
    → walk_fault (leaf (taking warms) name) [] (after rows values) words ≡ []
unfolding walk_fault
more_faultless warms name rows values [] p = refl
more_faultless warms name rows values (word ∷ words) p =
    ap₂ or_else (next_turn warms name rows values word p.0)
    (ap (λ (w : Walk). walk_fault (leaf (taking warms) name) [] w words) (next_walked warms rows values word p.0)
    ∙ more_faultless warms name rows (values ++ word ∷ []) words p.1)

all_walked : (place : Place) → HasPlainPath place → (word : Text) (words : List Text) → ArePlain (word ∷ words)
    → walk (ruled valued) [] nothing_held (place_words place ++ word ∷ words) ≡ after (found place) (joined (word ∷ []) words)
all_walked place at word words p =
    place_walked valued place at (word ∷ words)
    ∙ ap (λ (w : Walk). fold (walked (ruled valued) []) w words) (first_walked place word p.0)
    ∙ more_walked false (found place) (word ∷ []) words p.1

all_faultless : (name : Text) (place : Place) → HasPlainPath place → (word : Text) (words : List Text) → ArePlain (word ∷ words)
    → walk_fault (leaf valued name) [] (walk_from nothing_held) (place_words place ++ word ∷ words) ≡ []
unfolding walk_fault
all_faultless name place at word words p =
    place_faultless valued name place at (word ∷ words)
    ∙ ap₂ or_else (first_turn name place word p.0)
    (ap (λ (w : Walk). walk_fault (leaf valued name) [] w words) (first_walked place word p.0)
    ∙ more_faultless false name (found place) (word ∷ []) words p.1)

served_walked : (place : Place) → HasPlainPath place → (warm : Option Text) → IsPlainPath warm
    → (word : Text) (words : List Text) → ArePlain (word ∷ words)
    → walk (ruled served) [] nothing_held (place_words place ++ (warm_words warm ++ word ∷ words))
    ≡ after (found_before place warm) (joined (word ∷ []) words)
served_walked place at warm path word words p =
    place_walked served place at (warm_words warm ++ word ∷ words)
    ∙ warm_walked place warm path (word ∷ words)
    ∙ ap (λ (w : Walk). fold (walked (ruled served) []) w words) (served_first place warm word p.0)
    ∙ more_walked true (found_before place warm) (word ∷ []) words p.1

served_faultless : (name : Text) (place : Place) → HasPlainPath place → (warm : Option Text) → IsPlainPath warm
    → (word : Text) (words : List Text) → ArePlain (word ∷ words)
    → walk_fault (leaf served name) [] (walk_from nothing_held) (place_words place ++ (warm_words warm ++ word ∷ words)) ≡ []
unfolding walk_fault
served_faultless name place at warm path word words p =
    place_faultless served name place at (warm_words warm ++ word ∷ words)
    ∙ warm_faultless name place warm path (word ∷ words)
    ∙ ap₂ or_else (served_turn name place warm word p.0)
    (ap (λ (w : Walk). walk_fault (leaf served name) [] w words) (served_first place warm word p.0)
    ∙ more_faultless true name (found_before place warm) (word ∷ []) words p.1)

-- ---- five values

-- what is checked at the end
abbrev ended : List Rule → Text → Kinds → Walk → Kinds
ended others name faults w =
    or_else faults
    (or_else [] (or_else (settle_fault (ruled others) false w.held)
    (or_else (defaults_fault (settled (ruled others) w.held).rows (ruled others))
    (check_fault (leaf others name) (finished (ruled others) w.held) false))))

leaf_faultless : (name : Text) (place : Place) → HasPlainPath place → (a b c d e : Text) → ArePlain (a ∷ b ∷ c ∷ d ∷ e ∷ [])
    → level_fault (leaf valued name) [] nothing_held (place_words place ++ a ∷ b ∷ c ∷ d ∷ e ∷ []) false [] ≡ []
unfolding clap_on_literals
leaf_faultless name Fresh at a b c d e p =
    ap₂ (ended valued name) (all_faultless name Fresh at a (b ∷ c ∷ d ∷ e ∷ []) p) (all_walked Fresh at a (b ∷ c ∷ d ∷ e ∷ []) p)
leaf_faultless name (File path) at a b c d e p =
    ap₂ (ended valued name) (all_faultless name (File path) at a (b ∷ c ∷ d ∷ e ∷ []) p) (all_walked (File path) at a (b ∷ c ∷ d ∷ e ∷ []) p)

-- so is what is served
served_leaf_faultless : (name : Text) (place : Place) → HasPlainPath place → (warm : Option Text) → IsPlainPath warm
    → (a b c d e : Text) → ArePlain (a ∷ b ∷ c ∷ d ∷ e ∷ [])
    → level_fault (leaf served name) [] nothing_held (place_words place ++ (warm_words warm ++ a ∷ b ∷ c ∷ d ∷ e ∷ [])) false [] ≡ []
unfolding clap_on_literals
served_leaf_faultless name Fresh at None path a b c d e p =
    ap₂ (ended served name) (served_faultless name Fresh at None path a (b ∷ c ∷ d ∷ e ∷ []) p)
    (served_walked Fresh at None path a (b ∷ c ∷ d ∷ e ∷ []) p)
served_leaf_faultless name Fresh at (Some file) path a b c d e p =
    ap₂ (ended served name) (served_faultless name Fresh at (Some file) path a (b ∷ c ∷ d ∷ e ∷ []) p)
    (served_walked Fresh at (Some file) path a (b ∷ c ∷ d ∷ e ∷ []) p)
served_leaf_faultless name (File db) at None path a b c d e p =
    ap₂ (ended served name) (served_faultless name (File db) at None path a (b ∷ c ∷ d ∷ e ∷ []) p)
    (served_walked (File db) at None path a (b ∷ c ∷ d ∷ e ∷ []) p)
served_leaf_faultless name (File db) at (Some file) path a b c d e p =
    ap₂ (ended served name) (served_faultless name (File db) at (Some file) path a (b ∷ c ∷ d ∷ e ∷ []) p)
    (served_walked (File db) at (Some file) path a (b ∷ c ∷ d ∷ e ∷ []) p)

-- what is given is this line, at this place, with this file of a cache
pub record IsGiven (line : List Text) (place : Place) (warm : Option Text) (given : Option (Text × List Row)) : Type 0 where
  pub line_is : line_of given ≡ line
  pub place_is : place_of given ≡ place
  pub path_is : path_of given ≡ warm

-- the subcommand of this name, with what it is given
abbrev given_by : List Rule → Text → Walk → Option (Text × List Row)
given_by others name w = Some (name, finished (ruled others) w.held)

leaf_given : (name : Text) (place : Place) → HasPlainPath place → (a b c d e : Text) → ArePlain (a ∷ b ∷ c ∷ d ∷ e ∷ [])
    → IsGiven (name ∷ a ∷ b ∷ c ∷ d ∷ e ∷ []) place None
    (given_by valued name (walk (ruled valued) [] nothing_held (place_words place ++ a ∷ b ∷ c ∷ d ∷ e ∷ [])))
unfolding clap_on_literals
leaf_given name Fresh at a b c d e p =
    let is = all_walked Fresh at a (b ∷ c ∷ d ∷ e ∷ []) p in
    record {
      line_is = ap (λ (w : Walk). line_of (given_by valued name w)) is;
      place_is = ap (λ (w : Walk). place_of (given_by valued name w)) is;
      path_is = ap (λ (w : Walk). path_of (given_by valued name w)) is;
    }
leaf_given name (File path) at a b c d e p =
    let is = all_walked (File path) at a (b ∷ c ∷ d ∷ e ∷ []) p in
    record {
      line_is = ap (λ (w : Walk). line_of (given_by valued name w)) is;
      place_is = ap (λ (w : Walk). place_of (given_by valued name w)) is;
      path_is = ap (λ (w : Walk). path_of (given_by valued name w)) is;
    }

served_given : (name : Text) (place : Place) → HasPlainPath place → (warm : Option Text) → IsPlainPath warm
    → (a b c d e : Text) → ArePlain (a ∷ b ∷ c ∷ d ∷ e ∷ [])
    → IsGiven (name ∷ a ∷ b ∷ c ∷ d ∷ e ∷ []) place warm
    (given_by served name (walk (ruled served) [] nothing_held (place_words place ++ (warm_words warm ++ a ∷ b ∷ c ∷ d ∷ e ∷ []))))
unfolding clap_on_literals
served_given name Fresh at None path a b c d e p =
    let is = served_walked Fresh at None path a (b ∷ c ∷ d ∷ e ∷ []) p in
    record {
      line_is = ap (λ (w : Walk). line_of (given_by served name w)) is;
      place_is = ap (λ (w : Walk). place_of (given_by served name w)) is;
      path_is = ap (λ (w : Walk). path_of (given_by served name w)) is;
    }
served_given name Fresh at (Some file) path a b c d e p =
    let is = served_walked Fresh at (Some file) path a (b ∷ c ∷ d ∷ e ∷ []) p in
    record {
      line_is = ap (λ (w : Walk). line_of (given_by served name w)) is;
      place_is = ap (λ (w : Walk). place_of (given_by served name w)) is;
      path_is = ap (λ (w : Walk). path_of (given_by served name w)) is;
    }
served_given name (File db) at None path a b c d e p =
    let is = served_walked (File db) at None path a (b ∷ c ∷ d ∷ e ∷ []) p in
    record {
      line_is = ap (λ (w : Walk). line_of (given_by served name w)) is;
      place_is = ap (λ (w : Walk). place_of (given_by served name w)) is;
      path_is = ap (λ (w : Walk). path_of (given_by served name w)) is;
    }
served_given name (File db) at (Some file) path a b c d e p =
    let is = served_walked (File db) at (Some file) path a (b ∷ c ∷ d ∷ e ∷ []) p in
    record {
      line_is = ap (λ (w : Walk). line_of (given_by served name w)) is;
      place_is = ap (λ (w : Walk). place_of (given_by served name w)) is;
      path_is = ap (λ (w : Walk). path_of (given_by served name w)) is;
    }

-- ---- the words of a command, with those of its options behind the first

-- `clap` takes the words, and reads them as this line at this place, with this file of a cache
pub record AreTakenAs (words line : List Text) (place : Place) (warm : Option Text) : Type 0 where
  pub taken : fault_of program words ≡ []
  pub given : IsGiven line place warm (subcommand_of program words)

-- what the program makes of a first word and the fault behind it
abbrev above : List Text → Kinds → Kinds
above words below = level_fault (built program).top (names_of (built program)) nothing_held words true below

abbrev TakesFive : Text → Place → Option Text → Text → Text → Text → Text → Text → Type 0
TakesFive name place warm a b c d e =
    AreTakenAs (name ∷ (place_words place ++ (warm_words warm ++ a ∷ b ∷ c ∷ d ∷ e ∷ []))) (name ∷ a ∷ b ∷ c ∷ d ∷ e ∷ []) place warm

pub work_taken : (place : Place) → HasPlainPath place → (a b c d e : Text) → ArePlain (a ∷ b ∷ c ∷ d ∷ e ∷ [])
    → TakesFive (codes "work") place None a b c d e
unfolding clap_on_literals
work_taken Fresh at a b c d e p = record {
  taken = ap (above (codes "work" ∷ a ∷ b ∷ c ∷ d ∷ e ∷ [])) (leaf_faultless (codes "work") Fresh at a b c d e p);
  given = leaf_given (codes "work") Fresh at a b c d e p;
}
work_taken (File path) at a b c d e p = record {
  taken = ap (above (codes "work" ∷ codes "--db" ∷ path ∷ a ∷ b ∷ c ∷ d ∷ e ∷ [])) (leaf_faultless (codes "work") (File path) at a b c d e p);
  given = leaf_given (codes "work") (File path) at a b c d e p;
}

pub warm_taken : (place : Place) → HasPlainPath place → (a b c d e : Text) → ArePlain (a ∷ b ∷ c ∷ d ∷ e ∷ [])
    → TakesFive (codes "warm") place None a b c d e
unfolding clap_on_literals
warm_taken Fresh at a b c d e p = record {
  taken = ap (above (codes "warm" ∷ a ∷ b ∷ c ∷ d ∷ e ∷ [])) (leaf_faultless (codes "warm") Fresh at a b c d e p);
  given = leaf_given (codes "warm") Fresh at a b c d e p;
}
warm_taken (File path) at a b c d e p = record {
  taken = ap (above (codes "warm" ∷ codes "--db" ∷ path ∷ a ∷ b ∷ c ∷ d ∷ e ∷ [])) (leaf_faultless (codes "warm") (File path) at a b c d e p);
  given = leaf_given (codes "warm") (File path) at a b c d e p;
}

pub serve_taken : (place : Place) → HasPlainPath place → (warm : Option Text) → IsPlainPath warm
    → (a b c d e : Text) → ArePlain (a ∷ b ∷ c ∷ d ∷ e ∷ []) → TakesFive (codes "serve") place warm a b c d e
unfolding clap_on_literals
serve_taken Fresh at None path a b c d e p = record {
  taken = ap (above (codes "serve" ∷ a ∷ b ∷ c ∷ d ∷ e ∷ []))
      (served_leaf_faultless (codes "serve") Fresh at None path a b c d e p);
  given = served_given (codes "serve") Fresh at None path a b c d e p;
}
serve_taken Fresh at (Some file) path a b c d e p = record {
  taken = ap (above (codes "serve" ∷ codes "--warm" ∷ file ∷ a ∷ b ∷ c ∷ d ∷ e ∷ []))
      (served_leaf_faultless (codes "serve") Fresh at (Some file) path a b c d e p);
  given = served_given (codes "serve") Fresh at (Some file) path a b c d e p;
}
serve_taken (File db) at None path a b c d e p = record {
  taken = ap (above (codes "serve" ∷ codes "--db" ∷ db ∷ a ∷ b ∷ c ∷ d ∷ e ∷ []))
      (served_leaf_faultless (codes "serve") (File db) at None path a b c d e p);
  given = served_given (codes "serve") (File db) at None path a b c d e p;
}
serve_taken (File db) at (Some file) path a b c d e p = record {
  taken = ap (above (codes "serve" ∷ codes "--db" ∷ db ∷ codes "--warm" ∷ file ∷ a ∷ b ∷ c ∷ d ∷ e ∷ []))
      (served_leaf_faultless (codes "serve") (File db) at (Some file) path a b c d e p);
  given = served_given (codes "serve") (File db) at (Some file) path a b c d e p;
}

-- ---- no values

-- what is read of the words of the place alone
bare_walked : (place : Place) → HasPlainPath place → walk (ruled bare) [] nothing_held (place_words place ++ []) ≡ past_place place
bare_walked place at = place_walked bare place at []

bare_faultless : (name : Text) (place : Place) → HasPlainPath place → walk_fault (leaf bare name) [] (walk_from nothing_held) (place_words place ++ []) ≡ []
unfolding walk_fault
bare_faultless name place at = place_faultless bare name place at []

abbrev bare_given : Walk → Option (Text × List Row)
bare_given w = Some (codes "replay", finished (ruled bare) w.held)

pub replay_taken : (place : Place) → HasPlainPath place
    → AreTakenAs (codes "replay" ∷ (place_words place ++ [])) (codes "replay" ∷ []) place None
unfolding clap_on_literals
replay_taken Fresh at = record { taken = refl; given = record { line_is = refl; place_is = refl; path_is = refl } }
replay_taken (File path) at = record {
  taken = ap (above (codes "replay" ∷ codes "--db" ∷ path ∷ []))
      (ap₂ (ended bare (codes "replay")) (bare_faultless (codes "replay") (File path) at) (bare_walked (File path) at));
  given = record {
    line_is = ap (λ (w : Walk). line_of (bare_given w)) (bare_walked (File path) at);
    place_is = ap (λ (w : Walk). place_of (bare_given w)) (bare_walked (File path) at);
    path_is = ap (λ (w : Walk). path_of (bare_given w)) (bare_walked (File path) at);
  };
}
