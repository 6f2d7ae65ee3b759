-- What is read of the words.
use Rattle.std.proofs.Common.{◌≡◌, ◌∙◌, List, [], ◌∷◌, map, Option, Some, None, Result, Ok, Err, inl, inr, refl, sym, ap, subst}
use Rattle.std.specs.Prelude.{◌⊎◌, true, IfOk, IfSome, IfNone, codes, option_map, unwrap_or}
use Rattle.std.specs.Borrow.{Bor}
use Rattle.clap.specs.Words.{App, HasMatchesOf, IsAmong, Row, Text, fault_of, is_simple, is_simple_and_free, matched_of, raw_values, rows_of, subcommand_name_of, subcommand_of, subcommand_rows_of}
use Rattle.clap.specs.declared.error.kind.ErrorKind.{ErrorKind}
use Rattle.clap.specs.declared.error.kind.ErrorKind.TheVariants.{OutOfMemory}
use Rattle.clap.specs.declared.parser.matches.ArgMatches.{ArgMatches}
use Rattle.clap.specs.declared.parser.matches.ArgMatches.TheViews.{out-ArgMatches}
use Rattle.clap.specs.declared.parser.matches.Found.{Found}
use Rattle.clap.specs.Words.{first_value}
use Rattle.clap.proofs.WalkLemmas.{first_value-rows, raw_values-rows}
use Rattle.sql_keeper.specs.declared.keepers.Place.{Place}
use Rattle.run_words.specs.declared.words.Words.{Words}
use Rattle.run_words.specs.declared.words.Words.TheVariants.{Replay, Work, Warm, Serve, Page}
use Rattle.run_words.specs.declared.words.WordsFault.{WordsFault}
use Rattle.run_words.specs.declared.words.WordsFault.TheVariants as fault
use Rattle.run_words.specs.Program.{program}
use Rattle.run_words.specs.Words.{AreCommand, CanBeNamed, warm_path}
use Rattle.run_words.specs.Reading.{line_of, path_of, place_in, place_of, AreGiven, AreSaid, AskForText, IsSaid, IsText, IsRefused}
use Rattle.run_words.proofs.TakenLemmas.{program_simple, program_free}

-- ---- the line of a subcommand

abbrev pub RawValues : Type 0
RawValues = Bor (List (Bor Text))

abbrev pub texts_in : RawValues → List Text
texts_in values = map (λ (value : Bor Text). value.now) values.now

-- values that are read as nothing where there are none
values_or_none : (values : Option RawValues) (none : RawValues) → none.now ≡ [] → texts_in (unwrap_or values none) ≡ unwrap_or (option_map texts_in values) []
values_or_none None none empty = ap (map (λ (value : Bor Text). value.now)) empty
values_or_none (Some values) none empty = refl

-- its name and its rows
named : {B X Y : Type 0} (f : B → X) (g : B → Y) (o : Option B) (x : X) (y : Y) → Some x ≡ option_map f o
    → Some y ≡ option_map (λ (p : X × Y). p.1) (option_map {U = X × Y} (λ b. (f b, g b)) o) → option_map {U = X × Y} (λ b. (f b, g b)) o ≡ Some (x, y)
named f g None x y e h = absurd cc
named f g (Some b) x y e h = cc

-- by its name and the values behind it
pub line_named : (m : ArgMatches) (name : Text) (found : Found) (values : Option RawValues) (none : RawValues) → none.now ≡ []
    → Some name ≡ subcommand_name_of m → Some (rows_of found) ≡ option_map (λ (p : Text × List Row). p.1) (subcommand_rows_of m)
    → option_map texts_in values ≡ option_map raw_values (matched_of found (codes "values"))
    → line_of (subcommand_rows_of m) ≡ name ∷ texts_in (unwrap_or values none)
line_named m name found values none empty name_is rows_are got =
    ap line_of (named _ _ (out-ArgMatches m).subcommand name (rows_of found) name_is rows_are)
    ∙ ap (λ (o : Option (List Text)). name ∷ unwrap_or o []) (sym (raw_values-rows found (codes "values")) ∙ sym got)
    ∙ ap (λ (texts : List Text). name ∷ texts) (sym (values_or_none values none empty))

-- and at the place that `--db` names
pub place_named : (m : ArgMatches) (name : Text) (found : Found) (path : Option (Bor Text))
    → Some name ≡ subcommand_name_of m → Some (rows_of found) ≡ option_map (λ (p : Text × List Row). p.1) (subcommand_rows_of m)
    → option_map (λ (text : Bor Text). text.now) path ≡ first_value found (codes "db")
    → place_of (subcommand_rows_of m) ≡ place_in (option_map (λ (text : Bor Text). text.now) path)
place_named m name found path name_is rows_are got =
    ap place_of (named _ _ (out-ArgMatches m).subcommand name (rows_of found) name_is rows_are)
    ∙ ap place_in (sym (first_value-rows found (codes "db")) ∙ sym got)

-- and with the file of a cache that `--warm` names
pub path_named : (m : ArgMatches) (name : Text) (found : Found) (path : Option (Bor Text))
    → Some name ≡ subcommand_name_of m → Some (rows_of found) ≡ option_map (λ (p : Text × List Row). p.1) (subcommand_rows_of m)
    → option_map (λ (text : Bor Text). text.now) path ≡ first_value found (codes "warm")
    → path_of (subcommand_rows_of m) ≡ option_map (λ (text : Bor Text). text.now) path
path_named m name found path name_is rows_are got =
    ap path_of (named _ _ (out-ArgMatches m).subcommand name (rows_of found) name_is rows_are)
    ∙ sym (first_value-rows found (codes "warm"))
    ∙ sym got

-- ---- what a subcommand and its matches are

-- a place that is named, or none
pub place_is : (o : Option Place) (path place : Place) → o ≡ Some place → IfSome o (λ (p : Place). (p ≡ path) × CanBeNamed p) → (place ≡ path) × CanBeNamed place
place_is o path place is h = subst (λ (o : Option Place). IfSome o (λ (p : Place). (p ≡ path) × CanBeNamed p)) is h

pub no_place : (o : Option Place) (path : Place) → ((place : Place) → o ≡ Some place → ⊥) → IfNone o (CanBeNamed path → ⊥) → CanBeNamed path → ⊥
no_place (Some place) path none h = λ _. none place refl
no_place None path none h = h

pub given_found : {E : Type 0} (given : Option (Text × List Row)) (line : List Text) (place : Place) (warm : Option Text)
    (r : Result (Option Words) E) → line_of given ≡ line → place_of given ≡ place → path_of given ≡ warm → CanBeNamed place
    → IfOk r (λ (found : Option Words). IfSome found (AreCommand line place))
    → IfOk r (λ (found : Option Words). IfSome found (λ (command : Words). warm_path command ≡ warm))
    → IfOk r (λ (found : Option Words). IfSome found (AreGiven given))
given_found given line place warm (Ok (Some command)) line_is at path_is named h path = record {
  named = subst CanBeNamed (sym at) named;
  are_command =
      subst (λ (p : Place). AreCommand (line_of given) p command) (sym at)
      (subst (λ (l : List Text). AreCommand l place command) (sym line_is) h);
  path = path ∙ sym path_is;
}
given_found given line place warm (Ok None) line_is at path_is named h path = tt
given_found given line place warm (Err e) line_is at path_is named h path = tt

pub given_none : {E : Type 0} (given : Option (Text × List Row)) (line : List Text) (place : Place) (warm : Option Text)
    (r : Result (Option Words) E) → line_of given ≡ line → place_of given ≡ place → path_of given ≡ warm
    → IfOk r (λ (found : Option Words). IfNone found ((command : Words) → AreCommand line place command → warm_path command ≡ warm → ⊥))
    → IfOk r (λ (found : Option Words). IfNone found ((command : Words) → AreGiven given command → ⊥))
given_none given line place warm (Ok (Some command)) line_is at path_is h = tt
given_none given line place warm (Ok None) line_is at path_is h = λ command k.
    h command (subst (λ (p : Place). AreCommand line p command) at
    (subst (λ (l : List Text). AreCommand l (place_of given) command) line_is k.are_command))
    (k.path ∙ path_is)
given_none given line place warm (Err e) line_is at path_is h = tt

-- ---- words that `clap` takes

-- it takes them, and finds in them what these matches tell
pub record AreTakenBy (words : List Text) (m : ArgMatches) : Type 0 where
  pub taken : fault_of program words ≡ []
  pub given_is : subcommand_of program words ≡ subcommand_rows_of m

pub taken : (app : App) (words : List Text) (m : ArgMatches) → app ≡ program → HasMatchesOf app words m
    → (is_simple_and_free app ≡ true → fault_of app words ≡ []) → AreTakenBy words m
taken app words m is matches free = record {
  taken = sym (ap (λ (a : App). fault_of a words) is) ∙ free (ap is_simple_and_free is ∙ program_free);
  given_is = sym (ap (λ (a : App). subcommand_of a words) is) ∙ sym (matches (ap is_simple is ∙ program_simple)).1;
}

-- what they are given is said
said_given : (words : List Text) (m : ArgMatches) → AreTakenBy words m → (command : Words) → AreGiven (subcommand_rows_of m) command → AreSaid words command
said_given words m t command h = record {
  taken = t.taken;
  given = subst (λ (given : Option (Text × List Row)). AreGiven given command) (sym t.given_is) h;
}

pub said : (words : List Text) (m : ArgMatches) → AreTakenBy words m → (command : Words) → AreGiven (subcommand_rows_of m) command → IsSaid words command
said words m t (Replay at) h = said_given words m t (Replay at) h
said words m t (Work at spec) h = said_given words m t (Work at spec) h
said words m t (Warm at spec) h = said_given words m t (Warm at spec) h
said words m t (Serve at spec) h = said_given words m t (Serve at spec) h
said words m t (Page text) h = absurd h.are_command

-- and where they are given no command, none is said
pub none_said : (words : List Text) (m : ArgMatches) → AreTakenBy words m → ((command : Words) → AreGiven (subcommand_rows_of m) command → ⊥)
    → (command : Words) → AreSaid words command → ⊥
none_said words m t none command h = none command (subst (λ (given : Option (Text × List Row)). AreGiven given command) t.given_is h.given)

-- ---- words that it doesn't take

abbrev pub Refuses : List Text → ErrorKind → Type 0
Refuses words kind = (kind ≡ OutOfMemory) ⊎ IsAmong kind (fault_of program words)

pub refuses : (app : App) (words : List Text) (kind : ErrorKind) → app ≡ program
    → (is_simple_and_free app ≡ true → (kind ≡ OutOfMemory) ⊎ IsAmong kind (fault_of app words)) → Refuses words kind
refuses app words kind is kinds =
    subst (λ (a : App). (kind ≡ OutOfMemory) ⊎ IsAmong kind (fault_of a words)) is (kinds (ap is_simple_and_free is ∙ program_free))

asks : (words : List Text) (kind : ErrorKind) → Refuses words kind → IsText kind → AskForText words
asks words kind (inl memory) (inl help) = absurd cc
asks words kind (inl memory) (inr version) = absurd cc
asks words kind (inr among) (inl help) = inl (subst (λ (k : ErrorKind). IsAmong k (fault_of program words)) help among)
asks words kind (inr among) (inr version) = inr (subst (λ (k : ErrorKind). IsAmong k (fault_of program words)) version among)

pub text_said : (words : List Text) (kind : ErrorKind) (r : Result Words WordsFault) → Refuses words kind → IsRefused kind r → IfOk r (IsSaid words)
text_said words kind (Ok (Page text)) f h = asks words kind f h
text_said words kind (Ok (Replay at)) f h = absurd h
text_said words kind (Ok (Work at spec)) f h = absurd h
text_said words kind (Ok (Warm at spec)) f h = absurd h
text_said words kind (Ok (Serve at spec)) f h = absurd h
text_said words kind (Err e) f h = tt

not_taken : (words : List Text) (kind : ErrorKind) → Refuses words kind → (kind ≡ OutOfMemory → ⊥) → fault_of program words ≡ [] → ⊥
not_taken words kind (inl memory) other e = other memory
not_taken words kind (inr among) other e = subst (IsAmong kind) e among

pub refused : (words : List Text) (kind : ErrorKind) (r : Result Words WordsFault) → Refuses words kind → IsRefused kind r → r ≡ Err fault.Usage
    → (command : Words) → AreSaid words command → ⊥
refused words kind (Ok command) f h e = absurd cc
refused words kind (Err fault.Memory) f h e = absurd cc
refused words kind (Err fault.Usage) f h e = λ command k. not_taken words kind f h.1 k.taken
