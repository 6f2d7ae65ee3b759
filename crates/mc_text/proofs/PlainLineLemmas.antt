-- The lines of plain commands, one word after another.
use Rattle.std.proofs.Common.{cond, is_some, Option, Some, None, ℕ, ◌≡◌, ◌≤◌, rules, Bool, true, false, List, [], ◌∷◌, length, refl, sym, ap, subst, arith}
use Rattle.std.specs.Prelude.{⊤, All, IfSome, IfNone, MatchOption}
use Rattle.std.specs.Option.{unwrap_or}
use Rattle.std.proofs.lemmas.Bool.{false≢true}
use Rattle.std.proofs.lemmas.List.Elements.{All-nil, All-cons, All-head, All-tail, All-contains}
use Rattle.mc_text.specs.PlainKeys.{IsPlainKey}
use Rattle.mc_text.specs.Words.{is_key, IsNumber, IsFlags}
use Rattle.mc_text.specs.Commands.{Then}
use Rattle.mc_text.specs.Parsing.{IsFirst, IsNoFirst}
use Rattle.mc_text.specs.PlainWords.{IsKeyWord, IsExptime, IsLast}
use Rattle.mc_text.specs.PlainLines.{IsKeyOf, AreFields, IsTail, IsNoHead, AreKeys, IsOnKey, SayWhole, IsNoWhole, Tells, verb_of}
use Rattle.mc_text.specs.PlainParts.{BeginWithFields, IsNoFields, IsCounted}
use Rattle.mc_text.specs.declared.plain_words.KeyWord.{KeyWord}
use Rattle.mc_text.specs.declared.plain_verb_words.PlainVerb.{PlainVerb}
use Rattle.mc_text.specs.declared.plain_verb_words.PlainVerb.TheVariants as verb
use Rattle.mc_text.specs.declared.plain_commands.PlainCommand.{PlainCommand}
use Rattle.mc_text.specs.declared.plain_lines.PlainSaid.{PlainSaid}
use Rattle.mc_text.specs.declared.plain_lines.PlainSaid.TheVariants as said
use Rattle.mc_text.specs.declared.plain_lines.PlainLine.{PlainLine}
use Rattle.mc_text.specs.declared.plain_lines.PlainLine.TheVariants as line
use Rattle.mc_text.specs.declared.plain_lines.Storing.{Storing}
use Rattle.mc_text.specs.declared.plain_lines.Storing.TheVariants as storing
use Rattle.mc_text.specs.declared.plain_lines.Fields.{Fields}
use Rattle.mc_text.specs.declared.plain_lines.Counted.{Counted}
use Rattle.mc_text.proofs.FirstLemmas.{no_then, behind_first}

-- what stands behind may be said with less
then_less : (Is : List ℕ → Type 0) (AreMore AreLess : List (List ℕ) → Type 0) → ((words : List (List ℕ)) → AreMore words → AreLess words)
    → (words : List (List ℕ)) → Then Is AreMore words → Then Is AreLess words
then_less Is AreMore AreLess less [] h = h
then_less Is AreMore AreLess less (word ∷ words) h = (h.0, less words h.1)

pub fields_alone : (fields : Fields) (AreOthers : List (List ℕ) → Type 0) (words : List (List ℕ)) → AreFields fields AreOthers words
    → AreFields fields (λ rest. ⊤) words
fields_alone fields AreOthers words h =
    then_less _ _ _ (then_less _ _ _ (then_less _ _ _ (then_less _ _ _ (λ rest others. tt)))) words h

-- words that begin with these fields
pub fields_then : (words rest : List (List ℕ)) (fields : Fields) (AreOthers : List (List ℕ) → Type 0) → BeginWithFields words fields rest → AreOthers rest
    → AreFields fields AreOthers words
fields_then words rest fields AreOthers h others = rw h.words_are (h.is_key, (h.is_flags, (h.is_exptime, (h.is_bytes, others))))

pub fields_behind : (words rest : List (List ℕ)) (fields other : Fields) (AreOthers : List (List ℕ) → Type 0) → BeginWithFields words fields rest
    → AreFields other AreOthers words → AreOthers rest
fields_behind words rest fields other AreOthers h others = (rw h.words_are at others).1.1.1.1

-- the key of a line
pub key_in : (fields : Fields) (AreOthers : List (List ℕ) → Type 0) (words : List (List ℕ)) → AreFields fields AreOthers words
    → IsKeyWord fields.key.word.now fields.key.is_plain
key_in fields AreOthers [] h = absurd h
key_in fields AreOthers (word ∷ words) h = h.0.1

-- no such fields, where one of the words isn't what it should be
pub no_key : (words : List (List ℕ)) → IsNoFirst IsKeyWord words → IsNoFields words
no_key [] none fields h = h
no_key (word ∷ words) none fields h = none fields.key.is_plain word words refl (rw h.0.0 at h.0.1)

pub no_flags : (words rest : List (List ℕ)) (key : List ℕ) → words ≡ key ∷ rest → IsNoFirst IsFlags rest → IsNoFields words
no_flags words rest key e none fields h = no_then IsFlags _ rest none fields.flags (behind_first _ _ e h)

pub no_exptime : (words behind rest : List (List ℕ)) (key flags : List ℕ) → words ≡ key ∷ behind → behind ≡ flags ∷ rest → IsNoFirst IsExptime rest → IsNoFields words
no_exptime words behind rest key flags e f none fields h = no_then IsExptime _ rest none fields.expires (behind_first _ _ f (behind_first _ _ e h))

pub no_bytes : (words behind more rest : List (List ℕ)) (key flags exptime : List ℕ) → words ≡ key ∷ behind → behind ≡ flags ∷ more → more ≡ exptime ∷ rest
    → IsNoFirst IsNumber rest → IsNoFields words
no_bytes words behind more rest key flags exptime e f g none fields h =
    no_then IsNumber _ rest none fields.bytes (behind_first _ _ g (behind_first _ _ f (behind_first _ _ e h)))

-- the four fields, one behind the other
pub begin_with : (words one two three rest : List (List ℕ)) (fields : Fields) → words ≡ fields.key.word.now ∷ one
    → IsKeyWord fields.key.word.now fields.key.is_plain → IsFirst IsFlags one fields.flags two → IsFirst IsExptime two fields.expires three
    → IsFirst IsNumber three fields.bytes rest → BeginWithFields words fields rest
begin_with words one two three rest fields e key f x b = record {
  key = fields.key.word.now;
  flags = f.word;
  exptime = x.word;
  bytes = b.word;
  words_are = rw (e, f.words_are, x.words_are, b.words_are) refl;
  is_key = (refl, key);
  is_flags = f.is;
  is_exptime = x.is;
  is_bytes = b.is;
}

-- no line of one of the four verbs
no_head : (how : Storing) (words : List (List ℕ)) → ((fields : Fields) (noreply : Bool) → AreFields fields (IsTail how noreply) words → ⊥)
    → ((other : Storing) → verb_of how ≡ verb_of other → other ≡ how) → IsNoHead (verb_of how) words
no_head how words none alone head h =
    none head.fields head.noreply (subst (λ (s : Storing). AreFields head.fields (IsTail s head.noreply) words) (alone head.storing h.0) h.1)

pub no_set : (words : List (List ℕ)) → ((fields : Fields) (noreply : Bool) → AreFields fields (λ rest. IsLast rest noreply) words → ⊥) → IsNoHead verb.Set words
no_set words none = no_head storing.Set words none by
  where
    by : (other : Storing) → verb.Set ≡ verb_of other → other ≡ storing.Set
    by storing.Set e = refl
    by storing.Add e = absurd (search rules)
    by storing.Replace e = absurd (search rules)
    by (storing.Cas unique) e = absurd (search rules)

pub no_add : (words : List (List ℕ)) → ((fields : Fields) (noreply : Bool) → AreFields fields (λ rest. IsLast rest noreply) words → ⊥) → IsNoHead verb.Add words
no_add words none = no_head storing.Add words none by
  where
    by : (other : Storing) → verb.Add ≡ verb_of other → other ≡ storing.Add
    by storing.Set e = absurd (search rules)
    by storing.Add e = refl
    by storing.Replace e = absurd (search rules)
    by (storing.Cas unique) e = absurd (search rules)

pub no_replace : (words : List (List ℕ)) → ((fields : Fields) (noreply : Bool) → AreFields fields (λ rest. IsLast rest noreply) words → ⊥) → IsNoHead verb.Replace words
no_replace words none = no_head storing.Replace words none by
  where
    by : (other : Storing) → verb.Replace ≡ verb_of other → other ≡ storing.Replace
    by storing.Set e = absurd (search rules)
    by storing.Add e = absurd (search rules)
    by storing.Replace e = refl
    by (storing.Cas unique) e = absurd (search rules)

pub no_cas_fields : (words : List (List ℕ)) → IsNoFields words → IsNoHead verb.Cas words
no_cas_fields words none head h = none head.fields (fields_alone head.fields _ words h.1)

pub no_cas : (words rest : List (List ℕ)) (fields : Fields) → BeginWithFields words fields rest
    → ((unique : ℕ) (noreply : Bool) → Then (λ word. IsNumber word unique) (λ more. IsLast more noreply) rest → ⊥) → IsNoHead verb.Cas words
no_cas words rest fields begin none head h = by head.storing h.0 (fields_behind words rest fields head.fields _ begin h.1)
  where
    by : (other : Storing) → verb.Cas ≡ verb_of other → IsTail other head.noreply rest → ⊥
    by storing.Set e tail = search rules
    by storing.Add e tail = search rules
    by storing.Replace e tail = search rules
    by (storing.Cas unique) e tail = none unique head.noreply tail

-- a key, and then others
pub no_key_then : (words : List (List ℕ)) (AreOthers : List (List ℕ) → Type 0) → IsNoFirst IsKeyWord words → (key : KeyWord)
    → Then (λ word. IsKeyOf word key) AreOthers words → ⊥
no_key_then [] AreOthers none key h = h
no_key_then (word ∷ words) AreOthers none key h = none key.is_plain word words refl (rw h.0.0 at h.0.1)

pub key_then : (words : List (List ℕ)) (AreOthers : List (List ℕ) → Type 0) (key : KeyWord) → Then (λ word. IsKeyOf word key) AreOthers words
    → IsKeyWord key.word.now key.is_plain
key_then [] AreOthers key h = absurd h
key_then (word ∷ words) AreOthers key h = h.0.1

-- what is said of a key
pub on_plain : (make : List ℕ → PlainCommand) (is_plain : Bool) (word key : List ℕ) → Some key ≡ cond is_plain (Some word) None
    → said.Asks (make key) ≡ cond is_plain (said.Asks (make word)) said.QueryKey
on_plain make true word key e = ap (λ (found : Option (List ℕ)). said.Asks (make (unwrap_or found key))) e
on_plain make false word key e = absurd (false≢true (sym (ap is_some e)))

pub on_query : (make : List ℕ → PlainCommand) (is_plain : Bool) (word : List ℕ) → None ≡ cond is_plain (Some word) None
    → said.QueryKey ≡ cond is_plain (said.Asks (make word)) said.QueryKey
on_query make true word e = absurd (false≢true (ap is_some e))
on_query make false word e = refl

-- words that are no keys
plain_forms : (words : List (List ℕ)) → All IsPlainKey words → All (λ word. is_key word ≡ true) words
plain_forms [] all = All-nil (λ (word : List ℕ). is_key word ≡ true)
plain_forms (word ∷ words) all =
    All-cons (λ (other : List ℕ). is_key other ≡ true) word words (All-head IsPlainKey word words all).form (plain_forms words (All-tail IsPlainKey word words all))

pub no_keys_said : (make : List (List ℕ) → PlainCommand) (words : List (List ℕ)) → (1 ≤ length words → All (λ word. is_key word ≡ true) words → ⊥)
    → (said : PlainSaid) → AreKeys make words said → ⊥
no_keys_said make words none (said.Asks asked) h = none h.0 (plain_forms words h.1)
no_keys_said make [] none said.QueryKey h = All-contains (λ (word : List ℕ). ⊥) [] h.1.0 (All-nil (λ (word : List ℕ). ⊥)) h.1.1
no_keys_said make (word ∷ words) none said.QueryKey h = none (omega arith) h.0
no_keys_said make words none said.Exptime h = h

-- a key that counts
pub counted_plain : (make : ℕ → List ℕ → PlainCommand) (words : List (List ℕ)) (counted : Counted) (key : List ℕ) → IsCounted words counted
    → Some key ≡ cond counted.key.is_plain (Some counted.key.word.now) None
    → IsOnKey (make counted.by) (Then (λ word. IsNumber word counted.by) (λ rest. IsLast rest counted.noreply)) words (said.Asks (make counted.by key))
counted_plain make words counted key h e =
    record { key = counted.key; words_are = h; said_is = on_plain (make counted.by) counted.key.is_plain counted.key.word.now key e }

pub counted_query : (make : ℕ → List ℕ → PlainCommand) (words : List (List ℕ)) (counted : Counted) → IsCounted words counted
    → None ≡ cond counted.key.is_plain (Some counted.key.word.now) None
    → IsOnKey (make counted.by) (Then (λ word. IsNumber word counted.by) (λ rest. IsLast rest counted.noreply)) words said.QueryKey
counted_query make words counted h e =
    record { key = counted.key; words_are = h; said_is = on_query (make counted.by) counted.key.is_plain counted.key.word.now e }

-- what a line says that is a command alone
pub whole_tells : (verb : PlainVerb) (words : List (List ℕ)) (read : Option (PlainSaid × Bool)) (its_line : PlainLine) → IfSome read (λ it. SayWhole verb words it.0 it.1)
    → IfNone read (IsNoWhole verb words) → MatchOption read (its_line ≡ line.Bad) (λ it. its_line ≡ line.Whole it.0 it.1) → IsNoHead verb words → Tells verb words its_line
whole_tells verb words None line some none is other = rw is (none, other)
whole_tells verb words (Some it) line some none is other = rw is some

pub no_incr_head : (words : List (List ℕ)) → IsNoHead verb.Incr words
no_incr_head words head h = by head.storing h.0
  where
    by : (other : Storing) → verb.Incr ≡ verb_of other → ⊥
    by storing.Set e = search rules
    by storing.Add e = search rules
    by storing.Replace e = search rules
    by (storing.Cas unique) e = search rules

pub no_decr_head : (words : List (List ℕ)) → IsNoHead verb.Decr words
no_decr_head words head h = by head.storing h.0
  where
    by : (other : Storing) → verb.Decr ≡ verb_of other → ⊥
    by storing.Set e = search rules
    by storing.Add e = search rules
    by storing.Replace e = search rules
    by (storing.Cas unique) e = search rules
