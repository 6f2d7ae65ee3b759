-- One item stands first in a stream.
use Rattle.std.proofs.Common.{ℕ, ◌≡◌, Bool, true, false, cond, List, [], ◌∷◌, refl, sym, ap, subst, ◌∙◌}
use Rattle.std.specs.Prelude.{◌==◌, not, codes}
use Rattle.std.proofs.lemmas.List.Elements.{All-contains}
use Rattle.mc_text.specs.Words.{IsNumber, IsFlags}
use Rattle.mc_text.specs.Commands.{Then}
use Rattle.mc_text.specs.PlainKeys.{IsPlainKey}
use Rattle.mc_text.specs.PlainWords.{IsQueryKey, IsKeyWord, unsigned, IsExptime, IsLast}
use Rattle.mc_text.specs.PlainLines.{stored, said_with, on_key, IsKeyOf, IsTail, verb_of, IsHead, AreKeys, IsOnKey, SayWhole}
use Rattle.mc_text.specs.declared.plain_commands.PlainCommand.{PlainCommand}
use Rattle.mc_text.specs.declared.plain_commands.PlainCommand.TheVariants as command
use Rattle.mc_text.specs.declared.plain_lines.Storing.{Storing}
use Rattle.mc_text.specs.declared.plain_lines.Storing.TheVariants as storing
use Rattle.mc_text.specs.declared.plain_lines.PlainHead.{PlainHead}
use Rattle.mc_text.specs.declared.plain_lines.PlainSaid.{PlainSaid}
use Rattle.mc_text.specs.declared.plain_lines.PlainSaid.TheVariants as said
use Rattle.mc_text.specs.declared.plain_words.KeyWord.{KeyWord}
use Rattle.mc_text.specs.declared.plain_verb_words.PlainVerb.{PlainVerb}
use Rattle.mc_text.specs.declared.plain_verb_words.PlainVerb.TheVariants as verb

-- a word is a plain key or one of the cache
plain_not_query : (word : List ℕ) → IsPlainKey word → IsQueryKey word → ⊥
plain_not_query word h k = h.names k.key k.served

kind_once : (word : List ℕ) (m n : Bool) → IsKeyWord word m → IsKeyWord word n → m ≡ n
kind_once word true true h k = refl
kind_once word true false h k = absurd (plain_not_query word h k)
kind_once word false true h k = absurd (plain_not_query word k h)
kind_once word false false h k = refl

number_once : (word : List ℕ) (m n : ℕ) → IsNumber word m → IsNumber word n → m ≡ n
number_once word m n h k = h.value ∙ sym k.value

flags_once : (word : List ℕ) (m n : ℕ) → IsFlags word m → IsFlags word n → m ≡ n
flags_once word m n h k = h.value ∙ sym k.value

expires_once : (word : List ℕ) (m n : Bool) → IsExptime word m → IsExptime word n → m ≡ n
expires_once word m n h k =
    h.expires_is
    ∙ (ap (λ (x : ℕ). not (x == 0)) (number_once (unsigned word) h.number k.number h.is k.is) ∙ sym k.expires_is)

last_once : (words : List (List ℕ)) (m n : Bool) → IsLast words m → IsLast words n → m ≡ n
last_once words true true h k = refl
last_once words true false h k = let no : codes "noreply" ∷ [] ≡ [] = sym h ∙ k in absurd cc
last_once words false true h k = let no : codes "noreply" ∷ [] ≡ [] = sym k ∙ h in absurd cc
last_once words false false h k = refl

-- what keys say
keys_once : (make : List (List ℕ) → PlainCommand) (words : List (List ℕ)) (a b : PlainSaid) → AreKeys make words a → AreKeys make words b → a ≡ b
keys_once make words (said.Asks x) (said.Asks y) h k = ap (λ (c : PlainCommand). said.Asks c) (h.2 ∙ sym k.2)
keys_once make words (said.Asks x) said.QueryKey h k = absurd (plain_not_query k.1.0 (All-contains IsPlainKey words k.1.0 h.1 k.1.1) k.1.2)
keys_once make words said.QueryKey (said.Asks y) h k = absurd (plain_not_query h.1.0 (All-contains IsPlainKey words h.1.0 k.1 h.1.1) h.1.2)
keys_once make words said.QueryKey said.QueryKey h k = refl
keys_once make words said.Exptime b h k = absurd h
keys_once make words a said.Exptime h k = absurd k

-- what one key says
on_key_once : (word : List ℕ) (x y : KeyWord) (make : List ℕ → PlainCommand) → IsKeyOf word x → IsKeyOf word y → on_key x make ≡ on_key y make
on_key_once word x y make h k =
    let same : x.word.now ≡ y.word.now = h.0 ∙ sym k.0 in
    let kind : x.is_plain ≡ y.is_plain =
    kind_once y.word.now x.is_plain y.is_plain (subst (λ (w : List ℕ). IsKeyWord w x.is_plain) same h.1) k.1 in
    ap (λ (w : List ℕ). cond x.is_plain (said.Asks (make w)) said.QueryKey) same
    ∙ ap (λ (p : Bool). cond p (said.Asks (make y.word.now)) said.QueryKey) kind

on_once : (make : List ℕ → PlainCommand) (AreOthers AreMore : List (List ℕ) → Type 0) (words : List (List ℕ)) (a b : PlainSaid)
    → IsOnKey make AreOthers words a → IsOnKey make AreMore words b → a ≡ b
on_once make AreOthers AreMore [] a b h k = absurd h.words_are
on_once make AreOthers AreMore (word ∷ words) a b h k =
    h.said_is ∙ (on_key_once word h.key k.key make h.words_are.0 k.words_are.0 ∙ sym k.said_is)

last_behind : (make : List ℕ → PlainCommand) (words : List (List ℕ)) (a b : PlainSaid) (m n : Bool)
    → IsOnKey make (λ rest. IsLast rest m) words a → IsOnKey make (λ rest. IsLast rest n) words b → m ≡ n
last_behind make [] a b m n h k = absurd h.words_are
last_behind make (word ∷ words) a b m n h k = last_once words m n h.words_are.1 k.words_are.1

counted_once : (make : ℕ → List ℕ → PlainCommand) (words : List (List ℕ)) (a b : PlainSaid) (m n : Bool) (x y : ℕ)
    → IsOnKey (make x) (Then (λ word. IsNumber word x) (λ rest. IsLast rest m)) words a
    → IsOnKey (make y) (Then (λ word. IsNumber word y) (λ rest. IsLast rest n)) words b → (a ≡ b) × (m ≡ n)
counted_once make [] a b m n x y h k = absurd h.words_are
counted_once make (word ∷ []) a b m n x y h k = absurd h.words_are.1
counted_once make (word ∷ (number ∷ rest)) a b m n x y h k =
    let same = number_once number x y h.words_are.1.0 k.words_are.1.0 in (
      h.said_is
          ∙ (on_key_once word h.key k.key (make x) h.words_are.0 k.words_are.0
          ∙ (ap (λ (by : ℕ). on_key k.key (make by)) same ∙ sym k.said_is)),
      last_once rest m n h.words_are.1.1 k.words_are.1.1,
    )

-- what a line says that is a command alone
pub whole_once : (v : PlainVerb) (words : List (List ℕ)) (a b : PlainSaid) (m n : Bool) → SayWhole v words a m → SayWhole v words b n → (a ≡ b) × (m ≡ n)
whole_once verb.Get words a b m n h k = (keys_once command.Get words a b h.0 k.0, h.1 ∙ sym k.1)
whole_once verb.Gets words a b m n h k = (keys_once command.Gets words a b h.0 k.0, h.1 ∙ sym k.1)
whole_once verb.Delete words a b m n h k = (
  on_once command.Delete (λ rest. IsLast rest m) (λ rest. IsLast rest n) words a b h k,
  last_behind command.Delete words a b m n h k,
)
whole_once verb.Incr words a b m n h k = counted_once (λ by. λ key. command.Incr key by) words a b m n h.0 k.0 h.1 k.1
whole_once verb.Decr words a b m n h k = counted_once (λ by. λ key. command.Decr key by) words a b m n h.0 k.0 h.1 k.1
whole_once other words a b m n h k = absurd h

-- how the block of a line is stored
storing_once : (s t : Storing) (rest : List (List ℕ)) (m n : Bool) → verb_of s ≡ verb_of t → IsTail s m rest → IsTail t n rest → (s ≡ t) × (m ≡ n)
storing_once storing.Set storing.Set rest m n e h k = (refl, last_once rest m n h k)
storing_once storing.Add storing.Add rest m n e h k = (refl, last_once rest m n h k)
storing_once storing.Replace storing.Replace rest m n e h k = (refl, last_once rest m n h k)
storing_once (storing.Cas x) (storing.Cas y) [] m n e h k = absurd h
storing_once (storing.Cas x) (storing.Cas y) (word ∷ rest) m n e h k =
    (ap (λ (unique : ℕ). storing.Cas unique) (number_once word x y h.0 k.0), last_once rest m n h.1 k.1)
storing_once s t rest m n e h k = absurd cc

-- what a line says that announces a block
pub record SameHead (a b : PlainHead) : Type 0 where
  pub bytes : a.fields.bytes ≡ b.fields.bytes
  pub noreply : a.noreply ≡ b.noreply
  pub said : (block : List ℕ) → said_with a block ≡ said_with b block

abbrev said_by : Bool → Bool → Storing → List ℕ → ℕ → List ℕ → PlainSaid
said_by is_plain expires how key flags block = cond is_plain (cond expires said.Exptime (said.Asks (stored how key flags block))) said.QueryKey

pub head_once : (v : PlainVerb) (words : List (List ℕ)) (a b : PlainHead) → IsHead v words a → IsHead v words b → SameHead a b
head_once v [] a b h k = absurd h.1
head_once v (key ∷ []) a b h k = absurd h.1.1
head_once v (key ∷ (flags ∷ [])) a b h k = absurd h.1.1.1
head_once v (key ∷ (flags ∷ (exptime ∷ []))) a b h k = absurd h.1.1.1.1
head_once v (key ∷ (flags ∷ (exptime ∷ (bytes ∷ rest)))) a b h k =
    let x = a.fields in
    let y = b.fields in
    let word : x.key.word.now ≡ y.key.word.now = h.1.0.0 ∙ sym k.1.0.0 in
    let kind = kind_once y.key.word.now x.key.is_plain y.key.is_plain (subst (λ (w : List ℕ). IsKeyWord w x.key.is_plain) word h.1.0.1) k.1.0.1 in
    let flag = flags_once flags x.flags y.flags h.1.1.0 k.1.1.0 in
    let expires = expires_once exptime x.expires y.expires h.1.1.1.0 k.1.1.1.0 in
    let how = storing_once a.storing b.storing rest a.noreply b.noreply (sym h.0 ∙ k.0) h.1.1.1.1.1 k.1.1.1.1.1 in
    record {
      bytes = number_once bytes x.bytes y.bytes h.1.1.1.1.0 k.1.1.1.1.0;
      noreply = how.1;
      said = λ block.
          ap (λ (p : Bool). said_by p x.expires a.storing x.key.word.now x.flags block) kind
          ∙ (ap (λ (e : Bool). said_by y.key.is_plain e a.storing x.key.word.now x.flags block) expires
          ∙ (ap (λ (s : Storing). said_by y.key.is_plain y.expires s x.key.word.now x.flags block) how.0
          ∙ (ap (λ (w : List ℕ). said_by y.key.is_plain y.expires b.storing w x.flags block) word
          ∙ ap (λ (f : ℕ). said_by y.key.is_plain y.expires b.storing y.key.word.now f block) flag)));
    }
