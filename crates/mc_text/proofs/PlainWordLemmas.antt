-- Words that are keys, and those that aren't.
use Rattle.std.proofs.Common.{ℕ, ◌≡◌, Bool, true, false, List, [], ◌∷◌, ◌++◌, Option, Some, None, refl, sym, ap, ◌∙◌, append_assoc, append-nil}
use Rattle.std.specs.Prelude.{All, Contains}
use Rattle.std.proofs.lemmas.List.Elements.{All-nil, All-cons, All-append, All-head, All-contains, All-contains_itself, Contains-append_left, Contains-append_right}
use Rattle.rows_model.specs.declared.keys.QKey.{QKey}
use Rattle.mc_text.specs.Words.{is_key, IsKey}
use Rattle.mc_text.specs.PlainKeys.{IsPlainKey}
use Rattle.mc_text.specs.PlainWords.{IsQueryKey, IsKeyWord}

pub no_key_word : (word : List ℕ) → ((key : Option QKey) → IsKey word key → ⊥) → (is_plain : Bool) → IsKeyWord word is_plain → ⊥
no_key_word word none true h = none None h
no_key_word word none false h = none (Some h.key) (record { form = h.form; names = h.served })

-- a word that is neither a plain key nor one of the cache may not be a key
pub no_key_form : (word : List ℕ) → ((is_plain : Bool) → IsKeyWord word is_plain → ⊥) → is_key word ≡ true → ⊥
no_key_form word none form = none true (record { form = form; names = λ key served. none false (record { form = form; key = key; served = served }) })

-- the words that were read, and what they are as keys
abbrev pub AreRead : List (List ℕ) → List (List ℕ) → Bool → Type 0
AreRead read keys true = (keys ≡ read) × All IsPlainKey read
AreRead read keys false = (word : List ℕ) × Contains read word × IsQueryKey word

-- these words were read off the front, and those are left
pub record HasRead (words keys : List (List ℕ)) (are_plain : Bool) (rest : List (List ℕ)) : Type 0 where
  pub read : List (List ℕ)
  pub words_are : words ≡ read ++ rest
  pub keys_are : All (λ word. is_key word ≡ true) read
  pub are_read : AreRead read keys are_plain

head_in : (word : List ℕ) (words : List (List ℕ)) → Contains (word ∷ words) word
head_in word words = All-head (Contains (word ∷ words)) word words (All-contains_itself (word ∷ words))

-- nothing is read
pub none_read : (words : List (List ℕ)) → HasRead words [] true words
none_read words = record { read = []; words_are = refl; keys_are = All-nil _; are_read = (refl, All-nil _) }

-- the same words, one of them on the other side
moved : (words read rest behind : List (List ℕ)) (word : List ℕ) → words ≡ read ++ rest → rest ≡ word ∷ behind → words ≡ (read ++ word ∷ []) ++ behind
moved words read rest behind word e f = e ∙ ap (λ (ws : List (List ℕ)). read ++ ws) f ∙ sym (append_assoc read (word ∷ []) behind)

one_more : (P : List ℕ → Type 0) (read : List (List ℕ)) (word : List ℕ) → All P read → P word → All P (read ++ word ∷ [])
one_more P read word all one = All-append P read (word ∷ []) all (All-cons P word [] one (All-nil P))

-- a plain key is read
pub plain_read : (words keys rest behind : List (List ℕ)) (are_plain : Bool) (word : List ℕ) → HasRead words keys are_plain rest → rest ≡ word ∷ behind
    → IsPlainKey word → HasRead words (keys ++ word ∷ []) are_plain behind
plain_read words keys rest behind are_plain word h f plain = record {
  read = h.read ++ word ∷ [];
  words_are = moved words h.read rest behind word h.words_are f;
  keys_are = one_more (λ (w : List ℕ). is_key w ≡ true) h.read word h.keys_are plain.form;
  are_read = by are_plain h.are_read;
}
  where
    by : (b : Bool) → AreRead h.read keys b → AreRead (h.read ++ word ∷ []) (keys ++ word ∷ []) b
    by true read_so = (ap (λ (ks : List (List ℕ)). ks ++ word ∷ []) read_so.0, one_more IsPlainKey h.read word read_so.1 plain)
    by false read_so = (read_so.0, Contains-append_left h.read (word ∷ []) read_so.0 read_so.1, read_so.2)

-- a key of the cache is read
pub query_read : (words keys rest behind : List (List ℕ)) (are_plain : Bool) (word : List ℕ) → HasRead words keys are_plain rest → rest ≡ word ∷ behind
    → IsQueryKey word → HasRead words keys false behind
query_read words keys rest behind are_plain word h f query = record {
  read = h.read ++ word ∷ [];
  words_are = moved words h.read rest behind word h.words_are f;
  keys_are = one_more (λ (w : List ℕ). is_key w ≡ true) h.read word h.keys_are query.form;
  are_read = (word, Contains-append_right h.read (word ∷ []) word (head_in word []), query);
}

-- one of the words may not be a key
pub no_keys : (words keys rest behind : List (List ℕ)) (are_plain : Bool) (word : List ℕ) → HasRead words keys are_plain rest → rest ≡ word ∷ behind
    → ((is_plain : Bool) → IsKeyWord word is_plain → ⊥) → All (λ word. is_key word ≡ true) words → ⊥
no_keys words keys rest behind are_plain word h f none all =
    let there : Contains words word =
    rw (h.words_are ∙ ap (λ (ws : List (List ℕ)). h.read ++ ws) f) (Contains-append_right h.read (word ∷ behind) word (head_in word behind)) in
    no_key_form word none (All-contains (λ (w : List ℕ). is_key w ≡ true) words word all there)

-- all words are read
pub all_read : (words keys rest : List (List ℕ)) (are_plain : Bool) → HasRead words keys are_plain rest → rest ≡ []
    → AreRead words keys are_plain × All (λ word. is_key word ≡ true) words
all_read words keys rest are_plain h end =
    let e : words ≡ h.read = h.words_are ∙ ap (λ (ws : List (List ℕ)). h.read ++ ws) end ∙ append-nil h.read in
    rw e (h.are_read, h.keys_are)
