use Rattle.std.specs.Prelude.{ℕ, Bool, ◌==◌, ◌&&◌, ◌≡◌, ◌<◌, ◌≤◌, ◌^◌, List, ◌∷◌, ◌++◌, codes, decimal}
use Rattle.rows_model.specs.declared.keys.Kind.{Kind}
use Rattle.rows_model.specs.declared.keys.Kind.TheVariants.{Profile, Friends, Pending, NFriends, NPending, Blocked}
use Rattle.rows_model.specs.declared.keys.QKey.{QKey}

-- the place of a kind in the order of keys
abbrev pub kind_number : Kind → ℕ
kind_number Profile = 0
kind_number Friends = 1
kind_number Pending = 2
kind_number NFriends = 3
kind_number NPending = 4
kind_number Blocked = 5

-- whether two keys are one
abbrev pub same_key : QKey → QKey → Bool
same_key a b = (kind_number a.kind == kind_number b.kind) && (a.id == b.id)

-- the word that stands in front in the text of each key of a kind
abbrev pub word_of : Kind → List ℕ
word_of Profile = codes "profile"
word_of Friends = codes "friends"
word_of Pending = codes "pending"
word_of NFriends = codes "nfriends"
word_of NPending = codes "npending"
word_of Blocked = codes "blocked"

-- the text of a key: the word of its kind, a colon and its id in decimal
unfoldable pub key_text : QKey → List ℕ
key_text key = word_of key.kind ++ 58 ∷ decimal key.id

-- the text is that of the key, and the key's id is one that a key text may have
pub record IsKeyText (text : List ℕ) (key : QKey) : Type 0 where
  pub id_from : 1 ≤ key.id
  pub id_below : key.id < 2 ^ 32
  pub written : text ≡ key_text key

-- no kind has this word
abbrev pub IsNoWord : List ℕ → Type 0
IsNoWord word = (kind : Kind) → word ≡ word_of kind → ⊥

-- no key has this text
abbrev pub IsNoKeyText : List ℕ → Type 0
IsNoKeyText text = (key : QKey) → IsKeyText text key → ⊥

-- whether a byte is the colon that parts a key's word from its id
abbrev pub is_colon : ℕ → Bool
is_colon byte = byte == 58

-- keys with one text are one key
abbrev pub TextsTellKeys : Type 0
TextsTellKeys = (a b : QKey) → a.id < 2 ^ 64 → b.id < 2 ^ 64 → key_text a ≡ key_text b → a ≡ b

-- no text that a key may have is that of a key with the id 0
abbrev pub ZeroHasNoText : Type 0
ZeroHasNoText = (key : QKey) → key.id ≡ 0 → IsNoKeyText (key_text key)
