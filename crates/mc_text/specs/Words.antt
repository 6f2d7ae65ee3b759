-- The words of a command's line, and what a word may be: a key, a number, a session's number.
use Rattle.std.specs.Prelude.{ℕ, ℤ, pos, neg_ℤ, ◌^◌, ◌≡◌, ◌<◌, ◌≤◌, ◌⊎◌, Bool, true, ◌==◌, ◌&&◌, not, nat_le, List, ◌∷◌, length, filter, decimal, Option, Some, None}
use Rattle.std.specs.List.{list_all, slice_split}
use Rattle.rows_model.specs.declared.keys.QKey.{QKey}
use Rattle.rows_model.specs.declared.keys.Sid.{Sid}
use Rattle.rows_model.specs.Key.{IsKeyText}
use Rattle.rows_model.specs.Shift.{is_digit, number_from}

-- whether something stands between two spaces
abbrev pub is_some_word : List ℕ → Bool
is_some_word word = not (length word == 0)

-- the words of a line: the longest runs without a space
abbrev pub words_in : List ℕ → List (List ℕ)
words_in line = filter is_some_word (slice_split (λ byte. byte == 32) line)

-- whether a byte may stand in a key: it is above the space, and not the one called delete
abbrev pub is_key_byte : ℕ → Bool
is_key_byte byte = nat_le 0x21 byte && not (byte == 0x7F)

-- whether a word may be a key: 1 to 250 such bytes
abbrev pub is_key : List ℕ → Bool
is_key word = nat_le 1 (length word) && nat_le (length word) 250 && list_all is_key_byte word

-- the word is the text of a key of the cache, and its id is one that a member can have
pub record IsServed (word : List ℕ) (key : QKey) : Type 0 where
  pub text : IsKeyText word key
  pub id : key.id ≤ 100000

-- the digits are the decimal of an id that a member can have
pub record IsMember (digits : List ℕ) (id : ℕ) : Type 0 where
  pub id_from : 1 ≤ id
  pub id_to : id ≤ 100000
  pub written : digits ≡ decimal id

-- the word is this key that is served, or no such key
abbrev pub Names : List ℕ → Option QKey → Type 0
Names word (Some key) = IsServed word key
Names word None = (key : QKey) → IsServed word key → ⊥

-- the word may be a key; it is told which key that is served it is, if it is one
pub record IsKey (word : List ℕ) (key : Option QKey) : Type 0 where
  pub form : is_key word ≡ true
  pub names : Names word key

-- whether a word is 1 to 20 digits; there may be zeros in front
abbrev pub is_numeral : List ℕ → Bool
is_numeral word = nat_le 1 (length word) && nat_le (length word) 20 && list_all is_digit word

-- the word is this number, which is below a limit
pub record IsBelow (limit : ℕ) (word : List ℕ) (number : ℕ) : Type 0 where
  pub form : is_numeral word ≡ true
  pub value : number ≡ number_from 0 word
  pub below : number < limit

-- the word is this number below 2^64
abbrev pub IsNumber : List ℕ → ℕ → Type 0
IsNumber word number = IsBelow (2 ^ 64) word number

-- the word is this number below 2^32
abbrev pub IsFlags : List ℕ → ℕ → Type 0
IsFlags word number = IsBelow (2 ^ 32) word number

-- the word is the number of this session
abbrev pub IsSid : List ℕ → Sid → Type 0
IsSid word sid = IsNumber word sid.number

-- the word is this number, without a sign
pub record IsUnsigned (word : List ℕ) (by : ℤ) : Type 0 where
  pub form : is_numeral word ≡ true
  pub small : number_from 0 word < 2 ^ 31
  pub value : by ≡ pos (number_from 0 word)

-- the word is a minus and how far this number is below 0
pub record IsMinus (word : List ℕ) (by : ℤ) : Type 0 where
  pub digits : List ℕ
  pub sign : word ≡ 45 ∷ digits
  pub form : is_numeral digits ≡ true
  pub small : number_from 0 digits ≤ 2 ^ 31
  pub value : by ≡ neg_ℤ (pos (number_from 0 digits))

-- the word is this number of 32 bits, with a minus in front or without
abbrev pub IsBy : List ℕ → ℤ → Type 0
IsBy word by = IsUnsigned word by ⊎ IsMinus word by
