-- The words of a plain command's line.
use Rattle.std.specs.Prelude.{ℕ, ◌≡◌, ◌==◌, Bool, true, false, not, if◌then◌else◌, List, [], ◌∷◌, codes}
use Rattle.rows_model.specs.declared.keys.QKey.{QKey}
use Rattle.mc_text.specs.Words.{is_key, IsServed, IsNumber}
use Rattle.mc_text.specs.PlainKeys.{IsPlainKey}

-- the word may be a key, and is the text of a key of the cache
pub record IsQueryKey (word : List ℕ) : Type 0 where
  pub form : is_key word ≡ true
  pub key : QKey
  pub served : IsServed word key

-- the word may be a key, and is a plain one or one of the cache
abbrev pub IsKeyWord : List ℕ → Bool → Type 0
IsKeyWord word true = IsPlainKey word
IsKeyWord word false = IsQueryKey word

-- a word without the minus in front of it, if there is one
abbrev pub unsigned : List ℕ → List ℕ
unsigned [] = []
unsigned (byte ∷ bytes) = if byte == 45 then bytes else byte ∷ bytes

-- the word is a time of expiry, a number below 2^64 with a minus in front or without; it is told whether it isn't 0
pub record IsExptime (word : List ℕ) (expires : Bool) : Type 0 where
  pub number : ℕ
  pub is : IsNumber (unsigned word) number
  pub expires_is : expires ≡ not (number == 0)

-- the line ends here, or with the one word `noreply`: then no reply is wanted
abbrev pub IsLast : List (List ℕ) → Bool → Type 0
IsLast words false = words ≡ []
IsLast words true = words ≡ codes "noreply" ∷ []
