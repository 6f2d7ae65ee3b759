-- What the parts of the parser of plain commands answer.
use Rattle.std.specs.Prelude.{ℕ, ◌≡◌, ◌≤◌, ⊤, Bool, true, List, ◌∷◌, length, All, Contains}
use Rattle.mc_text.specs.Words.{is_key, IsNumber, IsFlags}
use Rattle.mc_text.specs.Commands.{Then}
use Rattle.mc_text.specs.PlainKeys.{IsPlainKey}
use Rattle.mc_text.specs.PlainWords.{IsQueryKey, IsExptime, IsLast}
use Rattle.mc_text.specs.PlainLines.{IsKeyOf, AreFields}
use Rattle.mc_text.specs.declared.plain_words.KeyWord.{KeyWord}
use Rattle.mc_text.specs.declared.plain_lines.Fields.{Fields}
use Rattle.mc_text.specs.declared.plain_lines.Counted.{Counted}
use Rattle.mc_text.specs.declared.plain_lines.KeyWords.{KeyWords}
use Rattle.mc_text.specs.declared.plain_lines.KeyWords.TheVariants as keys

-- the first four words are these fields, and these words stand behind
pub record BeginWithFields (words : List (List ℕ)) (fields : Fields) (rest : List (List ℕ)) : Type 0 where
  pub key : List ℕ
  pub flags : List ℕ
  pub exptime : List ℕ
  pub bytes : List ℕ
  pub words_are : words ≡ key ∷ flags ∷ exptime ∷ bytes ∷ rest
  pub is_key : IsKeyOf key fields.key
  pub is_flags : IsFlags flags fields.flags
  pub is_exptime : IsExptime exptime fields.expires
  pub is_bytes : IsNumber bytes fields.bytes

-- they are no such fields
abbrev pub IsNoFields : List (List ℕ) → Type 0
IsNoFields words = (fields : Fields) → AreFields fields (λ rest. ⊤) words → ⊥

-- a key and the end
abbrev pub IsKeyAlone : List (List ℕ) → KeyWord → Bool → Type 0
IsKeyAlone words key noreply = Then (λ word. IsKeyOf word key) (λ rest. IsLast rest noreply) words

-- a key, a number and the end
abbrev pub IsCounted : List (List ℕ) → Counted → Type 0
IsCounted words counted =
    Then (λ word. IsKeyOf word counted.key) (Then (λ word. IsNumber word counted.by) (λ rest. IsLast rest counted.noreply)) words

-- what words are as keys
abbrev pub AreKeyWords : List (List ℕ) → KeyWords → Type 0
AreKeyWords words (keys.Plain plain) = (1 ≤ length words) × All IsPlainKey words × (plain ≡ words)
AreKeyWords words keys.Query = All (λ word. is_key word ≡ true) words × ((word : List ℕ) × Contains words word × IsQueryKey word)
AreKeyWords words keys.Bad = (1 ≤ length words) → All (λ word. is_key word ≡ true) words → ⊥
