-- What the reader of lookups finds at the front of a text.
use Rattle.std.specs.Prelude.{ℕ, ◌≡◌, List, ◌++◌}
use Rattle.rows_model.specs.declared.keys.QKey.{QKey}
use Rattle.mc_text.specs.Words.{IsServed, IsNumber}

-- the text begins with the text of a key that is served, and this stands behind
pub record BeginsWithKey (text : List ℕ) (key : QKey) (rest : List ℕ) : Type 0 where
  pub word : List ℕ
  pub text_is : text ≡ word ++ rest
  pub key_is : IsServed word key

-- the text begins with digits that are this number below 2^64, and this stands behind
pub record BeginsWithNumber (text : List ℕ) (number : ℕ) (rest : List ℕ) : Type 0 where
  pub digits : List ℕ
  pub text_is : text ≡ digits ++ rest
  pub number_is : IsNumber digits number
