-- What the parts of a parser answer.
use Rattle.std.specs.Prelude.{ℕ, ◌≡◌, List, ◌∷◌, codes}
use Rattle.rows_model.specs.declared.changes.Change.{Change}
use Rattle.rows_model.specs.declared.changes.Change.TheVariants.{Invite, Accept, Reject, Thaw, Rename, Block}
use Rattle.change_words.specs.Txns.{change_word, AreSides, AreChanges}

-- the words begin with three of a change, and these stand behind
pub record BeginsWith (change : Change) (words rest : List (List ℕ)) : Type 0 where
  pub first : List ℕ
  pub second : List ℕ
  pub words_are : words ≡ change_word change ∷ first ∷ second ∷ rest
  pub sides : AreSides change first second

-- the words begin with no change
abbrev pub BeginsWithNone : List (List ℕ) → Type 0
BeginsWithNone words = (change : Change) (changes : List Change) → AreChanges (change ∷ changes) (codes "+" ∷ words) → ⊥

-- the change is one between these two members
abbrev pub IsPair : Change → ℕ → ℕ → Type 0
IsPair (Invite a b) first second = (a ≡ first) × (b ≡ second)
IsPair (Accept a b) first second = (a ≡ first) × (b ≡ second)
IsPair (Reject a b) first second = (a ≡ first) × (b ≡ second)
IsPair (Thaw a b) first second = (a ≡ first) × (b ≡ second)
IsPair (Rename a name) first second = ⊥
IsPair (Block a b) first second = (a ≡ first) × (b ≡ second)
