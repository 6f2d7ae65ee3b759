-- What words tell of a transaction.
use Rattle.std.specs.Prelude.{ℕ, ◌≡◌, List}
use Rattle.rows_model.specs.declared.changes.Change.{Change}
use Rattle.change_words.specs.Txns.{change_word, AreSides, AreTxnWords}

-- words say one transaction at most, and three words one change
pub record WordsTellTxns : Type 0 where
  pub one_change : (a b : Change) (first second : List ℕ)
      → change_word a ≡ change_word b → AreSides a first second → AreSides b first second → a ≡ b
  pub one_txn : (a b : List Change) (words : List (List ℕ)) → AreTxnWords a words → AreTxnWords b words → a ≡ b
