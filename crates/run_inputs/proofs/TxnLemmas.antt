-- The changes that were read, in their places.
use Rattle.std.proofs.Common.{ℕ, ◌+◌, ◌≡◌, ◌<◌, List, [], ◌∷◌, ◌++◌, length, take, slice_set, arith, ap, length-append, length-set}
use Rattle.std.specs.Prelude.{codes}
use Rattle.std.proofs.lemmas.List.{take_more_set}
use Rattle.rows_model.specs.declared.changes.Change.{Change}
use Rattle.change_words.specs.Txns.{AreChanges, AreTxnWords}
use Rattle.change_words.proofs.TakenLemmas.{HasTaken}

-- the changes up to a place, with one more put there
pub with_change : (list : List Change) (place : ℕ) (change : Change) → place < length list
    → take (place + 1) (slice_set list place change) ≡ take place list ++ change ∷ []
with_change list place change below = take_more_set list place change below

pub same_length : (list : List Change) (place : ℕ) (change : Change) → length (slice_set list place change) ≡ length list
same_length list place change = length-set list place change

-- words that go on behind eight changes are those of no transaction
pub too_many : (words : List (List ℕ)) (changes : List Change) (rest : List (List ℕ)) → HasTaken words changes rest → length changes ≡ 8
    → (txn : List Change) → AreTxnWords txn words → ⊥
too_many words changes rest h eight txn k = goes_on (h.back txn k.1).0 (h.back txn k.1).1 (h.back txn k.1).2
  where
    goes_on : (more : List Change) → txn ≡ changes ++ more → AreChanges more (codes "+" ∷ rest) → ⊥
    goes_on [] e none = let lengths = ap (λ (ws : List (List ℕ)). length ws) none in absurd (omega arith)
    goes_on (change ∷ more) e a =
        let few = k.0.few in
        let lengths = ap (λ (cs : List Change). length cs) e in
        let sums = length-append changes (change ∷ more) in absurd (omega arith)
