-- The words of a transaction.
use Rattle.std.specs.Prelude.{ℕ, ◌≡◌, ◌≤◌, ◌<◌, ◌^◌, List, [], ◌∷◌, Some, codes}
use Rattle.rows_model.specs.declared.changes.Change.{Change}
use Rattle.rows_model.specs.declared.changes.Change.TheVariants.{Invite, Accept, Reject, Thaw, Rename, Block}
use Rattle.rows_model.specs.Changes.{IsTxn}
use Rattle.rows_model.specs.Name.{IsName}
use Rattle.rows_model.specs.Shift.{number_in}

-- the first word of a change
abbrev pub change_word : Change → List ℕ
change_word (Invite a b) = codes "invite"
change_word (Accept a b) = codes "accept"
change_word (Reject a b) = codes "reject"
change_word (Thaw a b) = codes "thaw"
change_word (Rename a name) = codes "rename"
change_word (Block a b) = codes "block"

-- the word is the id of a member: a number from 1 and below 2^32, with no zero in front
pub record IsId (word : List ℕ) (id : ℕ) : Type 0 where
  pub from : 1 ≤ id
  pub below : id < 2 ^ 32
  pub value : number_in word ≡ Some id

-- the second and the third word of a change: two ids, or an id and a name
abbrev pub AreSides : Change → List ℕ → List ℕ → Type 0
AreSides (Invite a b) first second = IsId first a × IsId second b
AreSides (Accept a b) first second = IsId first a × IsId second b
AreSides (Reject a b) first second = IsId first a × IsId second b
AreSides (Thaw a b) first second = IsId first a × IsId second b
AreSides (Rename a name) first second = IsId first a × (name ≡ second) × IsName second
AreSides (Block a b) first second = IsId first a × IsId second b

-- the words are those of the changes, three of each, with the word `+` in front of each
abbrev pub AreChanges : List Change → List (List ℕ) → Type 0
AreChanges [] words = words ≡ []
AreChanges (change ∷ changes) (plus ∷ word ∷ first ∷ second ∷ words) =
    (plus ≡ codes "+") × (word ≡ change_word change) × AreSides change first second × AreChanges changes words
AreChanges (change ∷ changes) fewer = ⊥

-- the words of a transaction: those of its 1 to 8 changes, joined by `+`
abbrev pub AreTxnWords : List Change → List (List ℕ) → Type 0
AreTxnWords txn words = IsTxn txn × AreChanges txn (codes "+" ∷ words)
