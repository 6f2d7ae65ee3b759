-- Words say one transaction at most.
use Rattle.std.proofs.Common.{ℕ, ◌+◌, ◌*◌, ◌≡◌, ◌≢◌, List, [], ◌∷◌, length, Some, arith, refl, sym, ap, ◌∙◌, get_or}
use Rattle.std.specs.Prelude.{codes}
use Rattle.rows_model.specs.declared.changes.Change.{Change}
use Rattle.rows_model.specs.declared.changes.Change.TheVariants.{Invite, Accept, Reject, Thaw, Rename, Block}
use Rattle.change_words.specs.Txns.{IsId, change_word, AreSides, AreChanges, AreTxnWords}
use Rattle.change_words.specs.Laws.{WordsTellTxns}

-- two ids of one word are one
id_once : (word : List ℕ) (a b : ℕ) → IsId word a → IsId word b → a ≡ b
id_once word a b h k = let e : Some a ≡ Some b = sym h.value ∙ k.value in cc

-- the first and the third letter of a word, as one number
abbrev letters : List ℕ → ℕ
letters word = 256 * get_or word 0 0 + get_or word 2 0

-- three words are those of one change
pub change_once : (a b : Change) (first second : List ℕ) → change_word a ≡ change_word b → AreSides a first second → AreSides b first second → a ≡ b
change_once (Invite a b) (Invite a' b') first second e h k = let f = id_once first a a' h.0 k.0 in let g = id_once second b b' h.1 k.1 in cc
change_once (Accept a b) (Accept a' b') first second e h k = let f = id_once first a a' h.0 k.0 in let g = id_once second b b' h.1 k.1 in cc
change_once (Reject a b) (Reject a' b') first second e h k = let f = id_once first a a' h.0 k.0 in let g = id_once second b b' h.1 k.1 in cc
change_once (Thaw a b) (Thaw a' b') first second e h k = let f = id_once first a a' h.0 k.0 in let g = id_once second b b' h.1 k.1 in cc
change_once (Rename a name) (Rename a' name') first second e h k = let f = id_once first a a' h.0 k.0 in let g : name ≡ name' = h.1 ∙ sym k.1 in cc
change_once (Block a b) (Block a' b') first second e h k = let f = id_once first a a' h.0 k.0 in let g = id_once second b b' h.1 k.1 in cc
change_once a b first second e h k = let two : letters (change_word a) ≡ letters (change_word b) = ap letters e in absurd (omega arith)

-- a word that none of these is, is that of no change between two members
pub no_pair : (word : List ℕ) → (word ≡ codes "invite" → ⊥) → (word ≡ codes "accept" → ⊥) → (word ≡ codes "reject" → ⊥) → (word ≡ codes "thaw" → ⊥)
    → (word ≡ codes "block" → ⊥) → (change : Change) → word ≡ change_word change → change_word change ≢ codes "rename" → ⊥
no_pair word invite accept reject thaw block (Invite a b) e other = invite e
no_pair word invite accept reject thaw block (Accept a b) e other = accept e
no_pair word invite accept reject thaw block (Reject a b) e other = reject e
no_pair word invite accept reject thaw block (Thaw a b) e other = thaw e
no_pair word invite accept reject thaw block (Rename a name) e other = other refl
no_pair word invite accept reject thaw block (Block a b) e other = block e

-- no words and a word are two things
pub nothing : (word : List ℕ) (words : List (List ℕ)) → word ∷ words ≡ [] → ⊥
nothing word words e = let lengths = ap (λ (ws : List (List ℕ)). length ws) e in absurd (omega arith)

changes_once : (a b : List Change) (words : List (List ℕ)) → AreChanges a words → AreChanges b words → a ≡ b
changes_once [] [] words h k = refl
changes_once [] (b ∷ bs) [] h k = absurd k
changes_once [] (b ∷ bs) (word ∷ words) h k = absurd (nothing word words h)
changes_once (a ∷ as') [] [] h k = absurd h
changes_once (a ∷ as') [] (word ∷ words) h k = absurd (nothing word words k)
changes_once (a ∷ as') (b ∷ bs) [] h k = absurd h
changes_once (a ∷ as') (b ∷ bs) (w ∷ []) h k = absurd h
changes_once (a ∷ as') (b ∷ bs) (w ∷ x ∷ []) h k = absurd h
changes_once (a ∷ as') (b ∷ bs) (w ∷ x ∷ y ∷ []) h k = absurd h
changes_once (a ∷ as') (b ∷ bs) (plus ∷ word ∷ first ∷ second ∷ words) h k =
    let same : a ≡ b = change_once a b first second (sym h.1 ∙ k.1) h.2 k.2 in
    let rest : as' ≡ bs = changes_once as' bs words h.3 k.3 in
    ap (λ (c : Change). c ∷ as') same ∙ ap (λ (cs : List Change). b ∷ cs) rest

pub txn_once : (a b : List Change) (words : List (List ℕ)) → AreTxnWords a words → AreTxnWords b words → a ≡ b
txn_once a b words h k = changes_once a b (codes "+" ∷ words) h.1 k.1

pub words_tell : WordsTellTxns
words_tell = record { one_change = change_once; one_txn = txn_once }
