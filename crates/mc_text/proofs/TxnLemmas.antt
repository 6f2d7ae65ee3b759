-- Words that are read as changes, one after another, with no change kept.
use Rattle.std.proofs.Common.{ℕ, ◌+◌, ◌≡◌, ◌≤◌, ◌<◌, List, [], ◌∷◌, ◌++◌, length, arith, refl, ap, ◌∙◌, length-append}
use Rattle.std.specs.Prelude.{codes, Option, Result, Ok, Err, OnErr}
use Rattle.rows_model.specs.declared.changes.Change.{Change}
use Rattle.rows_model.specs.declared.keys.QKey.{QKey}
use Rattle.rows_model.specs.declared.keys.Sid.{Sid}
use Rattle.change_words.specs.Parsing.{BeginsWith, BeginsWithNone}
use Rattle.change_words.specs.Txns.{AreChanges, AreTxnWords}
use Rattle.change_words.proofs.TakenLemmas.{HasTaken, taken_on, taken_all, no_change, no_more, no_plus}
use Rattle.mc_text.specs.Words.{IsKey, IsSid}
use Rattle.mc_text.specs.Parsing.{IsFirst}
use Rattle.mc_text.specs.Telling.{TellsTxn}
use Rattle.mc_text.specs.declared.verb_words.LeaseVerb.TheVariants as lease
use Rattle.mc_text.specs.declared.commands.Command.TheVariants.{Stage, Sql}

-- so many changes were read off the front of the words, and these words are left
pub record HasRead (words : List (List ℕ)) (count : ℕ) (rest : List (List ℕ)) : Type 0 where
  pub changes : List Change
  pub taken : HasTaken words changes rest
  pub many : length changes ≡ count

-- none was read
pub none_read : (words : List (List ℕ)) → HasRead words 0 words
none_read words = record {
  changes = [];
  taken = record { on = λ more k. k; back = λ all k. (all, refl, k) };
  many = refl;
}

-- one change more, with a plus behind it
pub read_on : (words rest left next : List (List ℕ)) (count : ℕ) (change : Change)
    → HasRead words count rest → BeginsWith change rest left → left ≡ codes "+" ∷ next → HasRead words (count + 1) next
read_on words rest left next count change h b plus = record {
  changes = h.changes ++ change ∷ [];
  taken = taken_on words h.changes rest left next change h.taken b plus;
  many = omega (arith, h.many, length-append h.changes (change ∷ []));
}

-- the last change
pub read_all : (words rest left : List (List ℕ)) (count : ℕ) (change : Change)
    → count < 8 → HasRead words count rest → BeginsWith change rest left → left ≡ [] → (txn : List Change) × AreTxnWords txn words
read_all words rest left count change few h b none =
    (h.changes ++ change ∷ [], taken_all words h.changes rest left change (omega (arith, h.many)) h.taken b none)

-- words that go on with no change are those of no transaction
pub read_none : (words rest : List (List ℕ)) (count : ℕ) → HasRead words count rest → BeginsWithNone rest
    → (txn : List Change) → AreTxnWords txn words → ⊥
read_none words rest count h none txn k = no_change words h.changes rest h.taken none txn k

-- nor are those that go on with no plus
pub read_no_plus : (words rest left more : List (List ℕ)) (word : List ℕ) (count : ℕ) (change : Change)
    → HasRead words count rest → BeginsWith change rest left → left ≡ word ∷ more → (word ≡ codes "+" → ⊥)
    → (txn : List Change) → AreTxnWords txn words → ⊥
read_no_plus words rest left more word count change h b is other txn k =
    no_more words h.changes rest left change h.taken b (λ others a. no_plus word more other others (rw is at a)) txn k

-- nor those that go on behind the eighth change
pub read_many : (words rest : List (List ℕ)) (count : ℕ) → HasRead words count rest → 8 ≤ count
    → (txn : List Change) → AreTxnWords txn words → ⊥
read_many words rest count h eight txn k =
    let was = h.taken.back txn k.1 in
    ends was.0 was.2 (ap (λ (cs : List Change). length cs) was.1 ∙ length-append h.changes was.0)
  where
    ends : (more : List Change) → AreChanges more (codes "+" ∷ rest) → length txn ≡ length h.changes + length more → ⊥
    ends [] e long = let lengths = ap (λ (ws : List (List ℕ)). length ws) e in absurd (omega arith)
    ends (change ∷ others) e long = let few = k.0.few in absurd (omega (arith, h.many))

-- where memory is wanted for a transaction, its words make a command
pub staged : {A B : Type 0} (read : Result A B) (words one others : List (List ℕ)) (key : Option QKey) (sid : Sid)
    → IsFirst IsKey words key one → IsFirst IsSid one sid others → (txn : List Change) × AreTxnWords txn others → OnErr read (TellsTxn lease.Stage words)
staged (Ok value) words one others key sid a b t = tt
staged (Err fault) words one others key sid a b t = record {
  said = Stage key sid t.0;
  is = record { verb_is = refl; args = rw a.words_are (a.is, rw b.words_are (b.is, t.1)) };
  txn = refl;
}

pub committed : {A B : Type 0} (read : Result A B) (words others : List (List ℕ)) (sid : Sid)
    → IsFirst IsSid words sid others → (txn : List Change) × AreTxnWords txn others → OnErr read (TellsTxn lease.Sql words)
committed (Ok value) words others sid a t = tt
committed (Err fault) words others sid a t = record { said = Sql sid t.0; is = record { verb_is = refl; args = rw a.words_are (a.is, t.1) }; txn = refl }
