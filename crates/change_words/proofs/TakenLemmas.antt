-- The changes that were taken off the front of words.
use Rattle.std.proofs.Common.{ℕ, ◌≡◌, ◌<◌, List, [], ◌∷◌, ◌++◌, length, arith, refl, sym, ap, ◌∙◌, append_assoc, append-nil, length-append, subst}
use Rattle.std.specs.Prelude.{codes, All}
use Rattle.std.proofs.lemmas.List.Elements.{All-nil, All-cons}
use Rattle.rows_model.specs.declared.changes.Change.{Change}
use Rattle.rows_model.specs.declared.changes.Change.TheVariants.{Invite, Accept, Reject, Thaw, Rename, Block}
use Rattle.rows_model.specs.Changes.{HasIds}
use Rattle.change_words.specs.Txns.{change_word, AreSides, AreChanges, AreTxnWords}
use Rattle.change_words.specs.Parsing.{BeginsWith, BeginsWithNone}
use Rattle.change_words.proofs.OnceLemmas.{change_once}

-- the ids of a change that words say
has_ids : (change : Change) (first second : List ℕ) → AreSides change first second → HasIds change
has_ids (Invite a b) first second h = (h.0.from, h.1.from)
has_ids (Accept a b) first second h = (h.0.from, h.1.from)
has_ids (Reject a b) first second h = (h.0.from, h.1.from)
has_ids (Thaw a b) first second h = (h.0.from, h.1.from)
has_ids (Rename a name) first second h = (h.0.from, rw h.1 h.2)
has_ids (Block a b) first second h = (h.0.from, h.1.from)

pub all_have_ids : (changes : List Change) (words : List (List ℕ)) → AreChanges changes words → All HasIds changes
all_have_ids [] words h = All-nil HasIds
all_have_ids (change ∷ changes) [] h = absurd h
all_have_ids (change ∷ changes) (a ∷ []) h = absurd h
all_have_ids (change ∷ changes) (a ∷ b ∷ []) h = absurd h
all_have_ids (change ∷ changes) (a ∷ b ∷ c ∷ []) h = absurd h
all_have_ids (change ∷ changes) (plus ∷ word ∷ first ∷ second ∷ words) h =
    All-cons HasIds change changes (has_ids change first second h.2) (all_have_ids changes words h.3)

-- these changes were taken off the front of the words, and these words are left
pub record HasTaken (words : List (List ℕ)) (changes : List Change) (rest : List (List ℕ)) : Type 0 where
  pub on : (more : List Change) → AreChanges more (codes "+" ∷ rest) → AreChanges (changes ++ more) (codes "+" ∷ words)
  pub back : (all : List Change) → AreChanges all (codes "+" ∷ words) → (more : List Change) × (all ≡ changes ++ more) × AreChanges more (codes "+" ∷ rest)

-- what stands behind the first change of such words
behind_first : (change : Change) (rest left : List (List ℕ))
    → BeginsWith change rest left → (all : List Change) → AreChanges all (codes "+" ∷ rest)
    → (more : List Change) × (all ≡ change ∷ more) × AreChanges more left
behind_first change rest left b [] h = let lengths = ap (λ (ws : List (List ℕ)). length ws) h in absurd (omega arith)
behind_first change rest left b (other ∷ more) h =
    let k : AreChanges (other ∷ more) (codes "+" ∷ change_word change ∷ b.first ∷ b.second ∷ left) = rw b.words_are at h in
    let same : change ≡ other = change_once change other b.first b.second k.1 b.sides k.2 in
    (more, ap (λ (c : Change). c ∷ more) (sym same), k.3)

pub taken_more : (words : List (List ℕ)) (changes : List Change) (rest left : List (List ℕ)) (change : Change)
    → HasTaken words changes rest → BeginsWith change rest left
    → (more : List Change) → AreChanges more left → AreChanges ((changes ++ change ∷ []) ++ more) (codes "+" ∷ words)
taken_more words changes rest left change h b more k =
    let one : AreChanges (change ∷ more) (codes "+" ∷ rest) = rw b.words_are (refl, refl, b.sides, k) in
    rw append_assoc (h.on (change ∷ more) one)

pub back_more : (words : List (List ℕ)) (changes : List Change) (rest left : List (List ℕ)) (change : Change)
    → HasTaken words changes rest → BeginsWith change rest left
    → (all : List Change) → AreChanges all (codes "+" ∷ words) → (more : List Change) × (all ≡ (changes ++ change ∷ []) ++ more) × AreChanges more left
back_more words changes rest left change h b all k =
    let was = h.back all k in
    let next = behind_first change rest left b was.0 was.2 in
    (next.0, was.1 ∙ (ap (λ (cs : List Change). changes ++ cs) next.1 ∙ sym (append_assoc changes (change ∷ []) next.0)), next.2)

-- one change more, with a plus behind it
pub taken_on : (words : List (List ℕ)) (changes : List Change) (rest left next : List (List ℕ)) (change : Change)
    → HasTaken words changes rest → BeginsWith change rest left → left ≡ codes "+" ∷ next → HasTaken words (changes ++ change ∷ []) next
taken_on words changes rest left next change h b e = record {
  on = λ more k. taken_more words changes rest left change h b more (rw e k);
  back = λ all k. (let was = back_more words changes rest left change h b all k in (was.0, was.1, subst (λ (ws : List (List ℕ)). AreChanges was.0 ws) e was.2));
}

-- the last change
pub taken_all : (words : List (List ℕ)) (changes : List Change) (rest left : List (List ℕ)) (change : Change)
    → length changes < 8 → HasTaken words changes rest → BeginsWith change rest left → left ≡ [] → AreTxnWords (changes ++ change ∷ []) words
taken_all words changes rest left change few h b e =
    let whole : AreChanges (changes ++ change ∷ []) (codes "+" ∷ words) = rw append-nil at (taken_more words changes rest left change h b [] e) in
    let lengths = length-append changes (change ∷ []) in
    (record { some = omega arith; few = omega arith; ids = all_have_ids (changes ++ change ∷ []) (codes "+" ∷ words) whole }, whole)

-- words that go on with no change
pub no_change : (words : List (List ℕ)) (changes : List Change) (rest : List (List ℕ)) → HasTaken words changes rest → BeginsWithNone rest
    → (txn : List Change) → AreTxnWords txn words → ⊥
no_change words changes rest h none txn k =
    let was = h.back txn k.1 in
    ends was.0 was.2
  where
    ends : (more : List Change) → AreChanges more (codes "+" ∷ rest) → ⊥
    ends [] e = let lengths = ap (λ (ws : List (List ℕ)). length ws) e in absurd (omega arith)
    ends (change ∷ others) e = none change others e

-- or with no plus
pub no_more : (words : List (List ℕ)) (changes : List Change) (rest left : List (List ℕ)) (change : Change)
    → HasTaken words changes rest → BeginsWith change rest left → ((more : List Change) → AreChanges more left → ⊥)
    → (txn : List Change) → AreTxnWords txn words → ⊥
no_more words changes rest left change h b none txn k =
    let was = back_more words changes rest left change h b txn k.1 in
    none was.0 was.2

-- words that aren't those of changes: no plus in front
pub no_plus : (word : List ℕ) (words : List (List ℕ)) → (word ≡ codes "+" → ⊥) → (changes : List Change) → AreChanges changes (word ∷ words) → ⊥
no_plus word words other [] h = let lengths = ap (λ (parts : List (List ℕ)). length parts) h in absurd (omega arith)
no_plus word [] other (change ∷ changes) h = h
no_plus word (a ∷ []) other (change ∷ changes) h = h
no_plus word (a ∷ b ∷ []) other (change ∷ changes) h = h
no_plus word (a ∷ b ∷ c ∷ words) other (change ∷ changes) h = other h.0
