-- What the first words are, and that they are none of a kind.
use Rattle.std.proofs.Common.{ℕ, ◌≡◌, List, [], ◌∷◌, refl, sym, ap, ◌∙◌, subst, get_or}
use Rattle.mc_text.specs.Commands.{Then}
use Rattle.mc_text.specs.Parsing.{IsNoFirst}

-- the first of some words
first_is : (a b : List ℕ) (xs ys : List (List ℕ)) → a ∷ xs ≡ b ∷ ys → a ≡ b
first_is a b xs ys e = ap (λ (ws : List (List ℕ)). get_or ws 0 []) e

-- a first word that is no such value
pub no_first : {X : Type 0} (Is : List ℕ → X → Type 0) (words : List (List ℕ)) (word : List ℕ) (rest : List (List ℕ))
    → words ≡ word ∷ rest → ((value : X) → Is word value → ⊥) → IsNoFirst Is words
no_first Is words word rest e none value other others f h =
    none value (subst (λ (w : List ℕ). Is w value) (first_is other word others rest (sym f ∙ e)) h)

-- words that begin with no such value
pub no_then : {X : Type 0} (Is : List ℕ → X → Type 0) (AreOthers : List (List ℕ) → Type 0) (words : List (List ℕ))
    → IsNoFirst Is words → (value : X) → Then (λ word. Is word value) AreOthers words → ⊥
no_then Is AreOthers [] none value h = h
no_then Is AreOthers (word ∷ words) none value h = none value word words refl h.0

-- the words behind a first one
pub behind_first : (Is : List ℕ → Type 0) (AreOthers : List (List ℕ) → Type 0) {words rest : List (List ℕ)} {word : List ℕ}
    → words ≡ word ∷ rest → Then Is AreOthers words → AreOthers rest
behind_first Is AreOthers e h = (rw e at h).1
