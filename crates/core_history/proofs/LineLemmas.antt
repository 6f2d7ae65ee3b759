-- A line is its first word, the others behind it, each behind a space, and the line's end.
use Rattle.std.proofs.Common.{ℕ, ◌≡◌, List, [], ◌∷◌, ◌++◌, ap, sym, ◌∙◌, append_assoc, append-nil}
use Rattle.std.specs.List.{join_with_byte}
use Rattle.std.proofs.lemmas.Grind.{flat_map-append}
use Rattle.core_history.specs.Lines.{line}
use Rattle.core_history.specs.Words.{spaced}

joined : (word : List ℕ) (words : List (List ℕ)) → join_with_byte 32 (word ∷ words) ≡ word ++ spaced words
joined word [] = sym (append-nil word)
joined word (next ∷ words) = ap (λ (l : List ℕ). word ++ 32 ∷ l) (joined next words)

-- the words of a request, and then those of its reply, put behind a word, and the line's end
pub line_pushed : (word : List ℕ) (asked words : List (List ℕ)) (with_asked with_told text : List ℕ)
    → with_asked ≡ word ++ spaced asked → with_told ≡ with_asked ++ spaced words →
    text ≡ with_told ++ 10 ∷ [] → text ≡ line (word ∷ asked ++ words)
line_pushed word asked words with_asked with_told text first then last =
    last ∙ ap (λ (l : List ℕ). l ++ 10 ∷ [])
    (then ∙ ap (λ (l : List ℕ). l ++ spaced words) first ∙ append_assoc word (spaced asked) (spaced words)
    ∙ ap (λ (l : List ℕ). word ++ l) (sym (flat_map-append (λ (w : List ℕ). 32 ∷ w) asked words)) ∙ sym (joined word (asked ++ words)))
