-- The text that is written of a row.
use Rattle.std.proofs.Common.{ℕ, ◌≡◌, List, [], ◌∷◌, ◌++◌, length, decimal, ap, ◌∙◌, append_assoc}
use Rattle.rows_model.specs.Key.{word_of}
use Rattle.rows_model.proofs.KeyLemmas.{key_text_is}
use Rattle.shard_dump.specs.declared.rows.DumpRow.{DumpRow}
use Rattle.shard_dump.specs.Texts.{row_text}

spelled : (row : DumpRow) (text : List ℕ)
    → ((((((text ++ word_of row.key.kind) ++ 58 ∷ []) ++ decimal row.key.id) ++ 32 ∷ []) ++ decimal (length row.value)) ++ 10 ∷ []) ++ row.value ++ 10 ∷ []
    ≡ text ++ row_text row
spelled row text = simp (append_assoc, key_text_is row.key)

-- a row's parts, put behind a text one after another
pub row_pushed : (row : DumpRow) (text a b c d e f value : List ℕ) (id : ℕ) → value ≡ row.value → id ≡ row.key.id → a ≡ text ++ word_of row.key.kind → b ≡ a ++ 58 ∷ []
    → c ≡ (b ++ decimal id) ++ 32 ∷ [] → d ≡ (c ++ decimal (length value)) ++ 10 ∷ [] → e ≡ d ++ value → f ≡ e ++ 10 ∷ [] → f ≡ text ++ row_text row
row_pushed row text a b c d e f value id v same h i j k l m =
    let whole = spelled row text in
    let p : c ≡ (b ++ decimal row.key.id) ++ 32 ∷ [] = j ∙ ap (λ (n : ℕ). (b ++ decimal n) ++ 32 ∷ []) same in
    let n : d ≡ (c ++ decimal (length row.value)) ++ 10 ∷ [] = k ∙ ap (λ (w : List ℕ). (c ++ decimal (length w)) ++ 10 ∷ []) v in
    let o : e ≡ d ++ row.value = l ∙ ap (λ (w : List ℕ). d ++ w) v in
    m ∙ ap (λ (t : List ℕ). t ++ 10 ∷ []) (o ∙ ap (λ (t : List ℕ). t ++ row.value) (n
    ∙ ap (λ (t : List ℕ). (t ++ decimal (length row.value)) ++ 10 ∷ []) (p ∙ ap (λ (t : List ℕ). (t ++ decimal row.key.id) ++ 32 ∷ []) (i ∙ ap (λ (t : List ℕ). t ++ 58 ∷ []) h))))
    ∙ whole
