-- What is written of a cache, put together.
use Rattle.std.proofs.Common.{ℕ, suc, ◌≡◌, List, [], ◌∷◌, ◌++◌, length, map}
use Rattle.std.proofs.Common.{refl, sym, ap, ◌∙◌, append_assoc}
use Rattle.std.specs.List.{flat_map}
use Rattle.cache_file.specs.Texts.{part_text, body_text, head_text, cache_text}

-- the parts of texts that something has
body_mapped : {X : Type 0} (f : X → List ℕ) (xs : List X) → body_text (map f xs) ≡ flat_map (λ x. part_text (f x)) xs
body_mapped f [] = refl
body_mapped f (x ∷ xs) = ap (λ (t : List ℕ). part_text (f x) ++ t) (body_mapped f xs)

-- which are as many as these
map_long : {X : Type 0} (f : X → List ℕ) (xs : List X) → length (map f xs) ≡ length xs
map_long f [] = refl
map_long f (x ∷ xs) = ap suc (map_long f xs)

-- the first line, an LF and the body are the text of the cache
pub cache_joined : {X : Type 0} (f : X → List ℕ) (xs : List X) (body head line text : List ℕ) → body ≡ flat_map (λ x. part_text (f x)) xs → head ≡ head_text (length xs) body
    → line ≡ head ++ 10 ∷ [] → text ≡ line ++ body → text ≡ cache_text (map f xs)
cache_joined f xs body head line text parts first joined whole =
    let bodies : body ≡ body_text (map f xs) = parts ∙ sym (body_mapped f xs) in
    let heads : head ≡ head_text (length (map f xs)) (body_text (map f xs)) =
    first ∙ ap (λ (b : List ℕ). head_text (length xs) b) bodies ∙ ap (λ (n : ℕ). head_text n (body_text (map f xs))) (sym (map_long f xs)) in
    whole ∙ ap (λ (t : List ℕ). t ++ body) joined ∙ append_assoc head (10 ∷ []) body
    ∙ ap (λ (t : List ℕ). t ++ 10 ∷ body) heads
    ∙ ap (λ (b : List ℕ). head_text (length (map f xs)) (body_text (map f xs)) ++ 10 ∷ b) bodies
