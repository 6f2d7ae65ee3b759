-- The passes of shards, by their numbers.
use Rattle.std.proofs.Common.{ℕ, zero, suc, ◌≡◌, List, [], ◌∷◌, ◌++◌, length, length-append, All, Some, refl, sym, ap, ◌∙◌, arith}
use Rattle.std.proofs.lemmas.List.Elements.{All-pop}
use Rattle.log_word.specs.Views.{nothing_seen}
use Rattle.log_word.specs.Passes.{WordView, ShardPassView, blind_shard_passes}

module _ {A : Type 0} where
  abbrev front_or : A → List A → A
  front_or d [] = d
  front_or d (x ∷ xs) = x

  abbrev behind : List A → List A
  behind [] = []
  behind (x ∷ xs) = xs

  -- the last of two equal lists is one, and so are those before it
  pub same_last : (xs ys : List A) (x y : A) → xs ++ x ∷ [] ≡ ys ++ y ∷ [] → (xs ≡ ys) × (x ≡ y)
  same_last [] [] x y e = (refl, ap (front_or x) e)
  same_last [] (y' ∷ ys) x y e = let l : 1 ≡ length ((y' ∷ ys) ++ y ∷ []) = ap length e in absurd (omega (arith, l, length-append (y' ∷ ys) (y ∷ [])))
  same_last (x' ∷ xs) [] x y e = let l : length ((x' ∷ xs) ++ x ∷ []) ≡ 1 = ap length e in absurd (omega (arith, l, length-append (x' ∷ xs) (x ∷ [])))
  same_last (x' ∷ xs) (y' ∷ ys) x y e =
      let t = same_last xs ys x y (ap behind e) in
      (ap (λ a. a ∷ xs) (ap (front_or x') e) ∙ ap (λ l. y' ∷ l) t.0, t.1)

pub as_many_passes : (word : WordView) (count : ℕ) → length (blind_shard_passes word count) ≡ count
as_many_passes word zero = refl
as_many_passes word (suc count) =
    let h : length (blind_shard_passes word count) ≡ count = as_many_passes word count in
    omega (arith, h, length-append (blind_shard_passes word count) (record { word = word; shard = count; seen = nothing_seen } ∷ []))

-- the pass that is taken from the end is that of the last shard
pub last_pass : (word : WordView) (many count : ℕ) (passes left : List ShardPassView) (pass : ShardPassView) → passes ≡ blind_shard_passes word many → many ≡ suc count
    → passes ≡ left ++ pass ∷ [] → (left ≡ blind_shard_passes word count) × (pass ≡ record { word = word; shard = count; seen = nothing_seen })
last_pass word many count passes left pass are next is =
    same_last left (blind_shard_passes word count) pass (record { word = word; shard = count; seen = nothing_seen })
    (sym is ∙ are ∙ ap (blind_shard_passes word) next)

-- what holds of each holds of the last, and of each before it
pub all_but_last : {A : Type 0} (P : A → Type 0) (xs left : List A) (last : A) → xs ≡ left ++ last ∷ [] → All P xs → All P left × P last
all_but_last P xs left last is all = All-pop P xs left (Some last) is all

pub one_fewer : {A : Type 0} (xs left : List A) (last : A) → xs ≡ left ++ last ∷ [] → length xs ≡ suc (length left)
one_fewer {A} xs left last is = let e : length xs ≡ length (left ++ last ∷ []) = ap (λ (l : List A). length l) is in omega (arith, e, length-append left (last ∷ []))
