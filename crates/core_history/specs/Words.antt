-- How the parts of a line are put behind one another.
use Rattle.std.specs.Prelude.{ℕ, List, ◌∷◌, flat_map}

-- Words, each behind a space.
abbrev pub spaced : List (List ℕ) → List ℕ
spaced words = flat_map (λ word. 32 ∷ word) words
