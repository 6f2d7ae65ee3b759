-- The lines of a text, and the words of a line.
use Rattle.std.specs.Prelude.{ℕ, ◌==◌, if◌then◌else◌, List, [], ◌∷◌, length}
use Rattle.std.specs.List.{slice_split}

-- The parts of a text between the bytes of this value.
abbrev pub parts_at : ℕ → List ℕ → List (List ℕ)
parts_at byte text = slice_split (λ b. b == byte) text

-- Without the last part, where that is empty.
abbrev pub without_empty_last : List (List ℕ) → List (List ℕ)
without_empty_last [] = []
without_empty_last (part ∷ []) = if length part == 0 then [] else part ∷ []
without_empty_last (part ∷ next ∷ parts) = part ∷ without_empty_last (next ∷ parts)

-- The lines of a text: the parts between its line feeds. The last line may lack its line feed.
abbrev pub lines_in : List ℕ → List (List ℕ)
lines_in text = without_empty_last (parts_at 10 text)

-- The words of a line: the parts between its spaces.
abbrev pub words_in : List ℕ → List (List ℕ)
words_in line = parts_at 32 line
