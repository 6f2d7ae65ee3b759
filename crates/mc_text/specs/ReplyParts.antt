-- The parts of a reply that are written within room that stands ready.
use Rattle.std.specs.Prelude.{ℕ, ◌≡◌, ◌+◌, List, ◌++◌, length, take, codes, decimal}
use Rattle.mc_text.specs.Replies.{line}

-- the numbers of a value's first line, from the id of its key to the end of the line
abbrev pub numbers_text : ℕ → ℕ → ℕ → List ℕ
numbers_text id len stamp = line (decimal id ++ codes " 0 " ++ decimal len ++ codes " " ++ decimal stamp)

-- the lines of a value behind its first one
abbrev pub lines_text : List ℕ → List ℕ
lines_text value = line value ++ line (codes "END")

-- a text was written over some bytes from a place on, and ends at another place; what stands before it stays
pub record Writes (old : List ℕ) (from : ℕ) (text new : List ℕ) (to : ℕ) : Type 0 where
  pub behind : take to new ≡ take from old ++ text
  pub ends : to ≡ from + length text
  pub as_long : length new ≡ length old
