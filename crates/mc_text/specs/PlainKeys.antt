-- The keys of plain commands.
use Rattle.std.specs.Prelude.{ℕ, List, None}
use Rattle.mc_text.specs.Words.{IsKey}

-- the word may be a key, and is the text of no key of the cache that is served
abbrev pub IsPlainKey : List ℕ → Type 0
IsPlainKey word = IsKey word None
