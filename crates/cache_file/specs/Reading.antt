-- What the reader finds of a cache's text, part by part.
use Rattle.std.specs.Prelude.{ℕ, ◌≡◌, ◌≤◌, List, ◌++◌, length, map}
use Rattle.shard_dump.specs.declared.rows.Dump.{Dump}
use Rattle.shard_dump.specs.Texts.{dump_text, IsDumpText}
use Rattle.cache_file.specs.Texts.{part_text, body_text, AreDumps, AreInOrder, IsDumpOf}

-- the text is the body of a cache of so many shards, which have these dumps
pub record IsBody (count : ℕ) (text : List ℕ) (dumps : List Dump) : Type 0 where
  pub are : AreDumps count dumps
  pub written : text ≡ body_text (map dump_text dumps)

-- the text begins with the parts of these dumps, and these bytes are the rest
pub record BeginsWith (count : ℕ) (text : List ℕ) (dumps : List Dump) (rest : List ℕ) : Type 0 where
  pub few : length dumps ≤ count
  pub in_order : AreInOrder count dumps
  pub written : text ≡ body_text (map dump_text dumps) ++ rest

-- the part of no dump of this shard is in front
abbrev pub HasNoPart : ℕ → ℕ → List ℕ → Type 0
HasNoPart count shard text =
    (dump : Dump) (rest : List ℕ) → IsDumpOf count shard dump → text ≡ part_text (dump_text dump) ++ rest → ⊥

-- the text is that of no dump
abbrev pub HasNoDump : List ℕ → Type 0
HasNoDump text = (dump : Dump) → IsDumpText text dump → ⊥

-- the text is the body of no cache of so many shards
abbrev pub IsNoBody : ℕ → List ℕ → Type 0
IsNoBody count text = (dumps : List Dump) → IsBody count text dumps → ⊥
