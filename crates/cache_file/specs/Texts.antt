-- The text of a cache.
use Rattle.std.specs.Prelude.{ℕ, ◌≡◌, List, ◌∷◌, ◌++◌, length, map, codes, decimal, Some, slice_get}
use Rattle.std.specs.List.{flat_map}
use Rattle.sha2.specs.Sha256.{sha256}
use Rattle.hex.specs.Hex.{encode_lower}
use Rattle.shard_dump.specs.declared.rows.Dump.{Dump}
use Rattle.shard_dump.specs.Texts.{IsHead, AreRows, head_of, dump_text}
use Rattle.cache_file.specs.declared.faults.CacheFault.{CacheFault}
use Rattle.cache_file.specs.declared.faults.CacheFault.TheVariants.{Bad, Memory}

-- a dump's text, with its length in front
abbrev pub part_text : List ℕ → List ℕ
part_text dump = decimal (length dump) ++ 10 ∷ dump

-- all of them
abbrev pub body_text : List (List ℕ) → List ℕ
body_text dumps = flat_map part_text dumps

-- the first line over a body, without its LF: how many shards there are, and the body's digest
abbrev pub head_text : ℕ → List ℕ → List ℕ
head_text shards body = codes "iqcache 1 " ++ decimal shards ++ 32 ∷ encode_lower (sha256 body)

-- the text of the cache whose shards have these dumps
abbrev pub cache_text : List (List ℕ) → List ℕ
cache_text dumps = head_text (length dumps) (body_text dumps) ++ 10 ∷ body_text dumps

-- the dump is one of this shard, out of so many
pub record IsDumpOf (count shard : ℕ) (dump : Dump) : Type 0 where
  pub shard_is : dump.shard ≡ shard
  pub count_is : dump.count ≡ count
  pub right : IsHead (head_of dump)
  pub rows : AreRows (head_of dump) dump.rows

-- each dump is that of the shard whose number is its place
abbrev pub AreInOrder : ℕ → List Dump → Type 0
AreInOrder count dumps = (place : ℕ) (dump : Dump) → slice_get dumps place ≡ Some dump → IsDumpOf count place dump

-- the dumps are those of so many shards, in the order of their numbers
pub record AreDumps (count : ℕ) (dumps : List Dump) : Type 0 where
  pub all : length dumps ≡ count
  pub in_order : AreInOrder count dumps

-- the text is that of a cache of so many shards, which have these dumps
pub record IsCacheText (count : ℕ) (text : List ℕ) (dumps : List Dump) : Type 0 where
  pub are : AreDumps count dumps
  pub written : text ≡ cache_text (map dump_text dumps)

-- the text is that of no cache of so many shards
abbrev pub IsNoCache : ℕ → List ℕ → Type 0
IsNoCache count text = (dumps : List Dump) → IsCacheText count text dumps → ⊥

-- what a fault says: that a text is bad only where this holds
abbrev pub IsFaultOf : Type 0 → CacheFault → Type 0
IsFaultOf wrong Bad = wrong
IsFaultOf wrong Memory = Unit {0}
