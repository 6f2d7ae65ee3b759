use Rattle.std.specs.Prelude.{ℕ, ◌*◌, ◌%◌, ◌^◌, List, [], ◌∷◌, bit_xor}
use Rattle.rows_model.specs.declared.keys.Kind.{Kind}
use Rattle.rows_model.specs.declared.keys.QKey.{QKey}
use Rattle.rows_model.specs.Key.{key_text, word_of}

-- a hash after one more byte: FNV-1a of 64 bits
abbrev pub hashed : ℕ → ℕ → ℕ
hashed hash byte = (bit_xor hash byte * 1099511628211) % 2 ^ 64

-- a hash after these bytes, in order
abbrev pub hash_from : ℕ → List ℕ → ℕ
hash_from hash [] = hash
hash_from hash (byte ∷ bytes) = hash_from (hashed hash byte) bytes

-- the hash of a text
unfoldable pub hash_of : List ℕ → ℕ
hash_of text = hash_from 14695981039346656037 text

-- the shard of a key, of so many
unfoldable pub shard_of : QKey → ℕ → ℕ
shard_of key count = hash_of (key_text key) % count

-- the hash of what stands before the id in the text of each key of a kind
abbrev pub start_of : Kind → ℕ
start_of kind = hash_from (hash_from 14695981039346656037 (word_of kind)) (58 ∷ [])
