use Rattle.std.proofs.Common.{◌≡◌, ℕ, ◌%◌, List, [], ◌∷◌, ◌++◌, decimal, refl, sym, ap, ◌∙◌}
use Rattle.rows_model.specs.Key.{key_text, word_of}
use Rattle.rows_model.specs.Placement.{hash_from, hash_of, shard_of, hashed, start_of}
use Rattle.rows_model.proofs.KeyLemmas.{key_text_is}
use Rattle.rows_model.proofs.placement.shard_number.Goals as goal

-- a hash goes on over more bytes
hash_from-append : (hash : ℕ) (front rest : List ℕ) → hash_from hash (front ++ rest) ≡ hash_from (hash_from hash front) rest
hash_from-append hash [] rest = refl
hash_from-append hash (byte ∷ front) rest = hash_from-append (hashed hash byte) front rest

pub returns : goal.returns
unfolding shard_of hash_of
returns c =
    let key = c.args.key.now in
    let digits : c.as_bytes-digits.result.now ≡ decimal key.id = c.as_bytes-digits.ensures.value ∙ c.format.ensures.text in
    let hash : c.hashed.result ≡ hash_from (start_of key.kind) (decimal key.id) =
    c.hashed.ensures ∙ ap (λ n. hash_from n c.as_bytes-digits.result.now) c.start.ensures ∙ ap (λ (d : List ℕ). hash_from (start_of key.kind) d) digits in
    let whole : c.hashed.result ≡ hash_from 14695981039346656037 (key_text key) =
    hash ∙ sym (hash_from-append 14695981039346656037 (word_of key.kind) (58 ∷ decimal key.id))
    ∙ ap (λ (t : List ℕ). hash_from 14695981039346656037 t) (sym (key_text_is key)) in
    ap (λ (h : ℕ). h % c.from.result) whole
    ∙ ap (λ (n : ℕ). hash_from 14695981039346656037 (key_text key) % n) c.from.ensures
