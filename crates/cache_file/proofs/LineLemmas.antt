-- The first line of a cache's text has no LF, so it is told by the bytes, as is the body behind it.
use Rattle.std.proofs.Common.{ℕ, zero, suc, ◌≡◌, ◌≢◌, ◌<◌, ◌^◌, ◌==◌, true, false, List, [], ◌∷◌, ◌++◌, length, map, decimal, slice_index, ◌/◌, ◌%◌}
use Rattle.std.proofs.Common.{arith, refl, sym, ap, ◌∙◌, eq-eqb, subst}
use Rattle.std.specs.Prelude.{codes, All}
use Rattle.std.specs.List.{list_any}
use Rattle.std.proofs.lemmas.Bool.{or_parts}
use Rattle.std.proofs.lemmas.List.Elements.{All-nil, All-cons, All-head, All-tail, All-append}
use Rattle.hex.specs.Hex.{encode_with, encode_lower, lower_digits}
use Rattle.sha2.specs.Sha256.{sha256}
use Rattle.shard_dump.specs.declared.rows.Dump.{Dump}
use Rattle.shard_dump.specs.Texts.{dump_text}
use Rattle.shard_dump.proofs.TextLemmas.{cut_once, none_in_decimal, has_it}
use Rattle.cache_file.specs.Texts.{body_text, head_text, cache_text, IsCacheText, IsNoCache}
use Rattle.cache_file.specs.Reading.{IsBody, IsNoBody}
use Rattle.cache_file.proofs.PartLemmas.{one_body}

-- a text that a test finds to be without a byte
none_by : (byte : ℕ) (text : List ℕ) → list_any (λ b. b == byte) text ≡ false → All (λ b. b ≢ byte) text
none_by byte [] e = All-nil (λ (b : ℕ). b ≢ byte)
none_by byte (c ∷ text) e =
    let parts = or_parts (c == byte) (list_any (λ b. b == byte) text) e in
    All-cons (λ (b : ℕ). b ≢ byte) c text (λ same. let yes : (c == byte) ≡ true = eq-eqb c byte same in let clash : true ≡ false = sym yes ∙ parts.0 in cc)
    (none_by byte text parts.1)

-- nor has a place of such a text the byte, nor what is read past its end, which is 0
none_at : (byte : ℕ) (text : List ℕ) (place : ℕ) → 0 < byte → All (λ b. b ≢ byte) text → slice_index text place ≢ byte
none_at byte [] place some h e = omega (arith, e)
none_at byte (c ∷ text) zero some h e = All-head (λ (b : ℕ). b ≢ byte) c text h e
none_at byte (c ∷ text) (suc place) some h e = none_at byte text place some (All-tail (λ (b : ℕ). b ≢ byte) c text h) e

-- bytes written in digits without LF have none
none_in_digits : (digits bytes : List ℕ) → All (λ b. b ≢ 10) digits → All (λ b. b ≢ 10) (encode_with digits bytes)
unfolding encode_with
none_in_digits digits [] h = All-nil (λ (b : ℕ). b ≢ 10)
none_in_digits digits (b ∷ bytes) h =
    All-cons (λ (b : ℕ). b ≢ 10) (slice_index digits (b / 16)) (slice_index digits (b % 16) ∷ encode_with digits bytes) (none_at 10 digits (b / 16) (omega arith) h)
    (All-cons (λ (b : ℕ). b ≢ 10) (slice_index digits (b % 16)) (encode_with digits bytes) (none_at 10 digits (b % 16) (omega arith) h) (none_in_digits digits bytes h))

-- the first line has no LF
pub none_in_head : (shards : ℕ) (body : List ℕ) → shards < 2 ^ 64 → All (λ b. b ≢ 10) (head_text shards body)
none_in_head shards body small =
    All-append (λ (b : ℕ). b ≢ 10) (codes "iqcache 1 ") (decimal shards ++ 32 ∷ encode_lower (sha256 body)) (none_by 10 (codes "iqcache 1 ") refl)
    (All-append (λ (b : ℕ). b ≢ 10) (decimal shards) (32 ∷ encode_lower (sha256 body)) (none_in_decimal 10 shards (omega arith) small)
    (All-cons (λ (b : ℕ). b ≢ 10) 32 (encode_lower (sha256 body)) (λ e. omega (arith, e)) (none_in_digits lower_digits (sha256 body) (none_by 10 lower_digits refl))))

-- the texts of dumps are as many as these
map_long : (dumps : List Dump) → length (map dump_text dumps) ≡ length dumps
map_long [] = refl
map_long (d ∷ dumps) = ap suc (map_long dumps)

-- the text of a cache is its first line over its body
pub cache_regrouped : (count : ℕ) (dumps : List Dump) → length dumps ≡ count
    → cache_text (map dump_text dumps) ≡ head_text count (body_text (map dump_text dumps)) ++ 10 ∷ body_text (map dump_text dumps)
cache_regrouped count dumps e =
    ap (λ (n : ℕ). head_text n (body_text (map dump_text dumps)) ++ 10 ∷ body_text (map dump_text dumps)) (map_long dumps ∙ e)

-- where a text is cut at its first LF, and a cache's: the body is the cache's, and the first line is that over it
pub line_cut : (count : ℕ) (text line body : List ℕ) (dumps : List Dump) → count < 2 ^ 64 → text ≡ line ++ 10 ∷ body → All (λ b. b ≢ 10) line
    → IsCacheText count text dumps → (line ≡ head_text count body) × IsBody count body dumps
line_cut count text line body dumps small cut none h =
    let once = cut_once 10 line (head_text count (body_text (map dump_text dumps))) body (body_text (map dump_text dumps)) none
    (none_in_head count (body_text (map dump_text dumps)) small) (sym cut ∙ (h.written ∙ cache_regrouped count dumps h.are.all)) in
    (once.0 ∙ ap (head_text count) (sym once.1), record { are = h.are; written = once.1 })

-- and where the line is that over the body, and the body is one, the text is a cache's
pub line_joined : (count : ℕ) (text line body : List ℕ) (dumps : List Dump) → text ≡ line ++ 10 ∷ body → line ≡ head_text count body
    → IsBody count body dumps → IsCacheText count text dumps
line_joined count text line body dumps cut right h =
    record {
      are = h.are;
      written = cut ∙ ap (λ (l : List ℕ). l ++ 10 ∷ body) right
          ∙ ap (λ (b : List ℕ). head_text count b ++ 10 ∷ b) h.written ∙ sym (cache_regrouped count dumps h.are.all);
    }

-- a text without LF is no cache's
pub no_line : (count : ℕ) (text : List ℕ) → All (λ b. b ≢ 10) text → IsNoCache count text
no_line count text none dumps h =
    let body : List ℕ = body_text (map dump_text dumps) in
    has_it 10 (head_text (length (map dump_text dumps)) body) body (subst (All (λ (b : ℕ). b ≢ 10)) h.written none)

-- nor one whose first line isn't that over what stands behind it
pub other_line : (count : ℕ) (text line body : List ℕ) → count < 2 ^ 64 → text ≡ line ++ 10 ∷ body → All (λ b. b ≢ 10) line → (line ≡ head_text count body → ⊥) → IsNoCache count text
other_line count text line body small cut none other dumps h = other (line_cut count text line body dumps small cut none h).0

-- nor one whose body is no cache's
pub no_body : (count : ℕ) (text line body : List ℕ) → count < 2 ^ 64 → text ≡ line ++ 10 ∷ body → All (λ b. b ≢ 10) line → IsNoBody count body → IsNoCache count text
no_body count text line body small cut none other dumps h = other dumps (line_cut count text line body dumps small cut none h).1

-- a text is that of one cache
pub one_cache : (count : ℕ) (text line body : List ℕ) (a b : List Dump) → count < 2 ^ 64 → length body < 2 ^ 64 → text ≡ line ++ 10 ∷ body → All (λ b. b ≢ 10) line
    → IsBody count body a → IsCacheText count text b → a ≡ b
one_cache count text line body a b small short cut none h k = one_body count body a b short h (line_cut count text line body b small cut none k).1
