-- Shards of which each has its place for its number.
use Rattle.std.proofs.Common.{ℕ, zero, suc, ◌+◌, ◌≡◌, ◌<◌, ◌≤◌, List, [], ◌∷◌, ◌++◌, length, All, Option, Some, slice_get, refl, sym, ap, ◌∙◌, arith}
use Rattle.std.proofs.lemmas.Bool.{false≢true}
use Rattle.std.proofs.lemmas.List.Elements.{All-get_or, All-from_get_or}
use Rattle.std.proofs.lemmas.Option.{slice_get-get_or}
use Rattle.std.specs.Prelude.{get_or, is_some, unwrap_or}
use Rattle.key_shard.specs.Past.{Terms}
use Rattle.key_shard.specs.Shards.{ShardView}
use Rattle.shard_lock.specs.Names.{AreAll, ArePlaced, HaveCount, IsNamed}

-- the number of each is that of its place, counted from the start
abbrev ArePlacedFrom : ℕ → List ShardView → Type 0
ArePlacedFrom start shards =
    (place : ℕ) (shard : ShardView) → slice_get shards place ≡ Some shard → shard.terms.no ≡ start + place

same : (one other : ShardView) → Some one ≡ Some other → one ≡ other
same one other e = ap (λ (o : Option ShardView). unwrap_or o one) e

-- one more, with the next number
placed_more : (shards : List ShardView) (new : ShardView) (start : ℕ) → ArePlacedFrom start shards → new.terms.no ≡ start + length shards
    → ArePlacedFrom start (shards ++ new ∷ [])
placed_more [] new start placed next zero shard at =
    let is = ap (λ (s : ShardView). s.terms.no) (same new shard at) in omega (arith, is, next)
placed_more [] new start placed next (suc place) shard at =
    absurd (false≢true (ap (λ (o : Option ShardView). is_some o) at))
placed_more (first ∷ rest) new start placed next zero shard at = placed zero shard at
placed_more (first ∷ rest) new start placed next (suc place) shard at =
    let behind : ArePlacedFrom (suc start) rest = λ p s e. let is = placed (suc p) s e in omega (arith, is) in
    let is = placed_more rest new (suc start) behind (omega (arith, next)) place shard at in
    omega (arith, is)

-- and so from the first place on
pub placed_next : (shards : List ShardView) (new : ShardView) → ArePlaced shards → new.terms.no ≡ length shards → ArePlaced (shards ++ new ∷ [])
placed_next shards new placed next = λ place shard at.
    let all : ArePlacedFrom 0 shards = λ p s e. let is = placed p s e in omega (arith, is) in
    let is = placed_more shards new 0 all (omega (arith, next)) place shard at in
    omega (arith, is)

-- a shard has its place in a longer list too
longer_at : (shards more : List ShardView) (place : ℕ) (shard : ShardView) → slice_get shards place ≡ Some shard → slice_get (shards ++ more) place ≡ Some shard
longer_at [] more place shard at = absurd (false≢true (ap (λ (o : Option ShardView). is_some o) at))
longer_at (first ∷ rest) more zero shard at = at
longer_at (first ∷ rest) more (suc place) shard at = longer_at rest more place shard at

last_at : (shards : List ShardView) (last : ShardView) → slice_get (shards ++ last ∷ []) (length shards) ≡ Some last
last_at [] last = refl
last_at (first ∷ rest) last = last_at rest last

-- without the last they are still placed, and it had the place behind them
pub placed_before : (shards : List ShardView) (last : ShardView) → ArePlaced (shards ++ last ∷ []) → ArePlaced shards × (last.terms.no ≡ length shards)
placed_before shards last placed = (
  λ place shard at. placed place shard (longer_at shards (last ∷ []) place shard at),
  placed (length shards) last (last_at shards last),
)

-- whoever is named for a place among them has their number for its count
pub have_count : (terms : ℕ → Terms) (shards : List ShardView) → AreAll terms shards → HaveCount terms (length shards)
have_count terms [] all = λ no below. absurd (omega (arith, below))
have_count terms (first ∷ rest) all = λ no below.
    let shards = first ∷ rest in
    let shard = get_or shards no first in
    let is : shard.terms ≡ terms shard.terms.no = All-get_or (IsNamed terms) shards no first below all.named in
    let placed : shard.terms.no ≡ no = all.placed no shard (slice_get-get_or shards no first below) in
    let counted : shard.terms.count ≡ length shards = All-get_or (λ (s : ShardView). s.terms.count ≡ length shards) shards no first below all.counted in
    ap (λ (n : ℕ). (terms n).count) (sym placed) ∙ sym (ap (λ (t : Terms). t.count) is) ∙ counted

-- so shards that are named and placed are all there are
pub are_all : (terms : ℕ → Terms) (shards : List ShardView) → 1 ≤ length shards → HaveCount terms (length shards)
    → All (IsNamed terms) shards → ArePlaced shards → AreAll terms shards
are_all terms [] some have named placed = absurd (omega (arith, some))
are_all terms (first ∷ rest) some have named placed =
    let shards = first ∷ rest in
    let counted : (place : ℕ) → place < length shards → (get_or shards place first).terms.count ≡ length shards = λ place below.
    let shard = get_or shards place first in
    let is : shard.terms ≡ terms shard.terms.no = All-get_or (IsNamed terms) shards place first below named in
    let at : shard.terms.no ≡ place = placed place shard (slice_get-get_or shards place first below) in
    ap (λ (t : Terms). t.count) is ∙ ap (λ (n : ℕ). (terms n).count) at ∙ have place below in
    record {
      some = some;
      named = named;
      counted = All-from_get_or (λ (s : ShardView). s.terms.count ≡ length shards) shards first counted;
      placed = placed;
    }
