-- The ends of lines among the bytes of a stream that are searched for a line feed.
use Rattle.std.proofs.Common.{ℕ, ◌+◌, ◌-◌, ◌≡◌, ◌<◌, ◌≤◌, ◌⊎◌, inl, inr, true, List, length, take, drop, get_or, get_or-take, get_or-drop, length-take, length-drop, arith, refl, sym, ◌∙◌}
use Rattle.std.proofs.lemmas.Bool.{cases_order}
use Rattle.std.proofs.lemmas.Bool.Decides.{nat_tests}
use Rattle.memchr.specs.Find.{Nowhere, Passes, is_byte}
use Rattle.mc_text.specs.Streams.{EndsAt, IsLine}

-- the bytes that are searched from a place on
abbrev pub searched : List ℕ → ℕ → ℕ → ℕ → List ℕ
searched stream near from many = take many (drop from (take near stream))

-- are those of the stream
pub searched_byte : (stream : List ℕ) (near from many k : ℕ) → k < many → from + k < near
    → get_or (searched stream near from many) k 0 ≡ get_or stream (from + k) 0
searched_byte stream near from many k within inside =
    get_or-take many (drop from (take near stream)) k 0 within
    ∙ (get_or-drop from (take near stream) k 0 ∙ get_or-take near stream (from + k) 0 inside)

-- a byte that was searched for is a line feed
pub feed_byte : (byte : ℕ) → is_byte 10 byte ≡ true → byte ≡ 10
feed_byte byte e = grind (arith, nat_tests)

-- where no line feed stands among them, no line ends
pub no_end : (stream : List ℕ) (near from many to : ℕ)
    → Nowhere (Passes (is_byte 10) (searched stream near from many)) 0 to → to ≤ many → from + to ≤ near
    → (place : ℕ) → from ≤ place + 1 → place + 1 < from + to → EndsAt stream place → ⊥
no_end stream near from many to none inside fits place low high e =
    let k = place + 1 - from in
    let there : from + k ≡ place + 1 = omega arith in
    let byte : get_or (searched stream near from many) k 0 ≡ 10 =
    searched_byte stream near from many k (omega arith) (omega arith) ∙ rw there e.lf in
    none k (omega arith) (omega arith) (rw byte refl)

-- how many bytes are searched
pub searched_long : (stream : List ℕ) (near from : ℕ) → near ≤ length stream
    → length (searched stream near from (length (take near stream) - from)) ≡ near - from
searched_long stream near from fits =
    let long = length-take near stream in
    let rest = length-drop from (take near stream) in
    let all = length-take (length (take near stream) - from) (drop from (take near stream)) in
    omega arith

-- a line ends behind the carriage return that stands before the first line feed
pub first_end : (stream : List ℕ) (near feed : ℕ) → near ≤ 2050 → near ≤ length stream → feed < near → 0 < feed
    → get_or (take near stream) (feed - 1) 0 ≡ 13 → get_or stream feed 0 ≡ 10
    → ((place : ℕ) → place + 1 < feed → EndsAt stream place → ⊥) → IsLine stream (feed - 1)
first_end stream near feed small fits inside some cr lf none =
    let back : feed - 1 + 1 ≡ feed = omega arith in
    record {
      ends = record {
        whole = omega arith;
        cr = sym (get_or-take near stream (feed - 1) 0 (omega arith)) ∙ cr;
        lf = rw back lf;
      };
      first = λ place l e. none place (omega arith) e;
      short = omega arith;
    }

-- what was searched so far, up to the first line feed from a place on
pub no_end_before : (stream : List ℕ) (near from many behind : ℕ)
    → Nowhere (Passes (is_byte 10) (searched stream near from many)) 0 behind → behind ≤ many → from + behind ≤ near
    → ((place : ℕ) → place + 1 < from → EndsAt stream place → ⊥)
    → (place : ℕ) → place + 1 < from + behind → EndsAt stream place → ⊥
no_end_before stream near from many behind none inside fits so_far place high e = by (cases_order (place + 1) from)
  where
    by : (place + 1 ≡ from) ⊎ ((place + 1 < from) ⊎ (from < place + 1)) → ⊥
    by (inl s) = no_end stream near from many behind none inside fits place (omega arith) high e
    by (inr (inl s)) = so_far place s e
    by (inr (inr s)) = no_end stream near from many behind none inside fits place (omega arith) high e

-- nor does one end with the line feed itself, where no carriage return stands before it
pub no_end_yet : (stream : List ℕ) (near feed : ℕ) → feed < near
    → (1 ≤ feed → get_or (take near stream) (feed - 1) 0 ≡ 13 → ⊥)
    → ((place : ℕ) → place + 1 < feed → EndsAt stream place → ⊥)
    → (place : ℕ) → place + 1 < feed + 1 → EndsAt stream place → ⊥
no_end_yet stream near feed inside alone so_far place high e = by (cases_order (place + 1) feed)
  where
    last : place + 1 ≡ feed → ⊥
    last s =
        let back : feed - 1 ≡ place = omega arith in
        alone (omega arith) (get_or-take near stream (feed - 1) 0 (omega arith) ∙ rw back e.cr)

    by : (place + 1 ≡ feed) ⊎ ((place + 1 < feed) ⊎ (feed < place + 1)) → ⊥
    by (inl s) = last s
    by (inr (inl s)) = so_far place s e
    by (inr (inr s)) = absurd (omega arith)
