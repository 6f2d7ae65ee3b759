-- How many bytes stand at most where nothing whole does, by the grammar of lease commands.
use Rattle.std.proofs.Common.{ℕ, ◌+◌, ◌≡◌, ◌<◌, ◌≤◌, ◌⊎◌, inl, inr, List, [], ◌∷◌, length, take, drop, Option, Some, None, arith, refl, sym, subst, ◌∙◌}
use Rattle.std.specs.Prelude.{zero, suc, slice_index}
use Rattle.std.proofs.lemmas.Bool.{cases_eq, cases_lt}
use Rattle.mc_text.specs.declared.commands.Command.{Command}
use Rattle.mc_text.specs.declared.commands.Command.TheVariants.{IqSet, Sar, Unknown}
use Rattle.mc_text.specs.Words.{words_in}
use Rattle.mc_text.specs.Commands.{AreWords, AreUnknown, announced, block_of}
use Rattle.mc_text.specs.Streams.{EndsAt, IsLine, IsBlock, block_size, Announces, HaveVerb, Item, command, bad_line, long_line, bad_block, big_block}
use Rattle.mc_text.specs.Streams.{IsFirst, IsOpen}

-- a block that may be has no more bytes than this
block_bound : (stream : List ℕ) (behind : ℕ) (found : Option ℕ) (block : List ℕ) → IsBlock stream behind found block → block_size found ≤ 1048578
block_bound stream behind None block h = omega arith
block_bound stream behind (Some bytes) block h = let small = h.0 in omega arith

pub stands_bound : (stream : List ℕ) (item : Item) (taken : ℕ) → IsFirst stream item taken → taken ≤ 1050628
stands_bound stream (command said) taken h =
    let short = h.line.short in
    let small = block_bound stream (h.long + 2) (announced said) (block_of said) h.block in
    omega (arith, h.taken_is)
stands_bound stream bad_line taken h = let short = h.line.short in omega (arith, h.taken_is)
stands_bound stream long_line taken h = omega (arith, h.1)
stands_bound stream bad_block taken h = omega (arith, h.1)
stands_bound stream big_block taken h = omega (arith, h.1)

-- a CR LF begins at a place or doesn't
pub ends_or_not : (stream : List ℕ) (place : ℕ) → EndsAt stream place ⊎ (EndsAt stream place → ⊥)
ends_or_not stream place = by (cases_lt (place + 1) (length stream)) (cases_eq (slice_index stream place) 13) (cases_eq (slice_index stream (place + 1)) 10)
  where
    by : ((place + 1 < length stream) ⊎ (length stream ≤ place + 1))
        → ((slice_index stream place ≡ 13) ⊎ (slice_index stream place ≡ 13 → ⊥))
        → ((slice_index stream (place + 1) ≡ 10) ⊎ (slice_index stream (place + 1) ≡ 10 → ⊥))
        → EndsAt stream place ⊎ (EndsAt stream place → ⊥)
    by (inl whole) (inl cr) (inl lf) = inl (record { whole = whole; cr = cr; lf = lf })
    by (inr short) cr lf = inr (λ e. let whole = e.whole in absurd (omega arith))
    by whole (inr other) lf = inr (λ e. other e.cr)
    by whole cr (inr other) = inr (λ e. other e.lf)

-- the first CR LF that begins before a place
record FirstEnd (stream : List ℕ) (below : ℕ) : Type 0 where
  long : ℕ
  ends : EndsAt stream long
  first : (place : ℕ) → place < long → EndsAt stream place → ⊥
  within : long < below

-- none begins before a place
abbrev NoEnd : List ℕ → ℕ → Type 0
NoEnd stream below = (place : ℕ) → place < below → EndsAt stream place → ⊥

one_more : (stream : List ℕ) (below : ℕ) → NoEnd stream below → (EndsAt stream below → ⊥) → NoEnd stream (suc below)
one_more stream below none here place l e = by (cases_lt place below)
  where
    by : (place < below) ⊎ (below ≤ place) → ⊥
    by (inl lower) = none place lower e
    by (inr upper) = let same : place ≡ below = omega arith in here (subst (λ (at : ℕ). EndsAt stream at) same e)

first_end : (stream : List ℕ) (below : ℕ) → FirstEnd stream below ⊎ NoEnd stream below
first_end stream zero = inr (λ place l e. absurd (omega arith))
first_end stream (suc below) = by (first_end stream below) (ends_or_not stream below)
  where
    by : FirstEnd stream below ⊎ NoEnd stream below → EndsAt stream below ⊎ (EndsAt stream below → ⊥) → FirstEnd stream (suc below) ⊎ NoEnd stream (suc below)
    by (inl f) here = let l = f.within in inl (record { long = f.long; ends = f.ends; first = f.first; within = omega arith })
    by (inr none) (inl e) = inl (record { long = below; ends = e; first = none; within = omega arith })
    by (inr none) (inr not_here) = inr (one_more stream below none not_here)

-- a command that announces no block has none
no_block : (said : Command) → announced said ≡ None → block_of said ≡ []
no_block (IqSet key flags exptime bytes token stamp block) e = absurd cc
no_block (Sar key flags exptime bytes sid block) e = absurd cc
no_block other e = refl

-- the words of a command say one with any other block too
record WithBlock (said : Command) (words : List (List ℕ)) (block : List ℕ) : Type 0 where
  other : Command
  says : AreWords other words
  same : announced other ≡ announced said
  is : block_of other ≡ block

with_set : (said : Command) (bytes : ℕ) (words : List (List ℕ)) (block : List ℕ) → AreWords said words → announced said ≡ Some bytes
    → WithBlock said words block
with_set said bytes [] block says e = absurd (none said says e)
  where
    none : (c : Command) → AreWords c [] → announced c ≡ Some bytes → ⊥
    none Unknown h f = cc
    none c h f = h
with_set (IqSet key flags exptime bytes' token stamp old) bytes (word ∷ words) block says e =
    record { other = IqSet key flags exptime bytes' token stamp block; says = says; same = refl; is = refl }
with_set (Sar key flags exptime bytes' sid old) bytes (word ∷ words) block says e =
    record { other = Sar key flags exptime bytes' sid block; says = says; same = refl; is = refl }
with_set other bytes (word ∷ words) block says e = absurd cc

-- words without a verb in front say the command that is none
unknown_by : (words : List (List ℕ)) → (HaveVerb words → ⊥) → AreUnknown words
unknown_by [] none = tt
unknown_by (word ∷ words) none = λ row is. none (row, is)

-- a stream that has as many bytes as a command may have, and whose first line is here
shut_command : (stream : List ℕ) (long : ℕ) (said : Command) (found : Option ℕ) → 1050628 ≤ length stream → IsLine stream long
    → AreWords said (words_in (take long stream)) → announced said ≡ found → IsOpen stream → ⊥
shut_command stream long said None many line says e is_open =
    is_open (command said) (long + 2) (record {
      long = long;
      line = line;
      says = says;
      block = subst (λ (f : Option ℕ). IsBlock stream (long + 2) f (block_of said)) (sym e) (no_block said e);
      taken_is = subst (λ (f : Option ℕ). long + 2 ≡ long + 2 + block_size f) (sym e) (omega arith);
    })
shut_command stream long said (Some bytes) many line says e is_open = by (cases_lt 1048576 bytes) (ends_or_not stream (long + 2 + bytes))
  where
    announces : Announces stream long bytes
    announces = record { line = line; command = said; says = says; bytes_are = e }

    by : ((1048576 < bytes) ⊎ (bytes ≤ 1048576)) → EndsAt stream (long + 2 + bytes) ⊎ (EndsAt stream (long + 2 + bytes) → ⊥) → ⊥
    by (inl big) here = is_open big_block 0 (record { long = long; bytes = bytes; line = announces; big = big }, refl)
    by (inr small) (inr wrong) =
        let short = line.short in
        is_open bad_block 0 (record { long = long; bytes = bytes; line = announces; small = small; there = omega arith; wrong = wrong }, refl)
    by (inr small) (inl ends) =
        let block : List ℕ = take bytes (drop (long + 2) stream) in
        let same = with_set said bytes (words_in (take long stream)) block says e in
        let tells : announced same.other ≡ Some bytes = same.same ∙ e in
        is_open (command same.other) (long + 2 + (bytes + 2)) (record {
          long = long;
          line = line;
          says = same.says;
          block = subst (λ (f : Option ℕ). IsBlock stream (long + 2) f (block_of same.other)) (sym tells) (small, ends, same.is);
          taken_is = subst (λ (f : Option ℕ). long + 2 + (bytes + 2) ≡ long + 2 + block_size f) (sym tells) refl;
        })

shut_line : (stream : List ℕ) (long : ℕ) → 1050628 ≤ length stream → IsLine stream long → IsOpen stream → ⊥
shut_line stream long many line is_open =
    let none : (said : Command) → AreWords said (words_in (take long stream)) → ⊥ =
    λ said says. shut_command stream long said (announced said) many line says refl is_open in
    none Unknown (unknown_by (words_in (take long stream))
    (λ verb. is_open bad_line (long + 2) (record { long = long; line = line; says = record { verb = verb; none = none }; taken_is = refl })))

-- where nothing whole stands, fewer bytes stand than a command may have
pub open_bound : (stream : List ℕ) → IsOpen stream → length stream < 1050628
open_bound stream is_open = by (cases_lt (length stream) 1050628)
  where
    many : 1050628 ≤ length stream → FirstEnd stream 2049 ⊎ NoEnd stream 2049 → ⊥
    many l (inl f) = let within = f.within in shut_line stream f.long l (record { ends = f.ends; first = f.first; short = omega arith }) is_open
    many l (inr none) = is_open long_line 0 (record { enough = omega arith; endless = λ place le e. none place (omega arith) e }, refl)

    by : (length stream < 1050628) ⊎ (1050628 ≤ length stream) → length stream < 1050628
    by (inl few) = few
    by (inr l) = absurd (many l (first_end stream 2049))
