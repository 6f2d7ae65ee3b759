-- What stands first in a stream whose first line announces a block.
use Rattle.std.proofs.Common.{ℕ, ◌+◌, ◌≡◌, ◌<◌, ◌≤◌, ◌⊎◌, inl, inr, List, [], length, take, drop, Option, Some, None, arith, refl, sym, ◌∙◌, subst}
use Rattle.std.specs.Prelude.{true, Result, Ok, Err, OnErr}
use Rattle.std.proofs.lemmas.Bool.{cases_order}
use Rattle.mc_text.specs.declared.commands.Command.{Command}
use Rattle.mc_text.specs.declared.commands.Command.TheVariants.{Stage, Sql}
use Rattle.mc_text.specs.declared.commands.Head.{Head}
use Rattle.mc_text.specs.declared.commands.Head.TheVariants as head
use Rattle.mc_text.specs.Words.{words_in}
use Rattle.mc_text.specs.Commands.{AreWords, announced, block_of, has_txn}
use Rattle.mc_text.specs.Streams.{EndsAt, IsLine, IsBlock, IsCommand, command, bad_line, long_line, bad_block, big_block, IsOpen, WantsMemory}
use Rattle.mc_text.specs.Telling.{SayTxn}
use Rattle.mc_text.specs.Parsing.{with_block}
use Rattle.mc_text.proofs.OnceLemmas.{announced_once, any_block, block_body}

-- a stream has one first line
pub line_once : (stream : List ℕ) (a b : ℕ) → IsLine stream a → IsLine stream b → a ≡ b
line_once stream a b h k = by (cases_order a b)
  where
    by : (a ≡ b) ⊎ ((a < b) ⊎ (b < a)) → a ≡ b
    by (inl e) = e
    by (inr (inl l)) = absurd (k.first a l h.ends)
    by (inr (inr l)) = absurd (h.first b l k.ends)

-- what a command announces, others of the same line announce
pub same_bytes : (stream : List ℕ) (a b : ℕ) (said other : Command) (bytes : ℕ) → IsLine stream a → IsLine stream b
    → AreWords said (words_in (take a stream)) → AreWords other (words_in (take b stream)) → announced said ≡ Some bytes → announced other ≡ Some bytes
same_bytes stream a b said other bytes h k says tells e =
    let line : b ≡ a = line_once stream b a k h in
    let again : AreWords other (words_in (take a stream)) = subst (λ (n : ℕ). AreWords other (words_in (take n stream))) line tells in
    announced_once other said (words_in (take a stream)) again says ∙ e

-- two numbers in options
pub some_once : (a b : ℕ) → Some a ≡ Some b → a ≡ b
some_once a b e = cc

-- a block that isn't whole
short_block : (stream : List ℕ) (behind bytes : ℕ) (found : Option ℕ) (block : List ℕ)
    → found ≡ Some bytes → length stream < behind + bytes + 2 → IsBlock stream behind found block → ⊥
short_block stream behind bytes None block e short h = absurd cc
short_block stream behind bytes (Some other) block e short h =
    let same = some_once other bytes e in let whole = h.1.whole in absurd (omega arith)

-- while the block that the first line announces isn't whole, nothing stands
pub open_block : (stream : List ℕ) (long bytes : ℕ) (said : Command)
    → IsLine stream long → AreWords said (words_in (take long stream)) → announced said ≡ Some bytes
    → bytes ≤ 1048576 → length stream < long + 2 + bytes + 2 → IsOpen stream
open_block stream long bytes said line says e small short (command other) taken h =
    let same = line_once stream h.long long h.line line in
    short_block stream (h.long + 2) bytes (announced other) (block_of other)
    (same_bytes stream long h.long said other bytes line h.line says h.says e) (omega arith) h.block
open_block stream long bytes said line says e small short bad_line taken h =
    let same = line_once stream long h.long line h.line in
    h.says.none said (subst (λ (n : ℕ). AreWords said (words_in (take n stream))) same says)
open_block stream long bytes said line says e small short long_line taken h = h.0.endless long line.short line.ends
open_block stream long bytes said line says e small short bad_block taken h =
    let b = h.0 in
    let same = line_once stream b.long long b.line.line line in
    let many = some_once b.bytes bytes (sym b.line.bytes_are ∙ same_bytes stream long b.long said b.line.command bytes line b.line.line says b.line.says e) in
    let there = b.there in
    absurd (omega arith)
open_block stream long bytes said line says e small short big_block taken h =
    let b = h.0 in
    let many = some_once b.bytes bytes (sym b.line.bytes_are ∙ same_bytes stream long b.long said b.line.command bytes line b.line.line says b.line.says e) in
    let big = b.big in
    absurd (omega arith)

-- a whole block makes the command of its line
pub block_command : (stream : List ℕ) (long bytes : ℕ) (front : Head) (block : List ℕ)
    → IsLine stream long → AreWords (with_block front []) (words_in (take long stream))
    → announced (with_block front []) ≡ Some bytes → bytes ≤ 1048576 → EndsAt stream (long + 2 + bytes) → block ≡ take bytes (drop (long + 2) stream)
    → IsCommand stream (with_block front block) (long + 2 + bytes + 2)
block_command stream long bytes (head.Set key flags exptime many token stamp) block line says e small ends is =
    let same : many ≡ bytes = some_once many bytes e in
    record {
      long = long;
      line = line;
      says = any_block (head.Set key flags exptime many token stamp) block (words_in (take long stream)) says;
      block = rw same (small, ends, is);
      taken_is = omega arith;
    }
block_command stream long bytes (head.Sar key flags exptime many sid) block line says e small ends is =
    let same : many ≡ bytes = some_once many bytes e in
    record {
      long = long;
      line = line;
      says = any_block (head.Sar key flags exptime many sid) block (words_in (take long stream)) says;
      block = rw same (small, ends, is);
      taken_is = omega arith;
    }

-- where memory is wanted for the block of a line, the block is whole
pub block_wants : {A B : Type 0} (stream : List ℕ) (long bytes : ℕ) (front : Head) (read : Result A B)
    → IsLine stream long → AreWords (with_block front []) (words_in (take long stream))
    → announced (with_block front []) ≡ Some bytes → bytes ≤ 1048576 → EndsAt stream (long + 2 + bytes) → OnErr read (WantsMemory stream)
block_wants stream long bytes front (Ok value) line says e small ends = tt
block_wants stream long bytes front (Err fault) line says e small ends =
    let block = take bytes (drop (long + 2) stream) in
    record {
      said = with_block front block;
      taken = long + 2 + bytes + 2;
      stands = block_command stream long bytes front block line says e small ends refl;
      body = block_body front block;
    }

-- a line with a transaction is a whole command
pub line_wants : {A B : Type 0} (stream : List ℕ) (long : ℕ) (read : Result A B)
    → IsLine stream long → SayTxn (words_in (take long stream)) → OnErr read (WantsMemory stream)
line_wants stream long (Ok value) line s = tt
line_wants stream long (Err fault) line s = by s.said s.says s.txn
  where
    by : (said : Command) → AreWords said (words_in (take long stream)) → has_txn said ≡ true → WantsMemory stream
    by (Stage key sid txn) says is = record {
      said = Stage key sid txn;
      taken = long + 2;
      stands = record { long = long; line = line; says = says; block = refl; taken_is = omega arith };
      body = refl;
    }
    by (Sql sid txn) says is = record {
      said = Sql sid txn;
      taken = long + 2;
      stands = record { long = long; line = line; says = says; block = refl; taken_is = omega arith };
      body = refl;
    }
    by other says is = absurd cc
