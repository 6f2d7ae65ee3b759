-- What stands first in a stream: once, and whatever comes behind it.
use Rattle.std.proofs.Common.{ℕ, ◌+◌, ◌≡◌, ◌<◌, ◌≤◌, List, [], ◌∷◌, ◌++◌, length, take, drop, Option, Some, None, arith, refl, sym, ap, ◌∙◌, subst}
use Rattle.std.proofs.lemmas.List.{take-append-le, drop-append-le, get_or_append_left, drop-drop, length-append, length-drop}
use Rattle.mc_text.specs.declared.commands.Command.{Command}
use Rattle.mc_text.specs.Words.{words_in}
use Rattle.mc_text.specs.Commands.{AreWords, announced, block_of}
use Rattle.mc_text.specs.Streams.{EndsAt, IsLine, IsLong, IsBlock, block_size, IsCommand, AreBad, IsBadLine, Announces, Item, command}
use Rattle.mc_text.specs.Streams.{bad_line, long_line, bad_block, big_block, IsFirst, IsOpen, AreFirst}
use Rattle.mc_text.specs.Laws.{StreamsTellItems}
use Rattle.mc_text.proofs.OnceLemmas.{announced_once}
use Rattle.mc_text.proofs.TellLemmas.{words_once}
use Rattle.mc_text.proofs.FrontLemmas.{line_once, some_once, same_bytes}

-- a CR LF stays where it is
pub ends_more : (stream more : List ℕ) (place : ℕ) → EndsAt stream place → EndsAt (stream ++ more) place
ends_more stream more place h = record {
  whole = omega (arith, length-append stream more, h.whole);
  cr = get_or_append_left stream more 0 place (omega (arith, h.whole)) ∙ h.cr;
  lf = get_or_append_left stream more 0 (place + 1) h.whole ∙ h.lf;
}

-- and none comes about in bytes that are there
pub ends_less : (stream more : List ℕ) (place : ℕ) → place + 1 < length stream → EndsAt (stream ++ more) place → EndsAt stream place
ends_less stream more place inside h = record {
  whole = inside;
  cr = sym (get_or_append_left stream more 0 place (omega (arith, inside))) ∙ h.cr;
  lf = sym (get_or_append_left stream more 0 (place + 1) inside) ∙ h.lf;
}

pub line_more : (stream more : List ℕ) (long : ℕ) → IsLine stream long → IsLine (stream ++ more) long
line_more stream more long h = record {
  ends = ends_more stream more long h.ends;
  first = λ place l e. h.first place l (ends_less stream more place (omega (arith, h.ends.whole, l)) e);
  short = h.short;
}

-- the first line's bytes
pub line_bytes : (stream more : List ℕ) (long : ℕ) → IsLine stream long → take long (stream ++ more) ≡ take long stream
line_bytes stream more long h = take-append-le long stream more (omega (arith, h.ends.whole))

pub words_more : (P : List (List ℕ) → Type 0) (stream more : List ℕ) (long : ℕ)
    → IsLine stream long → P (words_in (take long stream)) → P (words_in (take long (stream ++ more)))
words_more P stream more long h p = subst (λ (bytes : List ℕ). P (words_in bytes)) (sym (line_bytes stream more long h)) p

pub block_more : (stream more : List ℕ) (behind : ℕ) (found : Option ℕ) (block : List ℕ)
    → IsBlock stream behind found block → IsBlock (stream ++ more) behind found block
block_more stream more behind None block h = h
block_more stream more behind (Some bytes) block h =
    let inside = h.1.whole in
    let cut : take bytes (drop behind (stream ++ more)) ≡ take bytes (drop behind stream) =
    ap (λ (xs : List ℕ). take bytes xs) (drop-append-le behind stream more (omega (arith, inside)))
    ∙ take-append-le bytes (drop behind stream) more (omega (arith, inside, length-drop behind stream)) in
    (h.0, ends_more stream more (behind + bytes) h.1, h.2 ∙ sym cut)

announces_more : (stream more : List ℕ) (long bytes : ℕ) → Announces stream long bytes → Announces (stream ++ more) long bytes
announces_more stream more long bytes h = record {
  line = line_more stream more long h.line;
  command = h.command;
  says = words_more (λ ws. AreWords h.command ws) stream more long h.line h.says;
  bytes_are = h.bytes_are;
}

-- what stands first stays first
pub stands_more : (stream more : List ℕ) (item : Item) (taken : ℕ) → IsFirst stream item taken → IsFirst (stream ++ more) item taken
stands_more stream more (command said) taken h = record {
  long = h.long;
  line = line_more stream more h.long h.line;
  says = words_more (λ ws. AreWords said ws) stream more h.long h.line h.says;
  block = block_more stream more (h.long + 2) (announced said) (block_of said) h.block;
  taken_is = h.taken_is;
}
stands_more stream more bad_line taken h = record {
  long = h.long;
  line = line_more stream more h.long h.line;
  says = words_more AreBad stream more h.long h.line h.says;
  taken_is = h.taken_is;
}
stands_more stream more long_line taken h = (
  record {
    enough = omega (arith, length-append stream more, h.0.enough);
    endless = λ place l e. h.0.endless place l (ends_less stream more place (omega (arith, h.0.enough, l)) e);
  },
  h.1,
)
stands_more stream more bad_block taken h =
    let b = h.0 in (
      record {
        long = b.long;
        bytes = b.bytes;
        line = announces_more stream more b.long b.bytes b.line;
        small = b.small;
        there = omega (arith, length-append stream more, b.there);
        wrong = λ e. b.wrong (ends_less stream more (b.long + 2 + b.bytes) b.there e);
      },
      h.1,
    )
stands_more stream more big_block taken h =
    let b = h.0 in
    (record { long = b.long; bytes = b.bytes; line = announces_more stream more b.long b.bytes b.line; big = b.big }, h.1)

-- it takes no more bytes than there are
pub block_fits : (stream : List ℕ) (behind : ℕ) (found : Option ℕ) (block : List ℕ)
    → behind ≤ length stream → IsBlock stream behind found block → behind + block_size found ≤ length stream
block_fits stream behind None block l h = omega arith
block_fits stream behind (Some bytes) block l h = let inside = h.1.whole in omega arith

pub stands_fit : (stream : List ℕ) (item : Item) (taken : ℕ) → IsFirst stream item taken → taken ≤ length stream
stands_fit stream (command said) taken h =
    let inside = h.line.ends.whole in
    let fit = block_fits stream (h.long + 2) (announced said) (block_of said) (omega arith) h.block in
    omega (arith, h.taken_is)
stands_fit stream bad_line taken h = let inside = h.line.ends.whole in omega (arith, h.taken_is)
stands_fit stream long_line taken h = omega (arith, h.1)
stands_fit stream bad_block taken h = omega (arith, h.1)
stands_fit stream big_block taken h = omega (arith, h.1)

-- the words of two readings of one line
same_words : (P : List (List ℕ) → Type 0) (stream : List ℕ) (a b : ℕ)
    → IsLine stream a → IsLine stream b → P (words_in (take b stream)) → P (words_in (take a stream))
same_words P stream a b h k p = subst (λ (n : ℕ). P (words_in (take n stream))) (line_once stream b a k h) p

-- one block
block_once : (stream : List ℕ) (behind behind' : ℕ) (found found' : Option ℕ) (block block' : List ℕ)
    → behind ≡ behind' → found ≡ found' → IsBlock stream behind found block → IsBlock stream behind' found' block' → block ≡ block'
block_once stream behind behind' None None block block' e f h k = h ∙ sym k
block_once stream behind behind' None (Some b) block block' e f h k = absurd cc
block_once stream behind behind' (Some a) None block block' e f h k = absurd cc
block_once stream behind behind' (Some a) (Some b) block block' e f h k =
    let same = some_once a b f in
    h.2 ∙ (ap (λ (n : ℕ). take n (drop behind stream)) same ∙ (ap (λ (n : ℕ). take b (drop n stream)) e ∙ sym k.2))

-- one command, of one length
command_once : (stream : List ℕ) (a b : Command) (m n : ℕ) → IsCommand stream a m → IsCommand stream b n → (a ≡ b) × (m ≡ n)
command_once stream a b m n h k =
    let line : h.long ≡ k.long = line_once stream h.long k.long h.line k.line in
    let again : AreWords b (words_in (take h.long stream)) = same_words (λ ws. AreWords b ws) stream h.long k.long h.line k.line k.says in
    let size : announced a ≡ announced b = announced_once a b (words_in (take h.long stream)) h.says again in
    let block =
    block_once stream (h.long + 2) (k.long + 2) (announced a) (announced b) (block_of a) (block_of b) (ap (λ (n : ℕ). n + 2) line) size h.block k.block in (
      words_once a b (words_in (take h.long stream)) h.says again block,
      h.taken_is ∙ (ap (λ (n : ℕ). n + 2 + block_size (announced a)) line ∙ (ap (λ (o : Option ℕ). k.long + 2 + block_size o) size ∙ sym k.taken_is)),
    )

-- a command's line isn't bad
command_not_bad : (stream : List ℕ) (a : Command) (m n : ℕ) → IsCommand stream a m → IsBadLine stream n → ⊥
command_not_bad stream a m n h k = k.says.none a (same_words (λ ws. AreWords a ws) stream k.long h.long k.line h.line h.says)

-- a line that announces a block isn't bad
announced_not_bad : (stream : List ℕ) (long bytes n : ℕ) → Announces stream long bytes → IsBadLine stream n → ⊥
announced_not_bad stream long bytes n h k =
    k.says.none h.command (same_words (λ ws. AreWords h.command ws) stream k.long long k.line h.line h.says)

-- a line isn't too long
pub not_long : (stream : List ℕ) (long : ℕ) → IsLine stream long → IsLong stream → ⊥
not_long stream long h k = k.endless long h.short h.ends

-- a line announces one size
size_once : (stream : List ℕ) (a b m n : ℕ) → Announces stream a m → Announces stream b n → (a ≡ b) × (m ≡ n)
size_once stream a b m n h k = (
  line_once stream a b h.line k.line,
  some_once m n (sym h.bytes_are ∙ same_bytes stream b a k.command h.command n k.line h.line k.says h.says k.bytes_are),
)

-- a command whose line announces a block has it
block_there : (stream : List ℕ) (a : Command) (long bytes m : ℕ)
    → IsCommand stream a m → Announces stream long bytes → (bytes ≤ 1048576) × EndsAt stream (long + 2 + bytes)
block_there stream a long bytes m h k =
    let line : h.long ≡ long = line_once stream h.long long h.line k.line in
    let size : announced a ≡ Some bytes = same_bytes stream long h.long k.command a bytes k.line h.line k.says h.says k.bytes_are in
    let there : IsBlock stream (h.long + 2) (Some bytes) (block_of a) = subst (λ (o : Option ℕ). IsBlock stream (h.long + 2) o (block_of a)) size h.block in
    (there.0, subst (λ (n : ℕ). EndsAt stream (n + 2 + bytes)) line there.1)

-- one item stands first
stands_once : (stream : List ℕ) (a b : Item) (m n : ℕ) → IsFirst stream a m → IsFirst stream b n → (a ≡ b) × (m ≡ n)
stands_once stream (command a) (command b) m n h k =
    let same = command_once stream a b m n h k in (ap (λ (c : Command). command c) same.0, same.1)
stands_once stream (command a) bad_line m n h k = absurd (command_not_bad stream a m n h k)
stands_once stream (command a) long_line m n h k = absurd (not_long stream h.long h.line k.0)
stands_once stream (command a) bad_block m n h k = absurd (k.0.wrong (block_there stream a k.0.long k.0.bytes m h k.0.line).1)
stands_once stream (command a) big_block m n h k = let small =
    (block_there stream a k.0.long k.0.bytes m h k.0.line).0 in let big = k.0.big in absurd (omega arith)
stands_once stream bad_line (command b) m n h k = absurd (command_not_bad stream b n m k h)
stands_once stream bad_line bad_line m n h k =
    let line = line_once stream h.long k.long h.line k.line in (refl, h.taken_is ∙ (ap (λ (n : ℕ). n + 2) line ∙ sym k.taken_is))
stands_once stream bad_line long_line m n h k = absurd (not_long stream h.long h.line k.0)
stands_once stream bad_line bad_block m n h k = absurd (announced_not_bad stream k.0.long k.0.bytes m k.0.line h)
stands_once stream bad_line big_block m n h k = absurd (announced_not_bad stream k.0.long k.0.bytes m k.0.line h)
stands_once stream long_line (command b) m n h k = absurd (not_long stream k.long k.line h.0)
stands_once stream long_line bad_line m n h k = absurd (not_long stream k.long k.line h.0)
stands_once stream long_line long_line m n h k = (refl, h.1 ∙ sym k.1)
stands_once stream long_line bad_block m n h k = absurd (not_long stream k.0.long k.0.line.line h.0)
stands_once stream long_line big_block m n h k = absurd (not_long stream k.0.long k.0.line.line h.0)
stands_once stream bad_block (command b) m n h k = absurd (h.0.wrong (block_there stream b h.0.long h.0.bytes n k h.0.line).1)
stands_once stream bad_block bad_line m n h k = absurd (announced_not_bad stream h.0.long h.0.bytes n h.0.line k)
stands_once stream bad_block long_line m n h k = absurd (not_long stream h.0.long h.0.line.line k.0)
stands_once stream bad_block bad_block m n h k = (refl, h.1 ∙ sym k.1)
stands_once stream bad_block big_block m n h k =
    let same = (size_once stream h.0.long k.0.long h.0.bytes k.0.bytes h.0.line k.0.line).1 in
    let small = h.0.small in let big = k.0.big in absurd (omega arith)
stands_once stream big_block (command b) m n h k = let small =
    (block_there stream b h.0.long h.0.bytes n k h.0.line).0 in let big = h.0.big in absurd (omega arith)
stands_once stream big_block bad_line m n h k = absurd (announced_not_bad stream h.0.long h.0.bytes n h.0.line k)
stands_once stream big_block long_line m n h k = absurd (not_long stream h.0.long h.0.line.line k.0)
stands_once stream big_block bad_block m n h k =
    let same = (size_once stream h.0.long k.0.long h.0.bytes k.0.bytes h.0.line k.0.line).1 in
    let big = h.0.big in let small = k.0.small in absurd (omega arith)
stands_once stream big_block big_block m n h k = (refl, h.1 ∙ sym k.1)

-- the items of a front are the first of the whole
first_more : (stream more : List ℕ) (items : List Item) (m : ℕ) → AreFirst stream items m → AreFirst (stream ++ more) items m
first_more stream more [] m h = h
first_more stream more (item ∷ items) m h =
    let (one, others, stands, rest, sum) = h in
    let cut : drop one (stream ++ more) ≡ drop one stream ++ more = drop-append-le one stream more (stands_fit stream item one stands) in (
      one,
      others,
      stands_more stream more item one stands,
      subst (λ (bytes : List ℕ). AreFirst bytes items others) (sym cut) (first_more (drop one stream) more items others rest),
      sum,
    )

-- those that stand behind them go on
pieces_join : (front more : List ℕ) (items others : List Item) (m n : ℕ)
    → AreFirst front items m → AreFirst (drop m front ++ more) others n → AreFirst (front ++ more) (items ++ others) (m + n)
pieces_join front more [] others m n h k =
    let whole : AreFirst (front ++ more) others n = rw h at k in subst (λ (taken : ℕ). AreFirst (front ++ more) others taken) (omega (arith, h)) whole
pieces_join front more (item ∷ items) others m n h k =
    let (one, left, stands, rest, sum) = h in
    let cut : drop one (front ++ more) ≡ drop one front ++ more = drop-append-le one front more (stands_fit front item one stands) in
    let behind : drop m front ≡ drop left (drop one front) = ap (λ (taken : ℕ). drop taken front) sum ∙ sym (drop-drop left one front) in
    let next : AreFirst (drop one front ++ more) (items ++ others) (left + n) =
    pieces_join (drop one front) more items others left n rest (subst (λ (bytes : List ℕ). AreFirst (bytes ++ more) others n) behind k) in (
      one,
      left + n,
      stands_more front more item one stands,
      subst (λ (bytes : List ℕ). AreFirst bytes (items ++ others) (left + n)) (sym cut) next,
      omega (arith, sum),
    )

-- items behind which nothing stands are all
all_items : (stream : List ℕ) (items others : List Item) (m n : ℕ)
    → AreFirst stream items m → IsOpen (drop m stream) → AreFirst stream others n → (rest : List Item) × (items ≡ others ++ rest)
all_items stream items [] m n h ended k = (items, refl)
all_items stream [] (b ∷ bs) m n h ended k =
    let (one, left, stands, rest, sum) = k in
    let here : IsOpen stream = rw h at ended in
    absurd (here b one stands)
all_items stream (a ∷ items) (b ∷ others) m n h ended k =
    let (one, left, stands, rest, sum) = h in
    let (one', left', stands', rest', sum') = k in
    let same = stands_once stream a b one one' stands stands' in
    let behind : drop m stream ≡ drop left (drop one stream) = ap (λ (taken : ℕ). drop taken stream) sum ∙ sym (drop-drop left one stream) in
    let next = all_items (drop one stream) items others left left' rest (subst (λ (bytes : List ℕ). IsOpen bytes) behind ended)
    (subst (λ (taken : ℕ). AreFirst (drop taken stream) others left') (sym same.1) rest') in
    (next.0, ap (λ (i : Item). i ∷ items) same.0 ∙ ap (λ (is : List Item). b ∷ is) next.1)

-- a stream's items are told by its bytes alone
pub streams_tell : StreamsTellItems
streams_tell = record { fits = stands_fit; one = stands_once; stays = stands_more; pieces = pieces_join; all = all_items }
