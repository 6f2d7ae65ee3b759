-- What stands first in a stream: whatever comes behind it, and in how many bytes.
use Rattle.std.proofs.Common.{ℕ, ◌+◌, ◌*◌, ◌≡◌, ◌<◌, ◌≤◌, ◌⊎◌, inl, inr, Bool, List, [], ◌∷◌, ◌++◌, length, take, drop, Some, arith, refl, sym, ap, subst, ◌∙◌}
use Rattle.std.specs.Prelude.{◌==◌, if◌then◌else◌}
use Rattle.std.proofs.lemmas.Bool.{cases_lt}
use Rattle.std.proofs.lemmas.List.{drop-append-le, length-append}
use Rattle.mc_text.specs.Words.{words_in}
use Rattle.mc_text.specs.PlainVerbs.{text_of}
use Rattle.mc_text.specs.PlainLines.{said_with, verb_of, IsHead, SayWhole}
use Rattle.mc_text.specs.declared.plain_lines.Storing.{Storing}
use Rattle.mc_text.specs.declared.plain_lines.Storing.TheVariants as storing
use Rattle.mc_text.specs.declared.plain_lines.PlainHead.{PlainHead}
use Rattle.mc_text.specs.declared.plain_lines.PlainSaid.{PlainSaid}
use Rattle.mc_text.specs.declared.plain_verb_words.PlainVerb.{PlainVerb}
use Rattle.mc_text.specs.declared.plain_verb_words.PlainVerb.TheVariants as verb
use Rattle.mc_text.specs.Streams as leases
use Rattle.mc_text.proofs.FrontLemmas.{line_once}
use Rattle.mc_text.proofs.StreamLemmas.{ends_less, line_more, line_bytes, words_more, block_more, not_long, stands_more, stands_fit}
use Rattle.mc_text.proofs.VerbLemmas.{letters}
use Rattle.mixed_lines.specs.Items.{IsPlainLine, IsNoPlainLine, IsWhole, IsHeaded, IsBadPlain, AwaitsBlock, IsOther}
use Rattle.mixed_lines.specs.Items.{Item, command, plain, bad_line, long_line, bad_block, big_block, IsFirst, IsOpen, AreFirst}
use Rattle.mixed_lines.proofs.OnceLemmas.{head_once}
use Rattle.mixed_lines.proofs.BoundLemmas.{ends_or_not, stands_bound, open_bound}

-- a line of a plain command stays where it is
plain_more : (stream more : List ℕ) (long : ℕ) (verb : PlainVerb) (args : List (List ℕ))
    → IsPlainLine stream long verb args → IsPlainLine (stream ++ more) long verb args
plain_more stream more long verb args h = record {
  line = line_more stream more long h.line;
  words = words_more (λ ws. ws ≡ text_of verb ∷ args) stream more long h.line h.words;
}

headed_more : (stream more : List ℕ) (long : ℕ) (head : PlainHead) → IsHeaded stream long head → IsHeaded (stream ++ more) long head
headed_more stream more long head h =
    record { verb = h.verb; args = h.args; line = plain_more stream more long h.verb h.args h.line; says = h.says }

-- what stands first by the grammar of lease commands has a line, or none can come
line_in : (stream : List ℕ) (item : leases.Item) (taken : ℕ) → leases.IsFirst stream item taken
    → ((long : ℕ) × leases.IsLine stream long) ⊎ leases.IsLong stream
line_in stream (leases.command said) taken h = inl (h.long, h.line)
line_in stream leases.bad_line taken h = inl (h.long, h.line)
line_in stream leases.long_line taken h = inr h.0
line_in stream leases.bad_block taken h = inl (h.0.long, h.0.line.line)
line_in stream leases.big_block taken h = inl (h.0.long, h.0.line.line)

no_plain_more : (stream more : List ℕ) (item : leases.Item) (taken : ℕ) → IsOther stream item taken → IsNoPlainLine (stream ++ more)
no_plain_more stream more item taken h long verb args p = by (line_in stream item taken h.0)
  where
    by : ((at : ℕ) × leases.IsLine stream at) ⊎ leases.IsLong stream → ⊥
    by (inl l) =
        let same : long ≡ l.0 = line_once (stream ++ more) long l.0 p.line (line_more stream more l.0 l.1) in
        h.1 l.0 verb args (record {
          line = l.1;
          words = ap words_in (sym (line_bytes stream more l.0 l.1))
              ∙ (ap (λ (n : ℕ). words_in (take n (stream ++ more))) (sym same) ∙ p.words);
        })
    by (inr l) = not_long (stream ++ more) long p.line (stands_more stream more leases.long_line 0 (l, refl)).0

other_more : (stream more : List ℕ) (item : leases.Item) (taken : ℕ) → IsOther stream item taken → IsOther (stream ++ more) item taken
other_more stream more item taken h = (stands_more stream more item taken h.0, no_plain_more stream more item taken h)

-- what stands first stays first
pub item_more : (stream more : List ℕ) (item : Item) (taken : ℕ) → IsFirst stream item taken → IsFirst (stream ++ more) item taken
item_more stream more (command said) taken h = other_more stream more (leases.command said) taken h
item_more stream more (plain said noreply) taken (inl h) = inl (record {
  long = h.long;
  verb = h.verb;
  args = h.args;
  line = plain_more stream more h.long h.verb h.args h.line;
  says = h.says;
  taken_is = h.taken_is;
})
item_more stream more (plain said noreply) taken (inr h) = inr (record {
  long = h.long;
  head = h.head;
  line = headed_more stream more h.long h.head h.line;
  block = h.block;
  block_is = block_more stream more (h.long + 2) (Some h.head.fields.bytes) h.block h.block_is;
  said_is = h.said_is;
  noreply_is = h.noreply_is;
  taken_is = h.taken_is;
})
item_more stream more bad_line taken (inl h) = inl (other_more stream more leases.bad_line taken h)
item_more stream more bad_line taken (inr h) = inr (record {
  long = h.long;
  verb = h.verb;
  args = h.args;
  line = plain_more stream more h.long h.verb h.args h.line;
  no_whole = h.no_whole;
  no_head = h.no_head;
  taken_is = h.taken_is;
})
item_more stream more long_line taken h = other_more stream more leases.long_line taken h
item_more stream more bad_block taken (inl h) = inl (other_more stream more leases.bad_block taken h)
item_more stream more bad_block taken (inr h) =
    let b = h.0 in
    inr (
      record {
        long = b.long;
        head = b.head;
        line = headed_more stream more b.long b.head b.line;
        small = b.small;
        there = omega (arith, length-append stream more, b.there);
        wrong = λ e. b.wrong (ends_less stream more (b.long + 2 + b.head.fields.bytes) b.there e);
      },
      h.1,
    )
item_more stream more big_block taken (inl h) = inl (other_more stream more leases.big_block taken h)
item_more stream more big_block taken (inr h) =
    let b = h.0 in
    inr (record { long = b.long; head = b.head; line = headed_more stream more b.long b.head b.line; big = b.big }, h.1)

-- it takes no more bytes than there are
pub item_fits : (stream : List ℕ) (item : Item) (taken : ℕ) → IsFirst stream item taken → taken ≤ length stream
item_fits stream (command said) taken h = stands_fit stream (leases.command said) taken h.0
item_fits stream (plain said noreply) taken (inl h) = let inside = h.line.line.ends.whole in omega (arith, h.taken_is)
item_fits stream (plain said noreply) taken (inr h) = let inside = h.block_is.1.whole in omega (arith, h.taken_is)
item_fits stream bad_line taken (inl h) = stands_fit stream leases.bad_line taken h.0
item_fits stream bad_line taken (inr h) = let inside = h.line.line.ends.whole in omega (arith, h.taken_is)
item_fits stream long_line taken h = stands_fit stream leases.long_line taken h.0
item_fits stream bad_block taken (inl h) = stands_fit stream leases.bad_block taken h.0
item_fits stream bad_block taken (inr h) = omega (arith, h.1)
item_fits stream big_block taken (inl h) = stands_fit stream leases.big_block taken h.0
item_fits stream big_block taken (inr h) = omega (arith, h.1)

-- the items of a front are the first of the whole
pub first_more : (stream more : List ℕ) (items : List Item) (size : ℕ) → AreFirst stream items size → AreFirst (stream ++ more) items size
first_more stream more [] size h = h
first_more stream more (item ∷ items) size h =
    let (one, others, stands, rest, sum) = h in
    let cut : drop one (stream ++ more) ≡ drop one stream ++ more = drop-append-le one stream more (item_fits stream item one stands) in (
      one,
      others,
      item_more stream more item one stands,
      subst (λ (bytes : List ℕ). AreFirst bytes items others) (sym cut) (first_more (drop one stream) more items others rest),
      sum,
    )

-- how many bytes an item takes at most
item_bound : (stream : List ℕ) (item : Item) (taken : ℕ) → IsFirst stream item taken → taken ≤ 1050628
item_bound stream (command said) taken h = stands_bound stream (leases.command said) taken h.0
item_bound stream (plain said noreply) taken (inl h) = let short = h.line.line.short in omega (arith, h.taken_is)
item_bound stream (plain said noreply) taken (inr h) =
    let short = h.line.line.line.short in let small = h.block_is.0 in omega (arith, h.taken_is)
item_bound stream bad_line taken (inl h) = stands_bound stream leases.bad_line taken h.0
item_bound stream bad_line taken (inr h) = let short = h.line.line.short in omega (arith, h.taken_is)
item_bound stream long_line taken h = stands_bound stream leases.long_line taken h.0
item_bound stream bad_block taken (inl h) = stands_bound stream leases.bad_block taken h.0
item_bound stream bad_block taken (inr h) = omega (arith, h.1)
item_bound stream big_block taken (inl h) = stands_bound stream leases.big_block taken h.0
item_bound stream big_block taken (inr h) = omega (arith, h.1)

-- so many items take no more bytes than this
pub first_bound : (stream : List ℕ) (items : List Item) (size : ℕ) → AreFirst stream items size → size ≤ length items * 1050628
first_bound stream [] size h = omega (arith, h)
first_bound stream (item ∷ items) size h =
    let (one, others, stands, rest, sum) = h in
    let here = item_bound stream item one stands in
    let there = first_bound (drop one stream) items others rest in
    omega arith

-- a stream that has as many bytes as a command may have, and whose first line announces a block
shut_head : (stream : List ℕ) (long : ℕ) (head : PlainHead) → 1050628 ≤ length stream → IsHeaded stream long head → IsOpen stream → ⊥
shut_head stream long head many h is_open = by (cases_lt 1048576 head.fields.bytes) (ends_or_not stream (long + 2 + head.fields.bytes))
  where
    by : ((1048576 < head.fields.bytes) ⊎ (head.fields.bytes ≤ 1048576))
        → leases.EndsAt stream (long + 2 + head.fields.bytes) ⊎ (leases.EndsAt stream (long + 2 + head.fields.bytes) → ⊥) → ⊥
    by (inl big) here = is_open big_block 0 (inr (record { long = long; head = head; line = h; big = big }, refl))
    by (inr small) (inr wrong) =
        let short = h.line.line.short in
        is_open bad_block 0 (inr (record { long = long; head = head; line = h; small = small; there = omega arith; wrong = wrong }, refl))
    by (inr small) (inl ends) =
        let block : List ℕ = take head.fields.bytes (drop (long + 2) stream) in
        is_open (plain (said_with head block) head.noreply) (long + 2 + (head.fields.bytes + 2)) (inr (record {
          long = long;
          head = head;
          line = h;
          block = block;
          block_is = (small, ends, refl);
          said_is = refl;
          noreply_is = refl;
          taken_is = refl;
        }))

-- or is a plain command's at all
shut_plain : (stream : List ℕ) → 1050628 ≤ length stream → IsOpen stream → IsNoPlainLine stream
shut_plain stream many is_open long verb args p =
    is_open bad_line (long + 2) (inr (record {
      long = long;
      verb = verb;
      args = args;
      line = p;
      no_whole = λ said noreply says.
          is_open (plain said noreply) (long + 2) (inl (record { long = long; verb = verb; args = args; line = p; says = says; taken_is = refl }));
      no_head = λ head says. shut_head stream long head many (record { verb = verb; args = args; line = p; says = says }) is_open;
      taken_is = refl;
    }))

-- nothing stands first by the grammar of lease commands either
other_open : (stream : List ℕ) → IsOpen stream → (item : leases.Item) (taken : ℕ) → IsOther stream item taken → ⊥
other_open stream is_open (leases.command said) taken h = is_open (command said) taken h
other_open stream is_open leases.bad_line taken h = is_open bad_line taken (inl h)
other_open stream is_open leases.long_line taken h = is_open long_line taken h
other_open stream is_open leases.bad_block taken h = is_open bad_block taken (inl h)
other_open stream is_open leases.big_block taken h = is_open big_block taken (inl h)

-- where nothing whole stands, fewer bytes stand than a command may have
pub item_open_bound : (stream : List ℕ) → IsOpen stream → length stream < 1050628
item_open_bound stream is_open = by (cases_lt (length stream) 1050628)
  where
    by : (length stream < 1050628) ⊎ (1050628 ≤ length stream) → length stream < 1050628
    by (inl few) = few
    by (inr many) =
        let none = shut_plain stream many is_open in open_bound stream (λ item taken s. other_open stream is_open item taken (s, none))

-- where nothing stands by the grammar of lease commands, and no line of a plain one, nothing does
pub open_by : (stream : List ℕ) → IsNoPlainLine stream → leases.IsOpen stream → IsOpen stream
open_by stream none is_open (command said) taken h = is_open (leases.command said) taken h.0
open_by stream none is_open (plain said noreply) taken (inl h) = none h.long h.verb h.args h.line
open_by stream none is_open (plain said noreply) taken (inr h) = none h.long h.line.verb h.line.args h.line.line
open_by stream none is_open bad_line taken (inl h) = is_open leases.bad_line taken h.0
open_by stream none is_open bad_line taken (inr h) = none h.long h.verb h.args h.line
open_by stream none is_open long_line taken h = is_open leases.long_line taken h.0
open_by stream none is_open bad_block taken (inl h) = is_open leases.bad_block taken h.0
open_by stream none is_open bad_block taken (inr h) = none h.0.long h.0.line.verb h.0.line.args h.0.line.line
open_by stream none is_open big_block taken (inl h) = is_open leases.big_block taken h.0
open_by stream none is_open big_block taken (inr h) = none h.0.long h.0.line.verb h.0.line.args h.0.line.line

-- the verb whose first letters these are
abbrev verb_with : ℕ → PlainVerb
verb_with n =
    if n == 7628135 then verb.Get else
    if n == 1937007975 then verb.Gets else
    if n == 7628147 then verb.Set else
    if n == 6579297 then verb.Add else
    if n == 418431133042 then verb.Replace else
    if n == 7561571 then verb.Cas else
    if n == 499917808996 then verb.Delete else
    if n == 1919118953 then verb.Incr else
    verb.Decr

verb_back : (v : PlainVerb) → verb_with (letters (text_of v)) ≡ v
verb_back verb.Get = refl
verb_back verb.Gets = refl
verb_back verb.Set = refl
verb_back verb.Add = refl
verb_back verb.Replace = refl
verb_back verb.Cas = refl
verb_back verb.Delete = refl
verb_back verb.Incr = refl
verb_back verb.Decr = refl

-- a text is that of one verb
verb_once : (v w : PlainVerb) → text_of v ≡ text_of w → v ≡ w
verb_once v w e = sym (verb_back v) ∙ (ap (λ (text : List ℕ). verb_with (letters text)) e ∙ verb_back w)

pub first_once : (a b : List ℕ) (vs ws : List (List ℕ)) → a ∷ vs ≡ b ∷ ws → a ≡ b
first_once a b vs ws e = cc

tail_once : (a b : List ℕ) (vs ws : List (List ℕ)) → a ∷ vs ≡ b ∷ ws → vs ≡ ws
tail_once a b vs ws e = cc

-- one line of a plain command stands first
pub record SameLine (a b : ℕ) (v w : PlainVerb) (vs ws : List (List ℕ)) : Type 0 where
  pub long : a ≡ b
  pub verb : v ≡ w
  pub args : vs ≡ ws

pub plain_once : (stream : List ℕ) (a b : ℕ) (v w : PlainVerb) (vs ws : List (List ℕ))
    → IsPlainLine stream a v vs → IsPlainLine stream b w ws → SameLine a b v w vs ws
plain_once stream a b v w vs ws h k =
    let long : a ≡ b = line_once stream a b h.line k.line in
    let words : text_of v ∷ vs ≡ text_of w ∷ ws = sym h.words ∙ (ap (λ (n : ℕ). words_in (take n stream)) long ∙ k.words) in
    record { long = long; verb = verb_once v w (first_once (text_of v) (text_of w) vs ws words); args = tail_once (text_of v) (text_of w) vs ws words }

-- the first line announces one size
pub size_once : (stream : List ℕ) (a b : ℕ) (x y : PlainHead) → IsHeaded stream a x → IsHeaded stream b y → (a ≡ b) × (x.fields.bytes ≡ y.fields.bytes)
size_once stream a b x y h k =
    let same = plain_once stream a b h.verb k.verb h.args k.args h.line k.line in
    let says = subst (λ (v : PlainVerb). IsHead v k.args x) same.verb (subst (λ (words : List (List ℕ)). IsHead h.verb words x) same.args h.says) in
    (same.long, (head_once k.verb k.args x y says k.says).bytes)

-- the verb of a command with a block isn't that of one without
not_whole : (how : Storing) (words : List (List ℕ)) (said : PlainSaid) (noreply : Bool) → SayWhole (verb_of how) words said noreply → ⊥
not_whole storing.Set words said noreply h = h
not_whole storing.Add words said noreply h = h
not_whole storing.Replace words said noreply h = h
not_whole (storing.Cas unique) words said noreply h = h

pub whole_or_head : (stream : List ℕ) (long : ℕ) (head : PlainHead) (said : PlainSaid) (noreply : Bool) (taken : ℕ)
    → IsHeaded stream long head → IsWhole stream said noreply taken → ⊥
whole_or_head stream long head said noreply taken h w =
    let same = plain_once stream w.long long w.verb h.verb w.args h.args w.line h.line in
    not_whole head.storing w.args said noreply
    (subst (λ (v : PlainVerb). SayWhole v w.args said noreply) (same.verb ∙ h.says.0) w.says)

pub head_not_bad : (stream : List ℕ) (long : ℕ) (head : PlainHead) (taken : ℕ) → IsHeaded stream long head → IsBadPlain stream taken → ⊥
head_not_bad stream long head taken h b =
    let same = plain_once stream long b.long h.verb b.verb h.args b.args h.line b.line in
    b.no_head head (subst (λ (v : PlainVerb). IsHead v b.args head) same.verb
    (subst (λ (words : List (List ℕ)). IsHead h.verb words head) same.args h.says))

-- while the block that a plain command announces isn't whole, nothing stands
pub awaits_open : (stream : List ℕ) → AwaitsBlock stream → IsOpen stream
awaits_open stream w (command said) taken h = h.1 w.long w.line.verb w.line.args w.line.line
awaits_open stream w (plain said noreply) taken (inl h) = whole_or_head stream w.long w.head said noreply taken w.line h
awaits_open stream w (plain said noreply) taken (inr h) =
    let same = size_once stream h.long w.long h.head w.head h.line w.line in
    let whole = h.block_is.1.whole in let short = w.short in absurd (omega (arith, same.0, same.1))
awaits_open stream w bad_line taken (inl h) = h.1 w.long w.line.verb w.line.args w.line.line
awaits_open stream w bad_line taken (inr h) = head_not_bad stream w.long w.head taken w.line h
awaits_open stream w long_line taken h = h.1 w.long w.line.verb w.line.args w.line.line
awaits_open stream w bad_block taken (inl h) = h.1 w.long w.line.verb w.line.args w.line.line
awaits_open stream w bad_block taken (inr h) =
    let same = size_once stream h.0.long w.long h.0.head w.head h.0.line w.line in
    let there = h.0.there in let short = w.short in absurd (omega (arith, same.0, same.1))
awaits_open stream w big_block taken (inl h) = h.1 w.long w.line.verb w.line.args w.line.line
awaits_open stream w big_block taken (inr h) =
    let same = size_once stream h.0.long w.long h.0.head w.head h.0.line w.line in
    let big = h.0.big in let small = w.small in absurd (omega (arith, same.1))
