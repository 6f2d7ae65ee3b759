-- What a stream says doesn't depend on the pieces in which it comes.
use Rattle.std.proofs.Common.{ℕ, ◌+◌, ◌≡◌, ◌<◌, ◌≤◌, ◌⊎◌, inl, inr, Bool, List, [], ◌∷◌, ◌++◌, take, drop, Some, arith, refl, sym, ap, subst, ◌∙◌}
use Rattle.std.proofs.lemmas.List.{drop-append-le, drop-drop}
use Rattle.mc_text.specs.PlainLines.{said_with, IsHead, SayWhole}
use Rattle.mc_text.specs.declared.plain_lines.PlainHead.{PlainHead}
use Rattle.mc_text.specs.declared.plain_lines.PlainSaid.{PlainSaid}
use Rattle.mc_text.specs.declared.plain_verb_words.PlainVerb.{PlainVerb}
use Rattle.mc_text.specs.Streams as leases
use Rattle.mc_text.proofs.StreamLemmas.{streams_tell}
use Rattle.mixed_lines.specs.Items.{IsWhole, IsHeaded, IsBadPlain, IsOther}
use Rattle.mixed_lines.specs.Items.{Item, command, plain, bad_line, long_line, bad_block, big_block, IsFirst, IsOpen, AreFirst}
use Rattle.mixed_lines.specs.Laws.{StreamsTellItems}
use Rattle.mixed_lines.proofs.OnceLemmas.{whole_once, head_once}
use Rattle.mixed_lines.proofs.ItemLemmas.{item_fits, item_more, plain_once, whole_or_head, head_not_bad}

-- an item of the grammar of lease commands as one of both
abbrev lifted : leases.Item → Item
lifted (leases.command said) = command said
lifted leases.bad_line = bad_line
lifted leases.long_line = long_line
lifted leases.bad_block = bad_block
lifted leases.big_block = big_block

-- what stands first is of that grammar
record OfLease (stream : List ℕ) (item : Item) (taken : ℕ) : Type 0 where
  lease : leases.Item
  is : item ≡ lifted lease
  stands : IsOther stream lease taken

-- or a plain command alone in its line
record OfWhole (stream : List ℕ) (item : Item) (taken : ℕ) : Type 0 where
  said : PlainSaid
  noreply : Bool
  whole : IsWhole stream said noreply taken
  is : item ≡ plain said noreply

-- or a plain command's bad line
record OfBad (stream : List ℕ) (item : Item) (taken : ℕ) : Type 0 where
  bad : IsBadPlain stream taken
  is : item ≡ bad_line

-- what stands behind a line that announces a block: the block
record HasBlock (stream : List ℕ) (long : ℕ) (head : PlainHead) (item : Item) (taken : ℕ) : Type 0 where
  block : List ℕ
  block_is : leases.IsBlock stream (long + 2) (Some head.fields.bytes) block
  is : item ≡ plain (said_with head block) head.noreply
  taken_is : taken ≡ long + 2 + (head.fields.bytes + 2)

-- or a wrong one
record HasWrong (stream : List ℕ) (long : ℕ) (head : PlainHead) (item : Item) (taken : ℕ) : Type 0 where
  small : head.fields.bytes ≤ 1048576
  wrong : leases.EndsAt stream (long + 2 + head.fields.bytes) → ⊥
  is : item ≡ bad_block
  taken_is : taken ≡ 0

-- or one that is too big
record HasBig (head : PlainHead) (item : Item) (taken : ℕ) : Type 0 where
  big : 1048576 < head.fields.bytes
  is : item ≡ big_block
  taken_is : taken ≡ 0

abbrev Blocked : List ℕ → ℕ → PlainHead → Item → ℕ → Type 0
Blocked stream long head item taken = HasBlock stream long head item taken ⊎ (HasWrong stream long head item taken ⊎ HasBig head item taken)

record OfHead (stream : List ℕ) (item : Item) (taken : ℕ) : Type 0 where
  long : ℕ
  head : PlainHead
  line : IsHeaded stream long head
  blocked : Blocked stream long head item taken

abbrev Split : List ℕ → Item → ℕ → Type 0
Split stream item taken = OfLease stream item taken ⊎ (OfWhole stream item taken ⊎ (OfBad stream item taken ⊎ OfHead stream item taken))

of_lease : (stream : List ℕ) (lease : leases.Item) (taken : ℕ) → IsOther stream lease taken → Split stream (lifted lease) taken
of_lease stream lease taken h = inl (record { lease = lease; is = refl; stands = h })

split : (stream : List ℕ) (item : Item) (taken : ℕ) → IsFirst stream item taken → Split stream item taken
split stream (command said) taken h = of_lease stream (leases.command said) taken h
split stream (plain said noreply) taken (inl h) = inr (inl (record { said = said; noreply = noreply; whole = h; is = refl }))
split stream (plain said noreply) taken (inr h) = inr (inr (inr (record {
  long = h.long;
  head = h.head;
  line = h.line;
  blocked = inl (record {
    block = h.block;
    block_is = h.block_is;
    is = ap (λ (s : PlainSaid). plain s noreply) h.said_is ∙ ap (λ (n : Bool). plain (said_with h.head h.block) n) h.noreply_is;
    taken_is = h.taken_is;
  });
})))
split stream bad_line taken (inl h) = of_lease stream leases.bad_line taken h
split stream bad_line taken (inr h) = inr (inr (inl (record { bad = h; is = refl })))
split stream long_line taken h = of_lease stream leases.long_line taken h
split stream bad_block taken (inl h) = of_lease stream leases.bad_block taken h
split stream bad_block taken (inr h) = inr (inr (inr (record {
  long = h.0.long;
  head = h.0.head;
  line = h.0.line;
  blocked = inr (inl (record { small = h.0.small; wrong = h.0.wrong; is = refl; taken_is = h.1 }));
})))
split stream big_block taken (inl h) = of_lease stream leases.big_block taken h
split stream big_block taken (inr h) = inr (inr (inr (record {
  long = h.0.long;
  head = h.0.head;
  line = h.0.line;
  blocked = inr (inr (record { big = h.0.big; is = refl; taken_is = h.1 }));
})))

-- the same of two readings
abbrev Same : Item → Item → ℕ → ℕ → Type 0
Same a b m n = (a ≡ b) × (m ≡ n)

leases_same : (stream : List ℕ) (a b : Item) (m n : ℕ) → OfLease stream a m → OfLease stream b n → Same a b m n
leases_same stream a b m n h k =
    let same = streams_tell.one stream h.lease k.lease m n h.stands.0 k.stands.0 in
    (h.is ∙ (ap (λ (i : leases.Item). lifted i) same.0 ∙ sym k.is), same.1)

wholes_same : (stream : List ℕ) (a b : Item) (m n : ℕ) → OfWhole stream a m → OfWhole stream b n → Same a b m n
wholes_same stream a b m n h k =
    let x = h.whole in
    let y = k.whole in
    let line = plain_once stream x.long y.long x.verb y.verb x.args y.args x.line y.line in
    let says = subst (λ (v : PlainVerb). SayWhole v y.args h.said h.noreply) line.verb
    (subst (λ (words : List (List ℕ)). SayWhole x.verb words h.said h.noreply) line.args x.says) in
    let same = whole_once y.verb y.args h.said k.said h.noreply k.noreply says y.says in (
      h.is ∙ (ap (λ (s : PlainSaid). plain s h.noreply) same.0 ∙ (ap (λ (r : Bool). plain k.said r) same.1 ∙ sym k.is)),
      x.taken_is ∙ (ap (λ (l : ℕ). l + 2) line.long ∙ sym y.taken_is),
    )

bads_same : (stream : List ℕ) (a b : Item) (m n : ℕ) → OfBad stream a m → OfBad stream b n → Same a b m n
bads_same stream a b m n h k =
    let x = h.bad in
    let y = k.bad in
    let line = plain_once stream x.long y.long x.verb y.verb x.args y.args x.line y.line in
    (h.is ∙ sym k.is, x.taken_is ∙ (ap (λ (l : ℕ). l + 2) line.long ∙ sym y.taken_is))

whole_not_bad : (stream : List ℕ) (said : PlainSaid) (noreply : Bool) (m n : ℕ) → IsWhole stream said noreply m → IsBadPlain stream n → ⊥
whole_not_bad stream said noreply m n x y =
    let line = plain_once stream x.long y.long x.verb y.verb x.args y.args x.line y.line in
    y.no_whole said noreply (subst (λ (v : PlainVerb). SayWhole v y.args said noreply) line.verb
    (subst (λ (words : List (List ℕ)). SayWhole x.verb words said noreply) line.args x.says))

-- behind one line that announces a block
blocked_same : (stream : List ℕ) (long : ℕ) (x y : PlainHead) (a b : Item) (m n : ℕ) → x.fields.bytes ≡ y.fields.bytes → x.noreply ≡ y.noreply
    → ((block : List ℕ) → said_with x block ≡ said_with y block) → Blocked stream long x a m → Blocked stream long y b n → Same a b m n
blocked_same stream long x y a b m n bytes noreply said (inl h) (inl k) =
    let block : h.block ≡ k.block = h.block_is.2 ∙ (ap (λ (size : ℕ). take size (drop (long + 2) stream)) bytes ∙ sym k.block_is.2) in (
      h.is
          ∙ (ap (λ (s : PlainSaid). plain s x.noreply) (said h.block)
          ∙ (ap (λ (bytes : List ℕ). plain (said_with y bytes) x.noreply) block
          ∙ (ap (λ (r : Bool). plain (said_with y k.block) r) noreply ∙ sym k.is))),
      h.taken_is ∙ (ap (λ (size : ℕ). long + 2 + (size + 2)) bytes ∙ sym k.taken_is),
    )
blocked_same stream long x y a b m n bytes noreply said (inl h) (inr (inl k)) =
    absurd (k.wrong (subst (λ (size : ℕ). leases.EndsAt stream (long + 2 + size)) bytes h.block_is.1))
blocked_same stream long x y a b m n bytes noreply said (inl h) (inr (inr k)) = let small = h.block_is.0 in let big = k.big in absurd (omega (arith, bytes))
blocked_same stream long x y a b m n bytes noreply said (inr (inl h)) (inl k) =
    absurd (h.wrong (subst (λ (size : ℕ). leases.EndsAt stream (long + 2 + size)) (sym bytes) k.block_is.1))
blocked_same stream long x y a b m n bytes noreply said (inr (inl h)) (inr (inl k)) = (h.is ∙ sym k.is, h.taken_is ∙ sym k.taken_is)
blocked_same stream long x y a b m n bytes noreply said (inr (inl h)) (inr (inr k)) = let small = h.small in let big = k.big in absurd (omega (arith, bytes))
blocked_same stream long x y a b m n bytes noreply said (inr (inr h)) (inl k) = let small = k.block_is.0 in let big = h.big in absurd (omega (arith, bytes))
blocked_same stream long x y a b m n bytes noreply said (inr (inr h)) (inr (inl k)) = let small = k.small in let big = h.big in absurd (omega (arith, bytes))
blocked_same stream long x y a b m n bytes noreply said (inr (inr h)) (inr (inr k)) = (h.is ∙ sym k.is, h.taken_is ∙ sym k.taken_is)

heads_same : (stream : List ℕ) (a b : Item) (m n : ℕ) → OfHead stream a m → OfHead stream b n → Same a b m n
heads_same stream a b m n h k =
    let x = h.line in
    let y = k.line in
    let line = plain_once stream h.long k.long x.verb y.verb x.args y.args x.line y.line in
    let says = subst (λ (v : PlainVerb). IsHead v y.args h.head) line.verb (subst (λ (words : List (List ℕ)). IsHead x.verb words h.head) line.args x.says) in
    let same = head_once y.verb y.args h.head k.head says y.says in
    blocked_same stream k.long h.head k.head a b m n same.bytes same.noreply same.said
    (subst (λ (l : ℕ). Blocked stream l h.head a m) line.long h.blocked) k.blocked

-- what stands first is the same, of whichever kind
split_same : (stream : List ℕ) (a b : Item) (m n : ℕ) → Split stream a m → Split stream b n → Same a b m n
split_same stream a b m n (inl h) (inl k) = leases_same stream a b m n h k
split_same stream a b m n (inl h) (inr (inl k)) = absurd (h.stands.1 k.whole.long k.whole.verb k.whole.args k.whole.line)
split_same stream a b m n (inl h) (inr (inr (inl k))) = absurd (h.stands.1 k.bad.long k.bad.verb k.bad.args k.bad.line)
split_same stream a b m n (inl h) (inr (inr (inr k))) = absurd (h.stands.1 k.long k.line.verb k.line.args k.line.line)
split_same stream a b m n (inr (inl h)) (inl k) = absurd (k.stands.1 h.whole.long h.whole.verb h.whole.args h.whole.line)
split_same stream a b m n (inr (inl h)) (inr (inl k)) = wholes_same stream a b m n h k
split_same stream a b m n (inr (inl h)) (inr (inr (inl k))) = absurd (whole_not_bad stream h.said h.noreply m n h.whole k.bad)
split_same stream a b m n (inr (inl h)) (inr (inr (inr k))) = absurd (whole_or_head stream k.long k.head h.said h.noreply m k.line h.whole)
split_same stream a b m n (inr (inr (inl h))) (inl k) = absurd (k.stands.1 h.bad.long h.bad.verb h.bad.args h.bad.line)
split_same stream a b m n (inr (inr (inl h))) (inr (inl k)) = absurd (whole_not_bad stream k.said k.noreply n m k.whole h.bad)
split_same stream a b m n (inr (inr (inl h))) (inr (inr (inl k))) = bads_same stream a b m n h k
split_same stream a b m n (inr (inr (inl h))) (inr (inr (inr k))) = absurd (head_not_bad stream k.long k.head m k.line h.bad)
split_same stream a b m n (inr (inr (inr h))) (inl k) = absurd (k.stands.1 h.long h.line.verb h.line.args h.line.line)
split_same stream a b m n (inr (inr (inr h))) (inr (inl k)) = absurd (whole_or_head stream h.long h.head k.said k.noreply n h.line k.whole)
split_same stream a b m n (inr (inr (inr h))) (inr (inr (inl k))) = absurd (head_not_bad stream h.long h.head n h.line k.bad)
split_same stream a b m n (inr (inr (inr h))) (inr (inr (inr k))) = heads_same stream a b m n h k

-- one item stands first
item_once : (stream : List ℕ) (a b : Item) (m n : ℕ) → IsFirst stream a m → IsFirst stream b n → (a ≡ b) × (m ≡ n)
item_once stream a b m n h k = split_same stream a b m n (split stream a m h) (split stream b n k)

-- the items that stand behind those of a front go on
pieces_join : (front more : List ℕ) (items others : List Item) (m n : ℕ)
    → AreFirst front items m → AreFirst (drop m front ++ more) others n → AreFirst (front ++ more) (items ++ others) (m + n)
pieces_join front more [] others m n h k =
    let whole : AreFirst (front ++ more) others n = rw h at k in subst (λ (taken : ℕ). AreFirst (front ++ more) others taken) (omega (arith, h)) whole
pieces_join front more (item ∷ items) others m n h k =
    let (one, left, stands, rest, sum) = h in
    let cut : drop one (front ++ more) ≡ drop one front ++ more = drop-append-le one front more (item_fits front item one stands) in
    let behind : drop m front ≡ drop left (drop one front) = ap (λ (taken : ℕ). drop taken front) sum ∙ sym (drop-drop left one front) in
    let next : AreFirst (drop one front ++ more) (items ++ others) (left + n) =
    pieces_join (drop one front) more items others left n rest (subst (λ (bytes : List ℕ). AreFirst (bytes ++ more) others n) behind k) in (
      one,
      left + n,
      item_more front more item one stands,
      subst (λ (bytes : List ℕ). AreFirst bytes (items ++ others) (left + n)) (sym cut) next,
      omega (arith, sum),
    )

-- items behind which nothing stands are all
all_items : (stream : List ℕ) (items others : List Item) (m n : ℕ)
    → AreFirst stream items m → IsOpen (drop m stream) → AreFirst stream others n → (rest : List Item) × (items ≡ others ++ rest)
all_items stream items [] m n h ended k = (items, refl)
all_items stream [] (b ∷ bs) m n h ended k =
    let (one, left, stands, rest, sum) = k in
    let here : IsOpen stream = rw h at ended in
    absurd (here b one stands)
all_items stream (a ∷ items) (b ∷ others) m n h ended k =
    let (one, left, stands, rest, sum) = h in
    let (one', left', stands', rest', sum') = k in
    let same = item_once stream a b one one' stands stands' in
    let behind : drop m stream ≡ drop left (drop one stream) = ap (λ (taken : ℕ). drop taken stream) sum ∙ sym (drop-drop left one stream) in
    let next = all_items (drop one stream) items others left left' rest (subst (λ (bytes : List ℕ). IsOpen bytes) behind ended)
    (subst (λ (taken : ℕ). AreFirst (drop taken stream) others left') (sym same.1) rest') in
    (next.0, ap (λ (i : Item). i ∷ items) same.0 ∙ ap (λ (is : List Item). b ∷ is) next.1)

-- a stream's items are told by its bytes alone
pub mixed_streams_tell : StreamsTellItems
mixed_streams_tell = record { fits = item_fits; one = item_once; stays = item_more; pieces = pieces_join; all = all_items }
